-- The notices between two lists in the order of places, one place after the other.
use Rattle.std.proofs.Common.{◌≡◌, Bool, true, false, cond, ◌&&◌, ◌||◌, T, List, [], ◌∷◌, ◌++◌, map, Option, Some, None, is_some, is_eq, Ordering, Less, Equal, Greater, refl, sym, ap, ap₂, subst, ◌∙◌, flat_map}
use Rattle.std.specs.Prelude.{length}
use Rattle.std.specs.Ordering.{eq_by_cmp, is_lt, ordering_reverse}
use Rattle.std.specs.Cmp.{tied_itself}
use Rattle.std.specs.FinMap as fin
use Rattle.std.specs.FinMap.Entries.{by_order, find, below_all, is_sorted, put, same_entries}
use Rattle.indexer.specs.Objects.{Place, place_cmp, Stored}
use Rattle.reflector.specs.Client.{Objects, Notice, added, deleted, notice_of, differences}
use Rattle.reflector.specs.BetweenViews.{between, first_notices, new_left, old_left}
use Rattle.reflector.proofs.Places.{place_total, same_place}
use Rattle.reflector.proofs.Keyed.{Entries, place_antisymmetric}

pub both : (a b : Bool) → T a → T b → T (a && b)
both true b p q = q
both false b p q = p

pub fst : (a b : Bool) → T (a && b) → T a
fst true b p = tt
fst false b p = p

pub snd : (a b : Bool) → T (a && b) → T b
snd true b p = p
snd false b p = absurd p

pub is_less : (o : Ordering) → T (is_lt o) → o ≡ Less
is_less Less p = refl
is_less Equal p = absurd p
is_less Greater p = absurd p

pub itself : (p : Place) → eq_by_cmp place_cmp p p ≡ true
itself p = ap is_eq (tied_itself place_total p)

not_itself : (p q : Place) → place_cmp p q ≡ Less → (b : Bool) → eq_by_cmp place_cmp q p ≡ b → b ≡ false
not_itself p q less true e = absurd (impossible (sym less ∙ ap (place_cmp p) (same_place q p e) ∙ tied_itself place_total p))
  where
    impossible : Less ≡ Equal → ⊥
    impossible h = cc
not_itself p q less false e = refl

-- ---- places alone

abbrev marked : Entries → List (Place × Bool)
marked [] = []
marked (e ∷ es) = (e.0, true) ∷ marked es

below_marked : (p : Place) (es : Entries) → below_all place_cmp p (marked es) ≡ below_all place_cmp p es
below_marked p [] = refl
below_marked p (e ∷ es) = ap (λ (b : Bool). is_lt (place_cmp p e.0) && b) (below_marked p es)

sorted_marked : (es : Entries) → is_sorted place_cmp (marked es) ≡ is_sorted place_cmp es
sorted_marked [] = refl
sorted_marked (e ∷ es) = ap₂ (λ (a b : Bool). a && b) (below_marked e.0 es) (sorted_marked es)

find_marked : (q : Place) (es : Entries) → find place_cmp q (marked es) ≡ cond (is_some (find place_cmp q es)) (Some true) None
find_marked q [] = refl
find_marked q (e ∷ es) = go (eq_by_cmp place_cmp q e.0) (find_marked q es)
  where
    go : (b : Bool) → find place_cmp q (marked es) ≡ cond (is_some (find place_cmp q es)) (Some true) None
        → cond b (Some true) (find place_cmp q (marked es)) ≡ cond (is_some (cond b (Some e.1) (find place_cmp q es))) (Some true) None
    go true h = refl
    go false h = h

keys_marked : (es : Entries) → map (λ e. e.0) (marked es) ≡ map (λ e. e.0) es
keys_marked [] = refl
keys_marked (e ∷ es) = ap (λ ps. e.0 ∷ ps) (keys_marked es)

below_put : (x k : Place) (v : Stored) (es : Entries) → T (is_lt (place_cmp x k)) → T (below_all place_cmp x es) → T (below_all place_cmp x (put place_cmp k v es))
below_put x k v [] p h = both _ _ p tt
below_put x k v (e ∷ es) p h = go (place_cmp k e.0) (below_put x k v es p (snd _ _ h))
  where
    go : (o : Ordering) → T (below_all place_cmp x (put place_cmp k v es)) → T (below_all place_cmp x (by_order o ((k, v) ∷ e ∷ es) ((e.0, v) ∷ es) (e ∷ put place_cmp k v es)))
    go Less more = both _ _ p h
    go Equal more = h
    go Greater more = both _ _ (fst _ _ h) more

nothing : fin.entries (fin.empty {X = Stored} {R = place_cmp}) ≡ []
nothing =
    let none : fin.entries (fin.from_sorted {X = Stored} {R = place_cmp} []) ≡ [] = fin.entries-from_sorted place_cmp [] tt in
    ap fin.entries (sym (fin.empty_of_len (fin.from_sorted {X = Stored} {R = place_cmp} []) (fin.len-entries (fin.from_sorted {X = Stored} {R = place_cmp} []) ∙ ap length none))) ∙ none

below_entries : (x : Place) (es : Entries) → T (below_all place_cmp x es) → T (below_all place_cmp x (fin.entries (fin.from_entries {R = place_cmp} es)))
below_entries x [] h = subst (λ es. T (below_all place_cmp x es)) (sym nothing) tt
below_entries x (e ∷ es) h =
    subst (λ fs. T (below_all place_cmp x fs)) (sym (fin.entries-insert place_total (fin.from_entries {R = place_cmp} es) e.0 e.1)) (below_put x e.0 e.1 _ (fst _ _ h) (below_entries x es (snd _ _ h)))

below_both : (x : Place) (es fs : Entries) → T (below_all place_cmp x es) → T (below_all place_cmp x fs) → T (below_all place_cmp x (es ++ fs))
below_both x [] fs h k = k
below_both x (e ∷ es) fs h k = both _ _ (fst _ _ h) (below_both x es fs (snd _ _ h) k)

found_in : (q : Place) (es fs : Entries) → is_some (find place_cmp q (es ++ fs)) ≡ (is_some (find place_cmp q es) || is_some (find place_cmp q fs))
found_in q [] fs = refl
found_in q (e ∷ es) fs = go (eq_by_cmp place_cmp q e.0) (found_in q es fs)
  where
    go : (b : Bool) → is_some (find place_cmp q (es ++ fs)) ≡ (is_some (find place_cmp q es) || is_some (find place_cmp q fs))
        → is_some (cond b (Some e.1) (find place_cmp q (es ++ fs))) ≡ (is_some (cond b (Some e.1) (find place_cmp q es)) || is_some (find place_cmp q fs))
    go true h = refl
    go false h = h

-- ---- the first place

-- p is the first place of xs and ys, where u and v stand; the others stand in xs' and ys'
module _ (p : Place) (u v : Option Stored) (xs xs' ys ys' : Entries) (low_x : T (below_all place_cmp p xs')) (low_y : T (below_all place_cmp p ys'))
    (in_x : (q : Place) → find place_cmp q xs ≡ cond (eq_by_cmp place_cmp q p) u (find place_cmp q xs'))
    (in_y : (q : Place) → find place_cmp q ys ≡ cond (eq_by_cmp place_cmp q p) v (find place_cmp q ys'))
    (some : (is_some u || is_some v) ≡ true) where
  abbrev left : Entries
  left = fin.entries (fin.from_entries {R = place_cmp} (xs' ++ ys'))

  abbrev all : Entries
  all = fin.entries (fin.from_entries {R = place_cmp} (xs ++ ys))

  low : T (below_all place_cmp p left)
  low = below_entries p (xs' ++ ys') (below_both p xs' ys' low_x low_y)

  in_left : (q : Place) → is_some (find place_cmp q left) ≡ (is_some (find place_cmp q xs') || is_some (find place_cmp q ys'))
  in_left q =
      ap is_some (sym (fin.get-entries (fin.from_entries {R = place_cmp} (xs' ++ ys')) q) ∙ fin.get-from_entries place_total (xs' ++ ys') q) ∙ found_in q xs' ys'

  in_all : (q : Place) → is_some (find place_cmp q all) ≡ (is_some (find place_cmp q xs) || is_some (find place_cmp q ys))
  in_all q =
      ap is_some (sym (fin.get-entries (fin.from_entries {R = place_cmp} (xs ++ ys)) q) ∙ fin.get-from_entries place_total (xs ++ ys) q) ∙ found_in q xs ys

  marks_all : marked all ≡ (p, true) ∷ marked left
  marks_all =
      same_entries place_cmp place_total place_antisymmetric (marked all) ((p, true) ∷ marked left)
      (subst T (sym (sorted_marked all)) (fin.entries_sorted (fin.from_entries {R = place_cmp} (xs ++ ys))))
      (both _ _ (subst T (sym (below_marked p left)) low) (subst T (sym (sorted_marked left)) (fin.entries_sorted (fin.from_entries {R = place_cmp} (xs' ++ ys')))))
      (λ q.
      find_marked q all ∙ ap (λ (b : Bool). cond b (Some true) None) (in_all q ∙ ap₂ (λ (a b : Option Stored). is_some a || is_some b) (in_x q) (in_y q))
      ∙ go (eq_by_cmp place_cmp q p) (find place_cmp q xs') (find place_cmp q ys')
      ∙ sym (ap (cond (eq_by_cmp place_cmp q p) (Some true)) (find_marked q left ∙ ap (λ (b : Bool). cond b (Some true) None) (in_left q))))
    where
      go : (e : Bool) (a b : Option Stored) → cond (is_some (cond e u a) || is_some (cond e v b)) (Some true) None ≡ cond e (Some true) (cond (is_some a || is_some b) (Some true) None)
      go true a b = ap (λ (t : Bool). cond t (Some true) None) some
      go false a b = refl

  places_all : map (λ e. e.0) all ≡ p ∷ map (λ e. e.0) left
  places_all = sym (keys_marked all) ∙ ap (map (λ e. e.0)) marks_all ∙ ap (λ ps. p ∷ ps) (keys_marked left)

  abbrev emitted_at : Place → List Notice
  emitted_at q = notice_of (find place_cmp q xs) (find place_cmp q ys)

  others : (es : Entries) → T (below_all place_cmp p es) → flat_map emitted_at (map (λ e. e.0) es) ≡ flat_map (λ q. notice_of (find place_cmp q xs') (find place_cmp q ys')) (map (λ e. e.0) es)
  others [] h = refl
  others (e ∷ es) h =
      let apart : eq_by_cmp place_cmp e.0 p ≡ false = not_itself p e.0 (is_less _ (fst _ _ h)) (eq_by_cmp place_cmp e.0 p) refl in
      ap₂ (λ a b. a ++ b)
      (ap₂ notice_of (in_x e.0 ∙ ap (λ t. cond t u (find place_cmp e.0 xs')) apart) (in_y e.0 ∙ ap (λ t. cond t v (find place_cmp e.0 ys')) apart))
      (others es (snd _ _ h))

  pub first_place : between xs ys ≡ notice_of u v ++ between xs' ys'
  first_place =
      ap (flat_map emitted_at) places_all
      ∙ ap₂ (λ a b. a ++ b)
      (ap₂ notice_of (in_x p ∙ ap (λ t. cond t u (find place_cmp p xs')) (itself p)) (in_y p ∙ ap (λ t. cond t v (find place_cmp p ys')) (itself p)))
      (others left low)

-- ---- one place after the other

pub find_low : (p q : Place) (es : Entries) → T (below_all place_cmp p es) → eq_by_cmp place_cmp q p ≡ true → find place_cmp q es ≡ None
find_low p q [] below e = refl
find_low p q (x ∷ es) below e =
    let same : q ≡ p = same_place q p e in
    ap (λ (r : Ordering). cond (is_eq r) (Some x.1) (find place_cmp q es)) (ap (λ t. place_cmp t x.0) same ∙ is_less _ (fst _ _ below)) ∙ find_low p q es (snd _ _ below) e

absent : (p : Place) (es : Entries) → T (below_all place_cmp p es) → (q : Place) → find place_cmp q es ≡ cond (eq_by_cmp place_cmp q p) None (find place_cmp q es)
absent p es below q = go (eq_by_cmp place_cmp q p) refl
  where
    go : (b : Bool) → eq_by_cmp place_cmp q p ≡ b → find place_cmp q es ≡ cond b None (find place_cmp q es)
    go true e = find_low p q es below e
    go false e = refl

pub below_lower : (p r : Place) (es : Entries) → place_cmp p r ≡ Less → T (below_all place_cmp r es) → T (below_all place_cmp p es)
below_lower p r [] less h = tt
below_lower p r (e ∷ es) less h =
    both _ _ (subst (λ o. T (is_lt o)) (sym (place_total.trans p r e.0 less (is_less _ (fst _ _ h)))) tt) (below_lower p r es less (snd _ _ h))

pub old_first : (x : Place × Stored) (xs ys : Entries) → T (below_all place_cmp x.0 xs) → T (below_all place_cmp x.0 ys) → between (x ∷ xs) ys ≡ deleted x.1 ∷ between xs ys
old_first x xs ys low_x low_y = first_place x.0 (Some x.1) None (x ∷ xs) xs ys ys low_x low_y (λ q. refl) (absent x.0 ys low_y) refl

pub new_first : (y : Place × Stored) (xs ys : Entries) → T (below_all place_cmp y.0 xs) → T (below_all place_cmp y.0 ys) → between xs (y ∷ ys) ≡ added y.1 ∷ between xs ys
new_first y xs ys low_x low_y = first_place y.0 None (Some y.1) xs xs (y ∷ ys) ys low_x low_y (absent y.0 xs low_x) (λ q. refl) refl

pub both_first : (x y : Place × Stored) (xs ys : Entries) → x.0 ≡ y.0 → T (below_all place_cmp x.0 xs) → T (below_all place_cmp y.0 ys)
    → between (x ∷ xs) (y ∷ ys) ≡ notice_of (Some x.1) (Some y.1) ++ between xs ys
both_first x y xs ys same low_x low_y =
    first_place x.0 (Some x.1) (Some y.1) (x ∷ xs) xs (y ∷ ys) ys low_x (subst (λ p. T (below_all place_cmp p ys)) (sym same) low_y) (λ q. refl)
    (λ q. ap (λ p. cond (eq_by_cmp place_cmp q p) (Some y.1) (find place_cmp q ys)) (sym same)) refl

pub nothing_emitted : between [] [] ≡ []
nothing_emitted = ap (λ (es : Entries). flat_map (λ (p : Place). notice_of None None) (map (λ e. e.0) es)) nothing

pub of_entries : (before after : Objects) → between (fin.entries before) (fin.entries after) ≡ differences before after
of_entries before after = go (fin.keys (fin.from_entries {R = place_cmp} (fin.entries before ++ fin.entries after)))
  where
    go : (ps : List Place) → flat_map (λ p. notice_of (find place_cmp p (fin.entries before)) (find place_cmp p (fin.entries after))) ps
        ≡ flat_map (λ p. notice_of (fin.get before p) (fin.get after p)) ps
    go [] = refl
    go (p ∷ ps) = ap₂ (λ a b. a ++ b) (ap₂ notice_of (sym (fin.get-entries before p)) (sym (fin.get-entries after p))) (go ps)

-- what is told of the first places, and what is left then
pub step : (o : Ordering) (x y : Place × Stored) (xs ys : Entries) → o ≡ place_cmp x.0 y.0 → T (is_sorted place_cmp (x ∷ xs)) → T (is_sorted place_cmp (y ∷ ys))
    → first_notices o (x ∷ xs) (y ∷ ys) ++ between (old_left o (x ∷ xs)) (new_left o (y ∷ ys)) ≡ between (x ∷ xs) (y ∷ ys)
step Less x y xs ys is h k =
    sym (old_first x xs (y ∷ ys) (fst _ _ h) (both _ _ (subst (λ o. T (is_lt o)) is tt) (below_lower x.0 y.0 ys (sym is) (fst _ _ k))))
step Equal x y xs ys is h k = sym (both_first x y xs ys (place_antisymmetric x.0 y.0 (sym is)) (fst _ _ h) (fst _ _ k))
step Greater x y xs ys is h k =
    let less : place_cmp y.0 x.0 ≡ Less = place_total.antisymm y.0 x.0 ∙ ap ordering_reverse (sym is) in
    sym (new_first y (x ∷ xs) ys (both _ _ (subst (λ o. T (is_lt o)) (sym less) tt) (below_lower y.0 x.0 xs less (fst _ _ h))) (fst _ _ k))
