-- The paths of a set, in order.
use Rattle.std.proofs.Common.{◌≡◌, ℕ, Bool, true, false, cond, ◌&&◌, ◌||◌, is_eq, is_lt, nat_cmp, List, [], ◌∷◌, ◌++◌, map, Option, Some, None, is_some, refl, sym, ap, ap₂, subst, ◌∙◌, true≢false, Ordering, Less, Equal, Greater}
use Rattle.std.specs.Prelude.{T}
use Rattle.std.specs.Cmp.{tied_itself}
use Rattle.std.specs.Cmp.Lexicographic.{slice_cmp}
use Rattle.std.specs.FinMap as fin
use Rattle.std.specs.FinMap.{find, is_sorted}
use Rattle.std.specs.FinMap.Entries.{below_all}
use Rattle.std.specs.FinSet as set
use Rattle.std.specs.List.{AllByRecursion, list_any}
use Rattle.std.specs.List.Sorted.{IsStrictlySortedBy}
use Rattle.std.specs.Str.{bytes_eq}
use Rattle.std.proofs.lemmas.Slice.Eq.{bytes_eq-Decides}
use Rattle.std.specs.Ordering.{eq_by_cmp, ordering_then}
use Rattle.std.proofs.lemmas.Cmp.{nat_list_cmp_total}
use Rattle.std.proofs.lemmas.List.Folds.{list_any-append}
use Rattle.std.proofs.lemmas.Map.Keys.{sorted_head, sorted_tail}
use Rattle.fieldpath.specs.Paths.{PathTexts, path_cmp}
use Rattle.pathmap.specs.Contents.{LeafValue, mark, Content, PathSet, nothing, under, over, gather, dom, marked, in_order}
use Rattle.pathmap.specs.Levels.{at_top, IsRising, child_of}
use Rattle.pathmap.specs.Maps.{content_or_nothing}
use Rattle.pathmap.specs.declared.held.PathValue.{PathValue}
use Rattle.pathmap.proofs.Contents.{path_cmp_total, path_cmp_antisymmetric, either, get-nothing, get-over, get-under, get-under-top}
use Rattle.pathmap.proofs.Heads.{first, second}
use Rattle.pathmap.proofs.Levels.{get-child, get-gather-top, get-level-gather, get-level-top, held_some}
use Rattle.pathmap.proofs.Sets.{same_paths, contains-dom, or_true}

-- ---- one list in order

holds : (b : Bool) → b ≡ true → T b
holds b e = subst T (sym e) tt

both : (a b : Bool) → T a → T b → T (a && b)
both true b p q = q
both false b p q = p

abbrev units : List PathTexts → List (PathTexts × Unit {0})
units = map (λ k. (k, tt))

below_units : (x : PathTexts) (ys : List PathTexts) → AllByRecursion (λ y. path_cmp x y ≡ Less) ys → T (below_all path_cmp x (units ys))
below_units x [] h = tt
below_units x (y ∷ ys) h = both (is_lt (path_cmp x y)) (below_all path_cmp x (units ys)) (holds (is_lt (path_cmp x y)) (ap is_lt h.0)) (below_units x ys h.1)

sorted_units : (xs : List PathTexts) → IsStrictlySortedBy path_cmp xs → T (is_sorted path_cmp (units xs))
sorted_units [] h = tt
sorted_units (x ∷ xs) h = both (below_all path_cmp x (units xs)) (is_sorted path_cmp (units xs)) (below_units x xs (sorted_head path_cmp x xs h)) (sorted_units xs (sorted_tail path_cmp x xs h))

cond_or : {X : Type 0} (a b : Bool) (x : X) → cond a (Some x) (cond b (Some x) None) ≡ cond (a || b) (Some x) None
cond_or true b x = refl
cond_or false b x = refl

find_units : (q : PathTexts) (xs : List PathTexts) → find path_cmp q (units xs) ≡ cond (list_any (eq_by_cmp path_cmp q) xs) (Some tt) None
find_units q [] = refl
find_units q (x ∷ xs) = ap (cond (eq_by_cmp path_cmp q x) (Some tt)) (find_units q xs) ∙ cond_or (eq_by_cmp path_cmp q x) (list_any (eq_by_cmp path_cmp q) xs) tt

keys_units : (xs : List PathTexts) → map (λ e. e.0) (units xs) ≡ xs
keys_units [] = refl
keys_units (x ∷ xs) = ap (λ ks. x ∷ ks) (keys_units xs)

-- two lists in order with the same paths are one
pub same_in_order : (xs ys : List PathTexts) → IsStrictlySortedBy path_cmp xs → IsStrictlySortedBy path_cmp ys → ((q : PathTexts) → list_any (eq_by_cmp path_cmp q) xs ≡ list_any (eq_by_cmp path_cmp q) ys) → xs ≡ ys
same_in_order xs ys h k alike =
    let of_xs = sorted_units xs h in
    let of_ys = sorted_units ys k in
    let maps : fin.from_sorted {R = path_cmp} (units xs) ≡ fin.from_sorted (units ys) = fin.same_map path_cmp_total path_cmp_antisymmetric (fin.from_sorted (units xs)) (fin.from_sorted (units ys)) (λ q.
    fin.get-from_sorted path_cmp (units xs) q of_xs ∙ find_units q xs ∙ ap (λ b. cond b (Some tt) None) (alike q) ∙ sym (fin.get-from_sorted path_cmp (units ys) q of_ys ∙ find_units q ys)) in
    sym (keys_units xs) ∙ ap (map (λ e. e.0)) (sym (fin.entries-from_sorted path_cmp (units xs) of_xs) ∙ ap fin.entries maps ∙ fin.entries-from_sorted path_cmp (units ys) of_ys) ∙ keys_units ys

is_less : (o : Ordering) → T (is_lt o) → o ≡ Less
is_less Less h = refl
is_less Equal h = absurd h
is_less Greater h = absurd h

below_keys : (x : PathTexts) (es : List (PathTexts × LeafValue)) → T (below_all path_cmp x es) → AllByRecursion (λ y. path_cmp x y ≡ Less) (map (λ e. e.0) es)
below_keys x [] h = tt
below_keys x (e ∷ es) h = (is_less (path_cmp x e.0) (first (is_lt (path_cmp x e.0)) (below_all path_cmp x es) h), below_keys x es (second (is_lt (path_cmp x e.0)) (below_all path_cmp x es) h))

sorted_keys : (es : List (PathTexts × LeafValue)) → T (is_sorted path_cmp es) → IsStrictlySortedBy path_cmp (map (λ e. e.0) es)
unfolding IsStrictlySortedBy
sorted_keys [] h = tt
sorted_keys (e ∷ es) h = (below_keys e.0 es (first (below_all path_cmp e.0 es) (is_sorted path_cmp es) h), sorted_keys es (second (below_all path_cmp e.0 es) (is_sorted path_cmp es) h))

-- the paths of a content ascend
pub keys_ascend : (c : Content) → IsStrictlySortedBy path_cmp (fin.keys c)
keys_ascend c = sorted_keys (fin.entries c) (fin.entries_sorted c)

-- ---- marks

find_mark : (q : PathTexts) (ps : List PathTexts) → find path_cmp q (map (λ p. (p, mark)) ps) ≡ cond (list_any (eq_by_cmp path_cmp q) ps) (Some mark) None
find_mark q [] = refl
find_mark q (p ∷ ps) = ap (cond (eq_by_cmp path_cmp q p) (Some mark)) (find_mark q ps) ∙ cond_or (eq_by_cmp path_cmp q p) (list_any (eq_by_cmp path_cmp q) ps) mark

pub get-marked : (s : PathSet) (q : PathTexts) → fin.get (marked s) q ≡ cond (set.contains s q) (Some mark) None
unfolding marked
get-marked s q = fin.get-from_entries path_cmp_total (map (λ p. (p, mark)) (set.items s)) q ∙ find_mark q (set.items s) ∙ ap (λ b. cond b (Some mark) None) (sym (set.contains-items s q))

pub is_marked : (s : PathSet) (q : PathTexts) → is_some (fin.get (marked s) q) ≡ set.contains s q
is_marked s q = ap is_some (get-marked s q) ∙ there (set.contains s q)
  where
    there : (b : Bool) → is_some (cond b (Some mark) None) ≡ b
    there true = refl
    there false = refl

pub dom-marked : (s : PathSet) → dom (marked s) ≡ s
dom-marked s = same_paths (dom (marked s)) s (λ q. contains-dom (marked s) q ∙ is_marked s q)

-- ---- the paths of a map, level by level

all_of_members : (P : PathTexts → Type 0) (xs : List PathTexts) → ((q : PathTexts) → list_any (eq_by_cmp path_cmp q) xs ≡ true → P q) → AllByRecursion P xs
all_of_members P [] h = tt
all_of_members P (x ∷ xs) h = (
  h x (ap (λ o. is_eq o || list_any (eq_by_cmp path_cmp x) xs) (tied_itself path_cmp_total x)),
  all_of_members P xs (λ q is. h q (ap (λ b. eq_by_cmp path_cmp q x || b) is ∙ or_true (eq_by_cmp path_cmp q x))),
)

pub members : (c : Content) (q : PathTexts) → list_any (eq_by_cmp path_cmp q) (in_order (dom c)) ≡ is_some (fin.get c q)
members c q = sym (fin.contains_key-keys (marked (dom c)) q) ∙ is_marked (dom c) q ∙ contains-dom c q

ascend : (c : Content) → IsStrictlySortedBy path_cmp (in_order (dom c))
ascend c = keys_ascend (marked (dom c))

all_append : (P : PathTexts → Type 0) (xs ys : List PathTexts) → AllByRecursion P xs → AllByRecursion P ys → AllByRecursion P (xs ++ ys)
all_append P [] ys h k = k
all_append P (x ∷ xs) ys h k = (h.0, all_append P xs ys h.1 k)

ascend_append : (xs ys : List PathTexts) → IsStrictlySortedBy path_cmp xs → IsStrictlySortedBy path_cmp ys → AllByRecursion (λ x. AllByRecursion (λ y. path_cmp x y ≡ Less) ys) xs → IsStrictlySortedBy path_cmp (xs ++ ys)
unfolding IsStrictlySortedBy
ascend_append [] ys h k across = k
ascend_append (x ∷ xs) ys h k across = (all_append (λ y. path_cmp x y ≡ Less) xs ys h.0 across.0, ascend_append xs ys h.1 k across.1)

ascend_none : IsStrictlySortedBy path_cmp []
unfolding IsStrictlySortedBy
ascend_none = tt

ascend_first : (xs : List PathTexts) → AllByRecursion (λ y. path_cmp [] y ≡ Less) xs → IsStrictlySortedBy path_cmp xs → IsStrictlySortedBy path_cmp ([] ∷ xs)
unfolding IsStrictlySortedBy
ascend_first xs h k = (h, k)

same_prefix : (f : List ℕ) (p q : PathTexts) → path_cmp (f ∷ p) (f ∷ q) ≡ path_cmp p q
same_prefix f p q = ap (λ o. ordering_then o (path_cmp p q)) (tied_itself nat_list_cmp_total f)

all_under : (f : List ℕ) (p : PathTexts) (xs : List PathTexts) → AllByRecursion (λ y. path_cmp p y ≡ Less) xs → AllByRecursion (λ y. path_cmp (f ∷ p) y ≡ Less) (map (λ q. f ∷ q) xs)
all_under f p [] h = tt
all_under f p (x ∷ xs) h = (same_prefix f p x ∙ h.0, all_under f p xs h.1)

ascend_under : (f : List ℕ) (xs : List PathTexts) → IsStrictlySortedBy path_cmp xs → IsStrictlySortedBy path_cmp (map (λ q. f ∷ q) xs)
unfolding IsStrictlySortedBy
ascend_under f [] h = tt
ascend_under f (x ∷ xs) h = (all_under f x xs h.0, ascend_under f xs h.1)

all_map : (P : PathTexts → Type 0) (f : List ℕ) → ((p : PathTexts) → P (f ∷ p)) → (xs : List PathTexts) → AllByRecursion P (map (λ q. f ∷ q) xs)
all_map P f h [] = tt
all_map P f h (x ∷ xs) = (h x, all_map P f h xs)

any_under : (f g : List ℕ) (r : PathTexts) (xs : List PathTexts) → list_any (eq_by_cmp path_cmp (g ∷ r)) (map (λ q. f ∷ q) xs) ≡ (is_eq (slice_cmp nat_cmp g f) && list_any (eq_by_cmp path_cmp r) xs)
any_under f g r [] = sym (none (is_eq (slice_cmp nat_cmp g f)))
  where
    none : (b : Bool) → (b && false) ≡ false
    none true = refl
    none false = refl
any_under f g r (x ∷ xs) = ap (λ b. eq_by_cmp path_cmp (g ∷ r) (f ∷ x) || b) (any_under f g r xs) ∙ by_first (slice_cmp nat_cmp g f)
  where
    by_first : (o : Ordering) → (is_eq (ordering_then o (path_cmp r x)) || (is_eq o && list_any (eq_by_cmp path_cmp r) xs)) ≡ (is_eq o && (eq_by_cmp path_cmp r x || list_any (eq_by_cmp path_cmp r) xs))
    by_first Less = refl
    by_first Equal = refl
    by_first Greater = refl

any_above : (f : List ℕ) (xs : List PathTexts) → list_any (eq_by_cmp path_cmp []) (map (λ q. f ∷ q) xs) ≡ false
any_above f [] = refl
any_above f (x ∷ xs) = any_above f xs

members_under : (f : List ℕ) (c : Content) (q : PathTexts) → list_any (eq_by_cmp path_cmp q) (map (λ q. f ∷ q) (in_order (dom c))) ≡ is_some (fin.get (under f c) q)
members_under f c [] = any_above f (in_order (dom c)) ∙ sym (ap is_some (get-under-top f c))
members_under f c (g ∷ r) = any_under f g r (in_order (dom c)) ∙ ap (λ b. is_eq (slice_cmp nat_cmp g f) && b) (members c r) ∙ by_tie (is_eq (slice_cmp nat_cmp g f)) ∙ sym (ap is_some (get-under f c g r))
  where
    by_tie : (b : Bool) → (b && is_some (fin.get c r)) ≡ is_some (cond b (fin.get c r) None)
    by_tie true = refl
    by_tie false = refl

some_either : (a b : Option LeafValue) → (is_some a || is_some b) ≡ is_some (either a b)
some_either None b = refl
some_either (Some v) b = refl

later : (k g : List ℕ) (es : List (List ℕ × Content)) → AllByRecursion (λ y. slice_cmp nat_cmp k y ≡ Less) (map (λ c. c.0) es) → is_some (child_of g es) ≡ true → slice_cmp nat_cmp k g ≡ Less
later k g [] h is = absurd (true≢false (sym is))
later k g (e ∷ es) h is = by_tie (later k g es h.1) (bytes_eq e.0 g) refl is
  where
    by_tie : (is_some (child_of g es) ≡ true → slice_cmp nat_cmp k g ≡ Less) → (b : Bool) → bytes_eq e.0 g ≡ b → is_some (cond b (Some e.1) (child_of g es)) ≡ true → slice_cmp nat_cmp k g ≡ Less
    by_tie rest true t is = ap (slice_cmp nat_cmp k) (sym ((bytes_eq-Decides e.0 g).0 t)) ∙ h.0
    by_tie rest false t is = rest is

module _ (e : List ℕ × Content) (es : List (List ℕ × Content)) (sorted : IsRising (e ∷ es)) where
  after : (p q : PathTexts) → is_some (fin.get (gather es) q) ≡ true → path_cmp (e.0 ∷ p) q ≡ Less
  after p [] is = absurd (true≢false (sym is ∙ ap is_some (get-gather-top es)))
  after p (g ∷ r) is =
      ap (λ o. ordering_then o (path_cmp p r)) (later e.0 g es (sorted_head (slice_cmp nat_cmp) e.0 (map (λ c. c.0) es) sorted)
      (there (child_of g es) (sym (ap is_some (get-child g es (sorted_tail (slice_cmp nat_cmp) e.0 (map (λ c. c.0) es) sorted) r)) ∙ is)))
    where
      there : (m : Option Content) → is_some (fin.get (content_or_nothing m) r) ≡ true → is_some m ≡ true
      there None is = absurd (true≢false (sym is ∙ ap is_some (get-nothing r)))
      there (Some n) is = refl

  -- the first child's paths, then those of the others
  pub in_order-first : in_order (dom (gather (e ∷ es))) ≡ map (λ q. e.0 ∷ q) (in_order (dom e.1)) ++ in_order (dom (gather es))
  in_order-first =
      let mine = map (λ q. e.0 ∷ q) (in_order (dom e.1)) in
      let rest = in_order (dom (gather es)) in
      same_in_order (in_order (dom (gather (e ∷ es)))) (mine ++ rest) (ascend (gather (e ∷ es)))
      (ascend_append mine rest (ascend_under (e.0) (in_order (dom e.1)) (ascend e.1)) (ascend (gather es))
      (all_map (λ x. AllByRecursion (λ y. path_cmp x y ≡ Less) rest) (e.0) (λ p. all_of_members (λ y. path_cmp (e.0 ∷ p) y ≡ Less) rest (λ q is. after p q (sym (members (gather es) q) ∙ is))) (in_order (dom e.1))))
      (λ q.
      members (gather (e ∷ es)) q ∙ ap is_some (get-over (under (e.0) e.1) (gather es) q)
      ∙ sym (list_any-append (eq_by_cmp path_cmp q) mine rest ∙ ap₂ (λ a b. a || b) (members_under (e.0) e.1 q) (members (gather es) q)
      ∙ some_either (fin.get (under (e.0) e.1) q) (fin.get (gather es) q)))

abbrev pub tops : Option PathValue → List PathTexts
tops h = cond (is_some h) ([] ∷ []) []

-- the empty path, then those below
pub in_order-level : (h : Option PathValue) (es : List (List ℕ × Content)) → in_order (dom (over (at_top h) (gather es))) ≡ tops h ++ in_order (dom (gather es))
in_order-level h es =
    let rest = in_order (dom (gather es)) in
    same_in_order (in_order (dom (over (at_top h) (gather es)))) (tops h ++ rest) (ascend (over (at_top h) (gather es))) (rising (is_some h))
    (λ q. members (over (at_top h) (gather es)) q ∙ by_path q ∙ sym (list_any-append (eq_by_cmp path_cmp q) (tops h) rest ∙ ap (λ b. list_any (eq_by_cmp path_cmp q) (tops h) || b) (members (gather es) q)))
  where
    first_of_all : (q : PathTexts) → is_some (fin.get (gather es) q) ≡ true → path_cmp [] q ≡ Less
    first_of_all [] is = absurd (true≢false (sym is ∙ ap is_some (get-gather-top es)))
    first_of_all (g ∷ r) is = refl

    rising : (b : Bool) → IsStrictlySortedBy path_cmp (cond b ([] ∷ []) [] ++ in_order (dom (gather es)))
    rising true =
        ascend_first (in_order (dom (gather es))) (all_of_members (λ y. path_cmp [] y ≡ Less) (in_order (dom (gather es))) (λ q is. first_of_all q (sym (members (gather es) q) ∙ is))) (ascend (gather es))
    rising false = ascend (gather es)

    at_empty : (b : Bool) → b ≡ (list_any (eq_by_cmp path_cmp []) (cond b ([] ∷ []) []) || false)
    at_empty true = refl
    at_empty false = refl

    elsewhere : (b : Bool) (g : List ℕ) (r : PathTexts) → list_any (eq_by_cmp path_cmp (g ∷ r)) (cond b ([] ∷ []) []) ≡ false
    elsewhere true g r = refl
    elsewhere false g r = refl

    by_path : (q : PathTexts) → is_some (fin.get (over (at_top h) (gather es)) q) ≡ (list_any (eq_by_cmp path_cmp q) (tops h) || is_some (fin.get (gather es) q))
    by_path [] = ap is_some (get-level-top h es) ∙ held_some h ∙ at_empty (is_some h) ∙ ap (λ o. list_any (eq_by_cmp path_cmp []) (tops h) || is_some o) (sym (get-gather-top es))
    by_path (g ∷ r) = ap is_some (get-level-gather h es g r) ∙ ap (λ b. b || is_some (fin.get (gather es) (g ∷ r))) (sym (elsewhere (is_some h) g r))

pub in_order-nothing : in_order (dom nothing) ≡ []
in_order-nothing = same_in_order (in_order (dom nothing)) [] (ascend nothing) ascend_none (λ q. members nothing q ∙ ap is_some (get-nothing q))
