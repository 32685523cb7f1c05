-- What is seen of changes makes of the selected objects before the selected objects after.
use Rattle.std.proofs.Common.{◌≡◌, Bool, true, false, cond, T, ◌&&◌, ℕ, List, [], ◌∷◌, ◌++◌, refl, sym, ap, subst, ◌∙◌, Option, Some, None, Ordering, Less, Equal, Greater, is_eq, is_lt, is_some, true≢false}
use Rattle.std.specs.Prelude.{filter, option_map}
use Rattle.std.specs.FinMap as fin
use Rattle.std.specs.FinMap.{find, is_sorted}
use Rattle.std.specs.FinMap.Entries.{below_all}
use Rattle.history.specs.History.{Key, Object, Objects, Change, key_cmp, is_same_key, object_by, left_by, put_or_remove, changed}
use Rattle.history.specs.Seen.{Selection, SeenChange, selected, if_wanted, seen_by, seen_of, seen_among, put_seen, put_all_seen}
use Rattle.history.proofs.Keys.{key_cmp_total, same, tied, get-put_or_remove}

pub both : (a b : Bool) → T a → T b → T (a && b)
both true b p q = q
both false b p q = p

pub fst : (a b : Bool) → T (a && b) → T a
fst true b p = tt
fst false b p = p

pub snd : (a b : Bool) → T (a && b) → T b
snd true b p = p
snd false b p = absurd p

abbrev pub Entries : Type 0
Entries = List (Key × Object)

-- ---- the entries that pass a test

below-filter : (p : Key × Object → Bool) (x : Key) (es : Entries) → T (below_all key_cmp x es) → T (below_all key_cmp x (filter p es))
below-filter p x [] h = tt
below-filter p x (e ∷ es) h =
    let rest = below-filter p x es (snd _ _ h) in
    elim (p e) as (λ b. T (below_all key_cmp x (cond b (e ∷ filter p es) (filter p es)))) [ true ↦ both _ _ (fst _ _ h) rest | false ↦ rest ]

pub is_sorted-filter : (p : Key × Object → Bool) (es : Entries) → T (is_sorted key_cmp es) → T (is_sorted key_cmp (filter p es))
is_sorted-filter p [] h = tt
is_sorted-filter p (e ∷ es) h =
    let rest = is_sorted-filter p es (snd _ _ h) in
    elim (p e) as (λ b. T (is_sorted key_cmp (cond b (e ∷ filter p es) (filter p es)))) [ true ↦ both _ _ (below-filter p e.0 es (fst _ _ h)) rest | false ↦ rest ]

-- the entries of the selection
pub entries-selected : (wanted : Selection) (s : Objects) → fin.entries (selected wanted s) ≡ filter (λ e. wanted e.0 e.1.body) (fin.entries s)
entries-selected wanted s = fin.entries-from_sorted key_cmp _ (is_sorted-filter _ (fin.entries s) (fin.entries_sorted s))

-- an object, where it is there and of the selection
abbrev pub kept_object : Selection → Key → Option Object → Option Object
kept_object wanted k None = None
kept_object wanted k (Some o) = cond (wanted k o.body) (Some o) None

-- what stands below all is not among them
pub not_below : (q : Key) (es : Entries) → T (below_all key_cmp q es) → find key_cmp q es ≡ None
not_below q [] h = refl
not_below q (e ∷ es) h = go (key_cmp q e.0) (fst _ _ h) (not_below q es (snd _ _ h))
  where
    go : (r : Ordering) → T (is_lt r) → find key_cmp q es ≡ None → cond (is_eq r) (Some e.1) (find key_cmp q es) ≡ None
    go Less h is = is
    go Equal h is = absurd h
    go Greater h is = absurd h

find-filter : (wanted : Selection) (q : Key) (es : Entries) → T (is_sorted key_cmp es) → find key_cmp q (filter (λ e. wanted e.0 e.1.body) es) ≡ kept_object wanted q (find key_cmp q es)
find-filter wanted q [] h = refl
find-filter wanted q (e ∷ es) h =
    go (is_same_key q e.0) refl (wanted e.0 e.1.body) refl (find-filter wanted q es (snd _ _ h))
  where
    go : (t : Bool) → is_same_key q e.0 ≡ t → (b : Bool) → wanted e.0 e.1.body ≡ b → find key_cmp q (filter (λ e. wanted e.0 e.1.body) es) ≡ kept_object wanted q (find key_cmp q es)
        → find key_cmp q (cond b (e ∷ filter (λ e. wanted e.0 e.1.body) es) (filter (λ e. wanted e.0 e.1.body) es)) ≡ kept_object wanted q (cond t (Some e.1) (find key_cmp q es))
    go true t true m r = rw t (sym (ap (λ b. cond b (Some e.1) None) (ap (λ k. wanted k e.1.body) (tied q e.0 t) ∙ m)))
    go true t false m r =
        let below : T (below_all key_cmp q (filter (λ e. wanted e.0 e.1.body) es)) = subst (λ k. T (below_all key_cmp k (filter (λ e. wanted e.0 e.1.body) es))) (sym (tied q e.0 t)) (below-filter _ e.0 es (fst _ _ h)) in
        not_below q _ below ∙ sym (ap (λ b. cond b (Some e.1) None) (ap (λ k. wanted k e.1.body) (tied q e.0 t) ∙ m))
    go false t true m r = rw t r
    go false t false m r = r

pub get-selected : (wanted : Selection) (s : Objects) (q : Key) → fin.get (selected wanted s) q ≡ kept_object wanted q (fin.get s q)
get-selected wanted s q =
    fin.get-from_sorted key_cmp _ q (is_sorted-filter _ (fin.entries s) (fin.entries_sorted s)) ∙ find-filter wanted q (fin.entries s) (fin.entries_sorted s)
    ∙ ap (kept_object wanted q) (sym (fin.get-entries s q))

-- ---- one change

abbrev body_of : Option Object → Option (List ℕ)
body_of = option_map (λ o. o.body)

kept_body : (wanted : Selection) (k : Key) (o : Option Object) → body_of (kept_object wanted k o) ≡ if_wanted wanted k (body_of o)
kept_body wanted k None = refl
kept_body wanted k (Some o) = go (wanted k o.body)
  where
    go : (b : Bool) → body_of (cond b (Some o) None) ≡ cond b (Some o.body) None
    go true = refl
    go false = refl

kept_left : (wanted : Selection) (k : Key) (r : ℕ) (body : Option (List ℕ)) → object_by r (if_wanted wanted k body) ≡ kept_object wanted k (object_by r body)
kept_left wanted k r None = refl
kept_left wanted k r (Some b) = go (wanted k b)
  where
    go : (t : Bool) → object_by r (cond t (Some b) None) ≡ cond t (Some (record { revision = r; body = b })) None
    go true = refl
    go false = refl

no_body : (o : Option Object) → body_of o ≡ None → o ≡ None
no_body None e = refl
no_body (Some o) e = absurd (true≢false (ap is_some e))

-- what is seen, if anything, makes of the objects what stands after the change
seen_applies : (s : Objects) (r : ℕ) (k : Key) (before after : Option (List ℕ)) (q : Key) → body_of (fin.get s k) ≡ before
    → fin.get (put_all_seen s (seen_by r k before after)) q ≡ cond (is_same_key q k) (object_by r after) (fin.get s q)
seen_applies s r k None None q is = nothing (is_same_key q k) refl
  where
    nothing : (t : Bool) → is_same_key q k ≡ t → fin.get s q ≡ cond t None (fin.get s q)
    nothing true t = ap (fin.get s) (tied q k t) ∙ no_body (fin.get s k) is
    nothing false t = refl
seen_applies s r k None (Some b) q is = fin.get-insert key_cmp_total s k (record { revision = r; body = b }) q
seen_applies s r k (Some a) (Some b) q is = fin.get-insert key_cmp_total s k (record { revision = r; body = b }) q
seen_applies s r k (Some a) None q is = fin.get-remove key_cmp_total s k q

kept-cond : (wanted : Selection) (s : Objects) (k : Key) (new : Option Object) (q : Key)
    → cond (is_same_key q k) (kept_object wanted k new) (kept_object wanted q (fin.get s q)) ≡ kept_object wanted q (cond (is_same_key q k) new (fin.get s q))
kept-cond wanted s k new q = go (is_same_key q k) refl
  where
    go : (t : Bool) → is_same_key q k ≡ t → cond t (kept_object wanted k new) (kept_object wanted q (fin.get s q)) ≡ kept_object wanted q (cond t new (fin.get s q))
    go true t = ap (λ x. kept_object wanted x new) (sym (tied q k t))
    go false t = refl

pub change_applies : (wanted : Selection) (s : Objects) (c : Change) → put_all_seen (selected wanted s) (seen_of wanted s c) ≡ selected wanted (put_or_remove s c.key (left_by c))
change_applies wanted s c = same _ _ (λ q.
    seen_applies (selected wanted s) c.revision c.key _ (if_wanted wanted c.key c.body) q (ap body_of (get-selected wanted s c.key) ∙ kept_body wanted c.key (fin.get s c.key))
    ∙ ap (λ o. cond (is_same_key q c.key) o (fin.get (selected wanted s) q)) (kept_left wanted c.key c.revision c.body)
    ∙ ap (cond (is_same_key q c.key) (kept_object wanted c.key (left_by c))) (get-selected wanted s q)
    ∙ kept-cond wanted s c.key (left_by c) q
    ∙ ap (kept_object wanted q) (sym (get-put_or_remove s c.key (left_by c) q))
    ∙ sym (get-selected wanted (put_or_remove s c.key (left_by c)) q))

-- ---- one after the other

pub put_all_seen-append : (s : Objects) (xs ys : List SeenChange) → put_all_seen s (xs ++ ys) ≡ put_all_seen (put_all_seen s xs) ys
put_all_seen-append s [] ys = refl
put_all_seen-append s (x ∷ xs) ys = put_all_seen-append (put_seen s x) xs ys

pub changes_apply : (wanted : Selection) (s : Objects) (cs : List Change) → put_all_seen (selected wanted s) (seen_among wanted s cs) ≡ selected wanted (changed s cs)
changes_apply wanted s [] = refl
changes_apply wanted s (c ∷ cs) =
    put_all_seen-append (selected wanted s) (seen_of wanted s c) _
    ∙ ap (λ o. put_all_seen o (seen_among wanted (put_or_remove s c.key (left_by c)) cs)) (change_applies wanted s c)
    ∙ changes_apply wanted (put_or_remove s c.key (left_by c)) cs
