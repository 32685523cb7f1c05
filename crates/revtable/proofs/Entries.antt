-- The objects at a revision are the standing changes up to it, in the order of keys.
use Rattle.std.proofs.Common.{◌≡◌, ℕ, Bool, true, false, cond, not, T, ◌&&◌, ◌||◌, List, [], ◌∷◌, ◌++◌, map, filter, refl, sym, ap, subst, ◌∙◌, Option, Some, None, is_some, Ordering, Less, Equal, Greater, is_eq, is_lt, IsPermutation, arith, length, append-nil}
use Rattle.std.specs.Prelude.{nat_le}
use Rattle.std.specs.List.{list_any, AllByRecursion}
use Rattle.std.specs.FinMap as fin
use Rattle.std.specs.FinMap.{is_sorted, put}
use Rattle.std.specs.FinMap.Entries.{below_all, where_key, is_sorted-where_key, find-where_key, by_order}
use Rattle.std.specs.Cmp.{alike_right}
use Rattle.std.proofs.lemmas.List.Sorted.{IsPermutation-sym, IsPermutation-trans, IsPermutation-cons, IsPermutation-middle, IsPermutation-append, IsPermutation-map, IsPermutation-refl}
use Rattle.sqlite.specs.Tree.{IsAscending}
use Rattle.sqlite_keyed.proofs.ListLemmas.{IsPermutation-filter, IsPermutation-same, filter_all, filter_same, all_weaker, all_of}
use Rattle.history.specs.History.{Key, Change, Object, Objects, key_cmp, is_same_key, object_by, left_by, put_or_remove, changed, up_to, state_at, IsRising}
use Rattle.revtable.specs.Asked.{as_change}
use Rattle.history.specs.Kept.{is_last_up_to}
use Rattle.history.proofs.Keys.{key_cmp_total, key_cmp_antisymmetric, same}
use Rattle.history.proofs.Lists.{filter_both}
use Rattle.history.proofs.CurrentObjects.{current_objects_by, current_objects_is, has_later}
use Rattle.revtable.proofs.Nexts.{same_key_symm}

abbrev pub Entry : Type 0
Entry = Key × Object

first : (a b : Bool) → T (a && b) → T a
first true b p = tt
first false b p = p

second : (a b : Bool) → T (a && b) → T b
second true b p = p
second false b p = absurd p

less : (o : Ordering) → T (is_lt o) → o ≡ Less
less Less p = refl
less Equal p = absurd p
less Greater p = absurd p

-- ---- entries rise

pub all_below : (k : Key) (es : List Entry) → T (below_all key_cmp k es) → AllByRecursion (λ e. key_cmp k e.0 ≡ Less) es
all_below k [] h = tt
all_below k (e ∷ es) h = (less (key_cmp k e.0) (first (is_lt (key_cmp k e.0)) (below_all key_cmp k es) h), all_below k es (second (is_lt (key_cmp k e.0)) (below_all key_cmp k es) h))

pub entries_ascend : (es : List Entry) → T (is_sorted key_cmp es) → IsAscending (λ e f. key_cmp e.0 f.0 ≡ Less) es
entries_ascend [] h = tt
entries_ascend (e ∷ es) h = (all_below e.0 es (first (below_all key_cmp e.0 es) (is_sorted key_cmp es) h), entries_ascend es (second (below_all key_cmp e.0 es) (is_sorted key_cmp es) h))

-- ---- a removal and an insertion

abbrev other_than : Key → Key → Bool
other_than k x = not (is_same_key k x)

entries-remove : (s : Objects) (k : Key) → fin.entries (fin.remove s k) ≡ where_key key_cmp (other_than k) (fin.entries s)
entries-remove s k =
    let sorted = is_sorted-where_key key_cmp (other_than k) (fin.entries s) (fin.entries_sorted s) in
    let alike : (q x : Key) → key_cmp q x ≡ Equal → other_than k x ≡ other_than k q = λ q x t. ap (λ r. not (is_eq r)) (sym (alike_right key_cmp_total q x k t)) in
    let equal : fin.from_sorted (where_key key_cmp (other_than k) (fin.entries s)) ≡ fin.remove s k = same _ _ (λ q.
    fin.get-from_sorted key_cmp _ q sorted ∙ find-where_key key_cmp (other_than k) q (alike q) (fin.entries s) ∙ ap (λ o. cond (other_than k q) o None) (sym (fin.get-entries s q))
    ∙ turned (is_same_key k q) (fin.get s q) ∙ ap (λ b. cond b None (fin.get s q)) (same_key_symm k q) ∙ sym (fin.get-remove key_cmp_total s k q)) in
    ap fin.entries (sym equal) ∙ fin.entries-from_sorted key_cmp _ sorted
  where
    turned : (b : Bool) (o : Option Object) → cond (not b) o None ≡ cond b None o
    turned true o = refl
    turned false o = refl

none_same : (k : Key) (es : List Entry) → AllByRecursion (λ e. key_cmp k e.0 ≡ Less) es → where_key key_cmp (other_than k) es ≡ es
none_same k es h = filter_all (λ e. other_than k e.0) es (all_weaker (λ e. key_cmp k e.0 ≡ Less) (λ e. other_than k e.0 ≡ true) (λ e is. ap (λ r. not (is_eq r)) is) es h)

-- an insertion puts the entry in place of the one of its key
put_shuffles : (k : Key) (v : Object) (es : List Entry) → T (is_sorted key_cmp es) → IsPermutation ((k, v) ∷ where_key key_cmp (other_than k) es) (put key_cmp k v es)
put_shuffles k v [] h = IsPermutation-refl _
put_shuffles k v (e ∷ es) h = go (key_cmp k e.0) refl (put_shuffles k v es (second (below_all key_cmp e.0 es) (is_sorted key_cmp es) h))
  where
    above : AllByRecursion (λ f. key_cmp e.0 f.0 ≡ Less) es
    above = all_below e.0 es (first (below_all key_cmp e.0 es) (is_sorted key_cmp es) h)

    go : (r : Ordering) → key_cmp k e.0 ≡ r → IsPermutation ((k, v) ∷ where_key key_cmp (other_than k) es) (put key_cmp k v es)
        → IsPermutation ((k, v) ∷ cond (not (is_eq r)) (e ∷ where_key key_cmp (other_than k) es) (where_key key_cmp (other_than k) es)) (by_order r ((k, v) ∷ e ∷ es) ((e.0, v) ∷ es) (e ∷ put key_cmp k v es))
    go Less is more = IsPermutation-same _ _ (ap (λ l. (k, v) ∷ e ∷ l) (none_same k es (all_weaker (λ f. key_cmp e.0 f.0 ≡ Less) (λ f. key_cmp k f.0 ≡ Less) (λ f lt. key_cmp_total.trans k e.0 f.0 is lt) es above)))
    go Equal is more =
        let eq : k ≡ e.0 = key_cmp_antisymmetric k e.0 is in
        IsPermutation-same _ _ (ap (λ x. (x, v) ∷ where_key key_cmp (other_than x) es) eq ∙ ap (λ l. (e.0, v) ∷ l) (none_same e.0 es above))
    go Greater is more = IsPermutation-trans _ _ _ (IsPermutation-sym _ _ (IsPermutation-middle (e ∷ []) (k, v) (where_key key_cmp (other_than k) es))) (IsPermutation-cons e _ _ more)

-- ---- the changes one after the other

-- whether one of these changes is of the key
abbrev touched : List Change → Key → Bool
touched cs k = list_any (λ d. is_same_key k d.key) cs

abbrev current_objects_of : List Change → List Change
current_objects_of [] = []
current_objects_of (d ∷ cs) = cond (is_some d.body && not (touched cs d.key)) (d ∷ current_objects_of cs) (current_objects_of cs)

abbrev untouched : List Change → List Entry → List Entry
untouched cs = filter (λ e. not (touched cs e.0))

two_tests : (d : Change) (cs : List Change) (es : List Entry) → untouched cs (where_key key_cmp (other_than d.key) es) ≡ untouched (d ∷ cs) es
two_tests d cs es =
    filter_both (λ e. not (touched cs e.0)) (λ e. other_than d.key e.0) es
    ∙ filter_same _ _ (λ e. ap (λ b. not b && not (touched cs e.0)) (same_key_symm d.key e.0) ∙ neither (is_same_key e.0 d.key) (touched cs e.0)) es
  where
    neither : (a b : Bool) → (not a && not b) ≡ not (a || b)
    neither true b = refl
    neither false b = refl

-- one change: what stood under other keys, and what the change left if no later one touches its key
module _ (s : Objects) (d : Change) (cs : List Change) where
  removed : untouched cs (fin.entries (fin.remove s d.key)) ≡ untouched (d ∷ cs) (fin.entries s)
  removed = ap (untouched cs) (entries-remove s d.key) ∙ two_tests d cs (fin.entries s)

  module _ (o : Object) where
    inserted : IsPermutation (untouched cs ((d.key, o) ∷ where_key key_cmp (other_than d.key) (fin.entries s))) (untouched cs (fin.entries (fin.insert s d.key o)))
    inserted = IsPermutation-filter (λ e. not (touched cs e.0)) _ _
        (subst (λ l. IsPermutation ((d.key, o) ∷ where_key key_cmp (other_than d.key) (fin.entries s)) l) (sym (fin.entries-insert key_cmp_total s d.key o)) (put_shuffles d.key o (fin.entries s) (fin.entries_sorted s)))

    split : (t : Bool) → touched cs d.key ≡ t
        → untouched cs ((d.key, o) ∷ where_key key_cmp (other_than d.key) (fin.entries s)) ≡ cond (not t) ((d.key, o) ∷ untouched (d ∷ cs) (fin.entries s)) (untouched (d ∷ cs) (fin.entries s))
    split t is =
        ap (λ u. cond (not u) ((d.key, o) ∷ untouched cs (where_key key_cmp (other_than d.key) (fin.entries s))) (untouched cs (where_key key_cmp (other_than d.key) (fin.entries s)))) is
        ∙ ap (λ l. cond (not t) ((d.key, o) ∷ l) l) (two_tests d cs (fin.entries s))

    shuffled : (t : Bool) → touched cs d.key ≡ t
        → IsPermutation (cond (not t) ((d.key, o) ∷ untouched (d ∷ cs) (fin.entries s)) (untouched (d ∷ cs) (fin.entries s))) (untouched cs (fin.entries (fin.insert s d.key o)))
    shuffled t is = subst (λ l. IsPermutation l (untouched cs (fin.entries (fin.insert s d.key o)))) (split t is) inserted

    by_touch : d ≡ as_change (d.key, o) → (t : Bool) → touched cs d.key ≡ t
        → IsPermutation (map as_change (untouched (d ∷ cs) (fin.entries s)) ++ cond (not t) (d ∷ current_objects_of cs) (current_objects_of cs)) (map as_change (untouched cs (fin.entries (fin.insert s d.key o))) ++ current_objects_of cs)
    by_touch eq true is = IsPermutation-append _ _ _ _ (IsPermutation-map as_change _ _ (shuffled true is)) (IsPermutation-refl (current_objects_of cs))
    by_touch eq false is =
        IsPermutation-trans _ _ _ (IsPermutation-middle (map as_change (untouched (d ∷ cs) (fin.entries s))) d (current_objects_of cs))
        (subst (λ x. IsPermutation (x ∷ map as_change (untouched (d ∷ cs) (fin.entries s)) ++ current_objects_of cs) (map as_change (untouched cs (fin.entries (fin.insert s d.key o))) ++ current_objects_of cs)) (sym eq)
        (IsPermutation-append _ _ _ _ (IsPermutation-map as_change _ _ (shuffled false is)) (IsPermutation-refl (current_objects_of cs))))

  by_body : (b : Option (List ℕ)) → d.body ≡ b
      → IsPermutation (map as_change (untouched (d ∷ cs) (fin.entries s)) ++ cond (is_some b && not (touched cs d.key)) (d ∷ current_objects_of cs) (current_objects_of cs))
      (map as_change (untouched cs (fin.entries (put_or_remove s d.key (object_by d.revision b)))) ++ current_objects_of cs)
  by_body None is = IsPermutation-same _ _ (ap (λ l. map as_change l ++ current_objects_of cs) (sym removed))
  by_body (Some b) is = by_touch (record { revision = d.revision; body = b }) (rw (sym is) refl) (touched cs d.key) refl

all_changes : (s : Objects) (cs : List Change) → IsPermutation (map as_change (untouched cs (fin.entries s)) ++ current_objects_of cs) (map as_change (fin.entries (changed s cs)))
all_changes s [] = IsPermutation-same _ _ (append-nil _ ∙ ap (map as_change) (filter_all (λ e. true) (fin.entries s) (all_of (λ e. true ≡ true) (λ e. refl) (fin.entries s))))
all_changes s (d ∷ cs) = IsPermutation-trans _ _ _ (by_body s d cs d.body refl) (all_changes (put_or_remove s d.key (left_by d)) cs)

-- ---- up to a revision

later_is : (r : ℕ) (k : Key) (cs : List Change) → has_later r k cs ≡ touched (up_to r cs) k
later_is r k [] = refl
later_is r k (d ∷ cs) = go (nat_le d.revision r) (later_is r k cs)
  where
    go : (b : Bool) → has_later r k cs ≡ touched (up_to r cs) k → ((b && is_same_key k d.key) || has_later r k cs) ≡ touched (cond b (d ∷ up_to r cs) (up_to r cs)) k
    go true more = ap (λ t. is_same_key k d.key || t) more
    go false more = more

current_objects_up_to : (r : ℕ) (cs : List Change) → current_objects_by r cs ≡ current_objects_of (up_to r cs)
current_objects_up_to r [] = refl
current_objects_up_to r (d ∷ cs) = go (nat_le d.revision r) (current_objects_up_to r cs)
  where
    go : (b : Bool) → current_objects_by r cs ≡ current_objects_of (up_to r cs)
        → cond (b && (is_some d.body && not (has_later r d.key cs))) (d ∷ current_objects_by r cs) (current_objects_by r cs) ≡ current_objects_of (cond b (d ∷ up_to r cs) (up_to r cs))
    go true more = ap (λ t. cond (is_some d.body && not t) (d ∷ current_objects_by r cs) (current_objects_by r cs)) (later_is r d.key cs) ∙ ap (λ l. cond (is_some d.body && not (touched (up_to r cs) d.key)) (d ∷ l) l) more
    go false more = more

no_length : {A : Type 0} (xs : List A) → length xs ≡ 0 → xs ≡ []
no_length [] e = refl
no_length (x ∷ xs) e = absurd (omega arith)

no_entries : fin.entries (fin.empty {X = Object} {R = key_cmp}) ≡ []
no_entries = no_length _ (sym (fin.len-entries fin.empty) ∙ fin.len-empty key_cmp Object)

pub current_objects_entries : (r lo top : ℕ) (cs : List Change) → IsRising lo cs top → IsPermutation (filter (is_last_up_to r cs) cs) (map as_change (fin.entries (state_at cs r)))
current_objects_entries r lo top cs rise =
    subst (λ l. IsPermutation l (map as_change (fin.entries (state_at cs r)))) (ap (λ es. map as_change (untouched (up_to r cs) es) ++ current_objects_of (up_to r cs)) no_entries ∙ sym (current_objects_is r lo top cs rise ∙ current_objects_up_to r cs))
    (all_changes fin.empty (up_to r cs))
