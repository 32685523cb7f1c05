-- Entries in order, by neighbours, and what holds of each.
use Rattle.std.proofs.Common.{◌≡◌, ℕ, zero, suc, ◌+◌, ◌<◌, Bool, true, false, cond, not, ◌&&◌, List, [], ◌∷◌, length, get_or, drop, IsTrue, ◌↔◌, Some, refl, sym, ap, ap₂, ◌∙◌, add-one, arith, true≢false, subst, T, Less}
use Rattle.std.specs.FinMap as fin
use Rattle.std.specs.FinMap.{find, is_sorted}
use Rattle.std.specs.FinSet as set
use Rattle.std.specs.FinMap.Entries.{below_all}
use Rattle.std.specs.List.{AllByRecursion, IsAllAdjacentAnswer}
use Rattle.std.specs.Ordering.{eq_by_cmp, is_lt}
use Rattle.fieldpath.proofs.Names.{lt_is}
use Rattle.pathmap.specs.Beside.{is_empty}
use Rattle.pathmap.specs.Contents.{PathSet}
use Rattle.objects.specs.Managers.{pair, pairs, manager_view}
use Rattle.objects.specs.Owners.{Manager, HavePaths, manager_cmp}
use Rattle.objects.specs.Ranks.{have_paths, rising, rising_from}
use Rattle.objects.specs.declared.managers.Entry.{Entry}
use Rattle.objects.proofs.Entries.{Pairs, fst, snd, next, empty_is}
use Rattle.objects.proofs.Orders.{manager_total}
use Rattle.objects.proofs.Within.{both_true, left_true, right_true, same_manager-itself, same_manager-is}
use Rattle.objects.proofs.Taking.{none_above}
use Rattle.objects.proofs.Taken.{no_some, same_some}

is_true : (b : Bool) → T b → b ≡ true
is_true true h = refl
is_true false h = absurd h

is_so : (b : Bool) → b ≡ true → T b
is_so b h = subst T (sym h) tt

-- ---- by neighbours

abbrev pub below : Entry → Entry → Bool
below x y = is_lt (manager_cmp (manager_view x.manager) (manager_view y.manager))

and_false : (b : Bool) → b && false ≡ false
and_false true = refl
and_false false = refl

all_below : (x : Entry) (xs : List Entry) → ((k : ℕ) (d : Entry) → k + 1 < length (x ∷ xs) → true ≡ below (get_or (x ∷ xs) k d) (get_or (x ∷ xs) (k + 1) d)) → true ≡ rising_from (pair x).0 (pairs xs)
all_below x [] h = refl
all_below x (y ∷ xs) h = ap₂ (λ a b. a && b) (h 0 x (omega arith)) (all_below y xs (λ k d lt. rw add-one (let e = h (suc k) d (omega arith) in rw add-one at e)))

some_not : (x : Entry) (xs : List Entry) (k : ℕ) → k + 1 < length (x ∷ xs) → ((d : Entry) → false ≡ below (get_or (x ∷ xs) k d) (get_or (x ∷ xs) (k + 1) d)) → false ≡ rising_from (pair x).0 (pairs xs)
some_not x [] k lt h = absurd (omega arith)
some_not x (y ∷ xs) zero lt h = ap (λ b. b && rising_from (pair y).0 (pairs xs)) (h x)
some_not x (y ∷ xs) (suc k) lt h = sym (and_false (below x y)) ∙ ap (λ b. below x y && b) (some_not y xs k (omega arith) (λ d. rw add-one (let e = h d in rw add-one at e)))

pub rising_by_neighbours : (xs : List Entry) (r : Bool) → IsAllAdjacentAnswer (λ x y b. b ≡ below x y) xs r → r ≡ rising (pairs xs)
rising_by_neighbours [] true h = refl
rising_by_neighbours [] false h = absurd (omega (arith, h.1))
rising_by_neighbours (x ∷ xs) true h = all_below x xs h
rising_by_neighbours (x ∷ xs) false h = some_not x xs h.0 h.1 h.2

-- ---- sorted

pub sorted_rises : (es : Pairs) → T (is_sorted manager_cmp es) → rising es ≡ true
sorted_rises [] h = refl
sorted_rises (e ∷ es) h = from e.0 es (fst _ _ h) (snd _ _ h)
  where
    from : (k : Manager) (fs : Pairs) → T (below_all manager_cmp k fs) → T (is_sorted manager_cmp fs) → rising_from k fs ≡ true
    from k [] above up = refl
    from k (f ∷ fs) above up = both_true _ _ (is_true (is_lt (manager_cmp k f.0)) (fst _ _ above)) (from f.0 fs (fst _ _ up) (snd _ _ up))

above_all : (k l : Manager) (es : Pairs) → manager_cmp k l ≡ Less → rising_from l es ≡ true → T (below_all manager_cmp k es)
above_all k l [] lt h = tt
above_all k l (e ∷ es) lt h =
    let next = manager_total.trans k l e.0 lt (lt_is (manager_cmp l e.0) (left_true (is_lt (manager_cmp l e.0)) (rising_from e.0 es) h)) in
    is_so _ (both_true _ _ (ap is_lt next) (is_true _ (above_all k e.0 es next (right_true (is_lt (manager_cmp l e.0)) (rising_from e.0 es) h))))

sorted_from : (k : Manager) (paths : PathSet) (es : Pairs) → rising_from k es ≡ true → T (is_sorted manager_cmp ((k, paths) ∷ es))
sorted_from k paths [] h = tt
sorted_from k paths (e ∷ es) h =
    let lt = lt_is (manager_cmp k e.0) (left_true (is_lt (manager_cmp k e.0)) (rising_from e.0 es) h) in
    let rest = right_true (is_lt (manager_cmp k e.0)) (rising_from e.0 es) h in
    is_so _ (both_true _ _ (both_true _ _ (ap is_lt lt) (is_true _ (above_all k e.0 es lt rest))) (is_true _ (sorted_from e.0 e.1 es rest)))

pub rising_sorted : (es : Pairs) → rising es ≡ true → T (is_sorted manager_cmp es)
rising_sorted [] h = tt
rising_sorted (e ∷ es) h = sorted_from e.0 e.1 es h

-- ---- what holds of each entry

pub all_found : (P : Manager → PathSet → Type 0) (es : Pairs) → T (is_sorted manager_cmp es) → ((q : Manager) (paths : PathSet) → find manager_cmp q es ≡ Some paths → P q paths) → AllByRecursion (λ e. P e.0 e.1) es
all_found P [] up each = tt
all_found P (e ∷ es) up each = (each e.0 e.1 (ap (λ b. cond b (Some e.1) (find manager_cmp e.0 es)) (same_manager-itself e.0)), all_found P es (snd _ _ up) later)
  where
    later : (q : Manager) (paths : PathSet) → find manager_cmp q es ≡ Some paths → P q paths
    later q paths is = by_test (eq_by_cmp manager_cmp q e.0) refl
      where
        by_test : (b : Bool) → eq_by_cmp manager_cmp q e.0 ≡ b → P q paths
        by_test true same =
            no_some paths (sym is ∙ none_above q es (subst (λ k. T (below_all manager_cmp k es)) (sym (same_manager-is q e.0 same)) (fst _ _ up)))
        by_test false other = each q paths (ap (λ b. cond b (Some e.1) (find manager_cmp q es)) other ∙ is)

pub found_of_all : (P : Manager → PathSet → Type 0) (es : Pairs) → AllByRecursion (λ e. P e.0 e.1) es → (q : Manager) (paths : PathSet) → find manager_cmp q es ≡ Some paths → P q paths
found_of_all P [] all q paths is = no_some paths (sym is)
found_of_all P (e ∷ es) all q paths is = by_test (eq_by_cmp manager_cmp q e.0) refl (found_of_all P es all.1 q paths) is
  where
    by_test : (b : Bool) → eq_by_cmp manager_cmp q e.0 ≡ b → (find manager_cmp q es ≡ Some paths → P q paths) → cond b (Some e.1) (find manager_cmp q es) ≡ Some paths → P q paths
    by_test true same later there = subst (λ k. P k paths) (sym (same_manager-is q e.0 same)) (subst (P e.0) (same_some e.1 paths there) all.0)
    by_test false other later there = later there

-- entries that each have a path
pub all_nonempty : (es : Pairs) → have_paths es ≡ true → AllByRecursion (λ e. is_empty e.1 ≡ false) es
all_nonempty [] h = tt
all_nonempty (e ∷ es) h = (turned (is_empty e.1) (left_true (not (is_empty e.1)) (have_paths es) h), all_nonempty es (right_true (not (is_empty e.1)) (have_paths es) h))
  where
    turned : (b : Bool) → not b ≡ true → b ≡ false
    turned true e = absurd (true≢false (sym e))
    turned false e = refl

pub owners_have_paths : (es : Pairs) → have_paths es ≡ true → HavePaths (fin.from_entries {R = manager_cmp} es)
owners_have_paths es h m paths is = found_of_all (λ k s. is_empty s ≡ false) es (all_nonempty es h) m paths (sym (fin.get-from_entries manager_total es m) ∙ is)

pub first_decides : (es : List Entry) (i : ℕ) (e : Entry) (b : Bool) → i < length es → e ≡ get_or es i e → (IsTrue b ↔ (e.paths ≡ set.empty)) → have_paths (pairs (drop i es)) ≡ (not b && have_paths (pairs (drop (i + 1) es)))
first_decides es i e b lt is h = ap have_paths (next es i e lt is) ∙ ap (λ x. not x && have_paths (pairs (drop (i + 1) es))) (empty_is e.paths b h)
