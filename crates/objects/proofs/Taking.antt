-- Who owns what, once a manager has taken over.
use Rattle.std.proofs.Common.{◌≡◌, Bool, true, false, cond, not, ◌&&◌, [], ◌∷◌, Option, Some, None, is_some, refl, sym, ap, ◌∙◌, subst, T, is_lt, true≢false}
use Rattle.std.specs.FinMap as fin
use Rattle.std.specs.FinMap.{find, is_sorted}
use Rattle.std.specs.FinMap.Entries.{below_all, find-where_key}
use Rattle.std.specs.FinSet as set
use Rattle.std.specs.Option.{unwrap_or}
use Rattle.std.specs.Cmp.{Equal-is}
use Rattle.std.specs.Ordering.{eq_by_cmp}
use Rattle.fieldpath.specs.Paths.{path_cmp}
use Rattle.pathmap.specs.Beside.{is_empty}
use Rattle.pathmap.specs.Contents.{PathSet}
use Rattle.pathmap.proofs.Contents.{path_cmp_total}
use Rattle.pathmap.proofs.Sets.{no_paths, same_paths}
use Rattle.objects.specs.Owners.{Manager, Owners, HavePaths, is_same, owned_by, others, less, with_owner, taken_over, manager_cmp}
use Rattle.objects.proofs.Entries.{Pairs, fst, snd, is_other, is_sorted-filter}
use Rattle.objects.proofs.Within.{same_manager-is, same_manager-itself}
use Rattle.objects.proofs.Orders.{manager_total, manager_antisymmetric}

-- ---- sets less some paths
pub difference-empty : (s : PathSet) → set.difference s set.empty ≡ s
difference-empty s = same_paths (set.difference s set.empty) s (λ q. set.contains-difference path_cmp_total s set.empty q ∙ ap (λ b. set.contains s q && not b) (set.contains-empty path_cmp q) ∙ and_true (set.contains s q))
  where
    and_true : (b : Bool) → (b && true) ≡ b
    and_true true = refl
    and_true false = refl

pub empty-difference : (s : PathSet) → set.difference set.empty s ≡ set.empty
empty-difference s = same_paths (set.difference set.empty s) set.empty (λ q. set.contains-difference path_cmp_total set.empty s q ∙ ap (λ b. b && not (set.contains s q)) (set.contains-empty path_cmp q) ∙ sym (set.contains-empty path_cmp q))

-- a set that has a path
abbrev pub kept : PathSet → Option PathSet
kept s = cond (is_empty s) None (Some s)

abbrev pub kept_less : PathSet → Option PathSet → Option PathSet
kept_less lost None = None
kept_less lost (Some s) = kept (set.difference s lost)

pub owned_kept : (s : PathSet) → unwrap_or (kept s) set.empty ≡ s
owned_kept s = by_test (is_empty s) refl
  where
    by_test : (b : Bool) → is_empty s ≡ b → unwrap_or (cond b None (Some s)) set.empty ≡ s
    by_test true is = sym (no_paths s is)
    by_test false is = refl

pub owned_less : (lost : PathSet) (o : Option PathSet) → unwrap_or (kept_less lost o) set.empty ≡ set.difference (unwrap_or o set.empty) lost
owned_less lost None = sym (empty-difference lost)
owned_less lost (Some s) = owned_kept (set.difference s lost)

-- ---- looking among entries
pub tied : (q k : Manager) → eq_by_cmp manager_cmp q k ≡ true → q ≡ k
tied q k e = manager_antisymmetric q k ((Equal-is (manager_cmp q k)).0 e)

pub none_above : (q : Manager) (es : Pairs) → T (below_all manager_cmp q es) → find manager_cmp q es ≡ None
none_above q [] h = refl
none_above q (e ∷ es) h = by_test (eq_by_cmp manager_cmp q e.0) refl (none_above q es (snd _ _ h))
  where
    by_test : (b : Bool) → eq_by_cmp manager_cmp q e.0 ≡ b → find manager_cmp q es ≡ None → cond b (Some e.1) (find manager_cmp q es) ≡ None
    by_test true is later = absurd (subst (λ o. T (is_lt o)) ((Equal-is (manager_cmp q e.0)).0 is) (fst _ _ h))
    by_test false is later = later

-- the others, each less some paths
pub find_left : (lost : PathSet) (q : Manager) (es : Pairs) → T (is_sorted manager_cmp es) → find manager_cmp q (less lost es) ≡ kept_less lost (find manager_cmp q es)
find_left lost q [] h = refl
find_left lost q (e ∷ es) h = by_tests (set.difference e.1 lost) (eq_by_cmp manager_cmp q e.0) (is_empty (set.difference e.1 lost)) refl refl refl (find_left lost q es (snd _ _ h))
  where
    by_tests : (d : PathSet) (b t : Bool) → d ≡ set.difference e.1 lost → eq_by_cmp manager_cmp q e.0 ≡ b → is_empty d ≡ t → find manager_cmp q (less lost es) ≡ kept_less lost (find manager_cmp q es)
        → find manager_cmp q (cond (not t) ((e.0, d) ∷ less lost es) (less lost es)) ≡ kept_less lost (cond b (Some e.1) (find manager_cmp q es))
    by_tests d true false is tie some later = ap (λ x. cond x (Some d) (find manager_cmp q (less lost es))) tie ∙ sym (ap (λ x. cond x None (Some d)) some) ∙ ap kept is
    by_tests d true true is tie none later =
        later ∙ ap (kept_less lost) (none_above q es (subst (λ k. T (below_all manager_cmp k es)) (sym (tied q e.0 tie)) (fst _ _ h))) ∙ sym (ap (λ x. cond x None (Some d)) none) ∙ ap kept is
    by_tests d false false is tie some later = ap (λ x. cond x (Some d) (find manager_cmp q (less lost es))) tie ∙ later
    by_tests d false true is tie none later = later

pub find-others : (w : Owners) (m q : Manager) → find manager_cmp q (others w m) ≡ cond (not (is_same m q)) (fin.get w q) None
unfolding others
find-others w m q = find-where_key manager_cmp (λ k. not (is_same m k)) q (λ x t. ap (λ k. not (is_same m k)) (sym (manager_antisymmetric q x t))) (fin.entries w) ∙ ap (λ o. cond (not (is_same m q)) o None) (sym (fin.get-entries w q))

pub sorted-others : (w : Owners) (m : Manager) → T (is_sorted manager_cmp (others w m))
unfolding others
sorted-others w m = is_sorted-filter {X = PathSet} (is_other m) (fin.entries w) (fin.entries_sorted w)

find-base : (w : Owners) (m q : Manager) (lost : PathSet) → find manager_cmp q (less lost (others w m)) ≡ cond (is_same m q) None (kept_less lost (fin.get w q))
find-base w m q lost = find_left lost q (others w m) (sorted-others w m) ∙ ap (kept_less lost) (find-others w m q) ∙ by_test (is_same m q)
  where
    by_test : (b : Bool) → kept_less lost (cond (not b) (fin.get w q) None) ≡ cond b None (kept_less lost (fin.get w q))
    by_test true = refl
    by_test false = refl

same_turned : (m q : Manager) → eq_by_cmp manager_cmp q m ≡ is_same m q
same_turned m q = by_tests (eq_by_cmp manager_cmp q m) (is_same m q) refl refl
  where
    by_tests : (a b : Bool) → eq_by_cmp manager_cmp q m ≡ a → is_same m q ≡ b → a ≡ b
    by_tests true true e f = refl
    by_tests true false e f = sym (same_manager-itself m) ∙ ap (is_same m) (sym (tied q m e)) ∙ f
    by_tests false true e f = sym (sym (same_manager-itself q) ∙ ap (is_same q) (sym (same_manager-is m q f)) ∙ e)
    by_tests false false e f = refl

-- an entry after a manager has taken over
pub get-taken_over : (w : Owners) (m : Manager) (lost mine : PathSet) (q : Manager) → fin.get (taken_over w m lost mine) q ≡ cond (is_same m q) (kept mine) (kept_less lost (fin.get w q))
unfolding taken_over with_owner
get-taken_over w m lost mine q = by_test (less lost (others w m)) (find-base w m q lost) (is_empty mine) refl
  where
    once : (b : Bool) → cond b (Some mine) (cond b None (kept_less lost (fin.get w q))) ≡ cond b (Some mine) (kept_less lost (fin.get w q))
    once true = refl
    once false = refl

    by_test : (base : Pairs) → find manager_cmp q base ≡ cond (is_same m q) None (kept_less lost (fin.get w q)) → (b : Bool) → is_empty mine ≡ b
        → fin.get (cond b (fin.from_entries {R = manager_cmp} base) (fin.insert (fin.from_entries base) m mine)) q ≡ cond (is_same m q) (kept mine) (kept_less lost (fin.get w q))
    by_test base is true none = fin.get-from_entries manager_total base q ∙ is ∙ ap (λ o. cond (is_same m q) o (kept_less lost (fin.get w q))) (sym (ap (λ b. cond b None (Some mine)) none))
    by_test base is false some =
        fin.get-insert manager_total (fin.from_entries base) m mine q ∙ ap (λ o. cond (eq_by_cmp manager_cmp q m) (Some mine) o) (fin.get-from_entries manager_total base q ∙ is)
        ∙ ap (λ b. cond b (Some mine) (cond (is_same m q) None (kept_less lost (fin.get w q)))) (same_turned m q) ∙ once (is_same m q) ∙ ap (λ o. cond (is_same m q) o (kept_less lost (fin.get w q))) (sym (ap (λ b. cond b None (Some mine)) some))

kept_have_path : (s t : PathSet) → kept s ≡ Some t → is_empty t ≡ false
kept_have_path s t h = by_test (is_empty s) refl h
  where
    by_test : (b : Bool) → is_empty s ≡ b → cond b None (Some s) ≡ Some t → is_empty t ≡ false
    by_test true is h = absurd (true≢false (sym (ap is_some h)))
    by_test false is h = ap is_empty (sym (ap (λ o. unwrap_or o s) h)) ∙ is

-- each entry then has a path
pub taken_have_paths : (w : Owners) (m : Manager) (lost mine : PathSet) → HavePaths (taken_over w m lost mine)
taken_have_paths w m lost mine k t h = by_manager (is_same m k) (fin.get w k) (sym (get-taken_over w m lost mine k) ∙ h)
  where
    by_manager : (b : Bool) (o : Option PathSet) → cond b (kept mine) (kept_less lost o) ≡ Some t → is_empty t ≡ false
    by_manager true o h = kept_have_path mine t h
    by_manager false None h = absurd (true≢false (sym (ap is_some h)))
    by_manager false (Some s) h = kept_have_path (set.difference s lost) t h

-- the manager owns just what is given it
pub owned_mine : (w : Owners) (m : Manager) (lost mine : PathSet) → owned_by (taken_over w m lost mine) m ≡ mine
unfolding owned_by
owned_mine w m lost mine =
    ap (λ o. unwrap_or o set.empty) (get-taken_over w m lost mine m ∙ ap (λ b. cond b (kept mine) (kept_less lost (fin.get w m))) (same_manager-itself m)) ∙ owned_kept mine

-- each other loses the lost
pub owned_other : (w : Owners) (m : Manager) (lost mine : PathSet) (k : Manager) → is_same m k ≡ false → owned_by (taken_over w m lost mine) k ≡ set.difference (owned_by w k) lost
unfolding owned_by
owned_other w m lost mine k other =
    ap (λ o. unwrap_or o set.empty) (get-taken_over w m lost mine k ∙ ap (λ b. cond b (kept mine) (kept_less lost (fin.get w k))) other) ∙ owned_less lost (fin.get w k)

-- who has taken over may do so again, and nobody loses more
pub taken_again : (w : Owners) (m : Manager) (lost mine : PathSet) → taken_over (taken_over w m lost mine) m set.empty mine ≡ taken_over w m lost mine
taken_again w m lost mine = fin.same_map manager_total manager_antisymmetric _ _ (λ q.
    get-taken_over (taken_over w m lost mine) m set.empty mine q ∙ ap (λ o. cond (is_same m q) (kept mine) (kept_less set.empty o)) (get-taken_over w m lost mine q) ∙ by_test q (is_same m q) ∙ sym (get-taken_over w m lost mine q))
  where
    still : (s : PathSet) → kept_less set.empty (kept s) ≡ kept s
    still s = by_empty (is_empty s) refl
      where
        by_empty : (b : Bool) → is_empty s ≡ b → kept_less set.empty (cond b None (Some s)) ≡ cond b None (Some s)
        by_empty true is = refl
        by_empty false is = ap kept (difference-empty s) ∙ ap (λ b. cond b None (Some s)) is

    still_less : (o : Option PathSet) → kept_less set.empty (kept_less lost o) ≡ kept_less lost o
    still_less None = refl
    still_less (Some s) = still (set.difference s lost)

    by_test : (q : Manager) (b : Bool) → cond b (kept mine) (kept_less set.empty (cond b (kept mine) (kept_less lost (fin.get w q)))) ≡ cond b (kept mine) (kept_less lost (fin.get w q))
    by_test q true = refl
    by_test q false = still_less (fin.get w q)
