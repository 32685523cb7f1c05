-- Who owns what once new paths stand in the place of what was below them.
use Rattle.std.proofs.Common.{◌≡◌, ℕ, ◌+◌, ◌<◌, Bool, true, false, cond, not, ◌&&◌, ◌||◌, List, [], ◌∷◌, ◌++◌, map, length, take, get_or, Option, Some, None, is_some, refl, sym, ap, ap₂, ◌∙◌, subst, T, true≢false, append-nil}
use Rattle.std.specs.FinMap as fin
use Rattle.std.specs.FinMap.{find, is_sorted}
use Rattle.std.specs.FinMap.Entries.{below_all}
use Rattle.std.specs.FinSet as set
use Rattle.std.specs.Option.{unwrap_or}
use Rattle.std.specs.Prelude.{filter}
use Rattle.std.specs.List.{list_any}
use Rattle.std.specs.Ordering.{eq_by_cmp}
use Rattle.std.proofs.lemmas.List.{take_more, map-append}
use Rattle.fieldpath.specs.Paths.{PathTexts, path_cmp}
use Rattle.pathmap.specs.Beside.{clear_of, has_at_or_below, is_empty, is_prefix}
use Rattle.pathmap.specs.Contents.{PathSet, dom, nothing}
use Rattle.pathmap.proofs.Contents.{get-nothing, path_cmp_total}
use Rattle.pathmap.proofs.Sets.{contains-clear_of, contains-dom, passes_some, same_paths}
use Rattle.objects.specs.Carried.{carried_entries, carried_owners, carried_paths}
use Rattle.objects.specs.Managers.{pair, pairs}
use Rattle.objects.specs.Owners.{Manager, Owners, HavePaths, manager_cmp, owned_by}
use Rattle.objects.specs.declared.managers.Entry.{Entry}
use Rattle.objects.proofs.Entries.{Pairs, entries-sorted, filter-append, from-entries, fst, is_sorted-filter, is_sorted-map, snd}
use Rattle.objects.proofs.Orders.{manager_total}
use Rattle.objects.proofs.Taking.{kept, none_above, owned_kept, tied}

-- ---- one entry more

more : (present new : PathSet) (xs ys : Pairs) → carried_entries present new (xs ++ ys) ≡ carried_entries present new xs ++ carried_entries present new ys
more present new xs ys = ap (filter (λ e. not (is_empty e.1))) (map-append (λ e. (e.0, carried_paths present new e.1)) xs ys) ∙ filter-append (λ e. not (is_empty e.1)) _ _

module _ (present new : PathSet) (es : List Entry) (i : ℕ) (e : Entry) (lt : i < length es) (is : e ≡ get_or es i e) where
  one_more : carried_entries present new (pairs (take (i + 1) es)) ≡ carried_entries present new (pairs (take i es)) ++ carried_entries present new (pair e ∷ [])
  one_more =
      ap (λ l. carried_entries present new (pairs l)) (take_more es i e lt ∙ ap (λ x. take i es ++ x ∷ []) (sym is))
      ∙ ap (carried_entries present new) (map-append pair (take i es) (e ∷ [])) ∙ more present new (pairs (take i es)) (pair e ∷ [])

  pub one_empty : (d : PathSet) → d ≡ carried_paths present new e.paths → is_empty d ≡ true → carried_entries present new (pairs (take (i + 1) es)) ≡ carried_entries present new (pairs (take i es))
  one_empty d at none =
      one_more ∙ ap (λ b. carried_entries present new (pairs (take i es)) ++ cond (not b) (((pair e).0, carried_paths present new e.paths) ∷ []) []) (ap is_empty (sym at) ∙ none) ∙ append-nil _

  pub one_some : (d : PathSet) → d ≡ carried_paths present new e.paths → is_empty d ≡ false → carried_entries present new (pairs (take (i + 1) es)) ≡ carried_entries present new (pairs (take i es)) ++ ((pair e).0, d) ∷ []
  one_some d at some =
      one_more ∙ ap (λ b. carried_entries present new (pairs (take i es)) ++ cond (not b) (((pair e).0, carried_paths present new e.paths) ∷ []) []) (ap is_empty (sym at) ∙ some)
      ∙ ap (λ x. carried_entries present new (pairs (take i es)) ++ ((pair e).0, x) ∷ []) (sym at)

-- ---- order

pub carried_sorted : (present new : PathSet) (es : Pairs) → T (is_sorted manager_cmp es) → T (is_sorted manager_cmp (carried_entries present new es))
carried_sorted present new es h = is_sorted-filter {X = PathSet} (λ e. not (is_empty e.1)) (map (λ e. (e.0, carried_paths present new e.1)) es) (is_sorted-map (λ e. carried_paths present new e.1) es h)

pub entries-carried : (present new : PathSet) (w : Owners) → fin.entries (carried_owners present new w) ≡ carried_entries present new (fin.entries w)
unfolding carried_owners
entries-carried present new w = entries-sorted (carried_entries present new (fin.entries w)) (carried_sorted present new (fin.entries w) (fin.entries_sorted w))

-- ---- what is found

abbrev kept_at : (present new : PathSet) → Option PathSet → Option PathSet
kept_at present new None = None
kept_at present new (Some s) = kept (carried_paths present new s)

find-carried : (present new : PathSet) (q : Manager) (es : Pairs) → T (is_sorted manager_cmp es) → find manager_cmp q (carried_entries present new es) ≡ kept_at present new (find manager_cmp q es)
find-carried present new q [] h = refl
find-carried present new q (e ∷ es) h = by_tests (carried_paths present new e.1) (eq_by_cmp manager_cmp q e.0) (is_empty (carried_paths present new e.1)) refl refl refl (find-carried present new q es (snd _ _ h))
  where
    by_tests : (d : PathSet) (b t : Bool) → d ≡ carried_paths present new e.1 → eq_by_cmp manager_cmp q e.0 ≡ b → is_empty d ≡ t → find manager_cmp q (carried_entries present new es) ≡ kept_at present new (find manager_cmp q es)
        → find manager_cmp q (cond (not t) ((e.0, d) ∷ carried_entries present new es) (carried_entries present new es)) ≡ kept_at present new (cond b (Some e.1) (find manager_cmp q es))
    by_tests d true false is tie some later = ap (λ x. cond x (Some d) (find manager_cmp q (carried_entries present new es))) tie ∙ sym (ap (λ x. cond x None (Some d)) some) ∙ ap kept is
    by_tests d true true is tie none later =
        later ∙ ap (kept_at present new) (none_above q es (subst (λ k. T (below_all manager_cmp k es)) (sym (tied q e.0 tie)) (fst _ _ h))) ∙ sym (ap (λ x. cond x None (Some d)) none) ∙ ap kept is
    by_tests d false false is tie some later = ap (λ x. cond x (Some d) (find manager_cmp q (carried_entries present new es))) tie ∙ later
    by_tests d false true is tie none later = later

get-carried : (present new : PathSet) (w : Owners) (q : Manager) → fin.get (carried_owners present new w) q ≡ kept_at present new (fin.get w q)
unfolding carried_owners
get-carried present new w q =
    fin.get-from_entries manager_total (carried_entries present new (fin.entries w)) q ∙ find-carried present new q (fin.entries w) (fin.entries_sorted w) ∙ ap (kept_at present new) (sym (fin.get-entries w q))

-- each entry then has a path
kept_have_path : (s t : PathSet) → kept s ≡ Some t → is_empty t ≡ false
kept_have_path s t h = by_test (is_empty s) refl h
  where
    by_test : (b : Bool) → is_empty s ≡ b → cond b None (Some s) ≡ Some t → is_empty t ≡ false
    by_test true is h = absurd (true≢false (sym (ap is_some h)))
    by_test false is h = ap is_empty (sym (ap (λ o. unwrap_or o s) h)) ∙ is

pub carried_have_paths : (present new : PathSet) (w : Owners) → HavePaths (carried_owners present new w)
carried_have_paths present new w k t h = by_entry (fin.get w k) (sym (get-carried present new w k) ∙ h)
  where
    by_entry : (o : Option PathSet) → kept_at present new o ≡ Some t → is_empty t ≡ false
    by_entry None h = absurd (true≢false (sym (ap is_some h)))
    by_entry (Some s) h = kept_have_path (carried_paths present new s) t h

-- ---- path by path

pub contains-carried : (present new owned : PathSet) (q : PathTexts) → set.contains (carried_paths present new owned) q ≡ ((set.contains owned q && set.contains present q) || (set.contains new q && has_at_or_below owned q))
contains-carried present new owned q =
    set.contains-union path_cmp_total (set.intersection owned present) (set.difference new (clear_of new owned)) q
    ∙ ap₂ (λ a b. a || b) (set.contains-intersection path_cmp_total owned present q)
    (set.contains-difference path_cmp_total new (clear_of new owned) q ∙ ap (λ b. set.contains new q && not b) (contains-clear_of new owned q) ∙ turned (set.contains new q) (has_at_or_below owned q))
  where
    turned : (a b : Bool) → (a && not (a && not b)) ≡ (a && b)
    turned true true = refl
    turned true false = refl
    turned false b = refl

none_below : (q : PathTexts) → has_at_or_below set.empty q ≡ false
unfolding has_at_or_below
none_below q = ap (λ s. list_any (is_prefix q) (set.items s)) bare ∙ by_answer (list_any (is_prefix q) (set.items (dom nothing))) refl
  where
    bare : set.empty ≡ dom nothing
    bare = same_paths set.empty (dom nothing) (λ p. set.contains-empty path_cmp p ∙ sym (contains-dom nothing p ∙ ap is_some (get-nothing p)))

    by_answer : (b : Bool) → list_any (is_prefix q) (set.items (dom nothing)) ≡ b → b ≡ false
    by_answer true h = let found = passes_some (is_prefix q) nothing h in absurd (true≢false (sym found.1 ∙ ap is_some (get-nothing found.0)))
    by_answer false h = refl

carried-nothing : (present new : PathSet) → carried_paths present new set.empty ≡ set.empty
carried-nothing present new = same_paths (carried_paths present new set.empty) set.empty (λ q.
    contains-carried present new set.empty q ∙ ap₂ (λ a b. (a && set.contains present q) || (set.contains new q && b)) (set.contains-empty path_cmp q) (none_below q) ∙ out (set.contains new q) ∙ sym (set.contains-empty path_cmp q))
  where
    out : (a : Bool) → (a && false) ≡ false
    out true = refl
    out false = refl

-- what a manager owns then
pub owned-carried : (present new : PathSet) (w : Owners) (k : Manager) → owned_by (carried_owners present new w) k ≡ carried_paths present new (owned_by w k)
unfolding owned_by
owned-carried present new w k = ap (λ o. unwrap_or o set.empty) (get-carried present new w k) ∙ by_entry (fin.get w k)
  where
    by_entry : (o : Option PathSet) → unwrap_or (kept_at present new o) set.empty ≡ carried_paths present new (unwrap_or o set.empty)
    by_entry None = sym (carried-nothing present new)
    by_entry (Some s) = owned_kept (carried_paths present new s)

-- ---- the entries that a carry leaves

module _ (present new : PathSet) (w : Owners) (es : Pairs) (is : es ≡ carried_entries present new (fin.entries w)) where
  pub is_carried : fin.from_entries {R = manager_cmp} es ≡ carried_owners present new w
  is_carried = ap (λ l. fin.from_entries {R = manager_cmp} l) (is ∙ sym (entries-carried present new w)) ∙ from-entries (carried_owners present new w)

  pub are_carried : (fin.entries (fin.from_entries {R = manager_cmp} es) ≡ es) × HavePaths (fin.from_entries {R = manager_cmp} es)
  are_carried = (ap fin.entries is_carried ∙ entries-carried present new w ∙ sym is, subst HavePaths (sym is_carried) (carried_have_paths present new w))
