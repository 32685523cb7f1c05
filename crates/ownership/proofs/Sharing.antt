-- Where an apply meets another owner of a path.
use Rattle.std.proofs.Common.{◌≡◌, Bool, true, false, cond, not, ◌&&◌, ◌||◌, List, [], ◌∷◌, ◌++◌, map, Some, None, is_some, inl, inr, ◌⊎◌, refl, sym, ap, ◌∙◌, subst, T, true≢false}
use Rattle.std.specs.FinMap as fin
use Rattle.std.specs.FinMap.{find, is_sorted}
use Rattle.std.specs.FinMap.Entries.{below_all}
use Rattle.std.specs.FinSet as set
use Rattle.std.specs.Cmp.{Equal-is, tied_itself}
use Rattle.std.specs.List.{list_any}
use Rattle.std.specs.Option.{unwrap_or}
use Rattle.std.specs.Ordering.{eq_by_cmp, is_eq}
use Rattle.fieldpath.specs.Paths.{PathTexts, path_cmp}
use Rattle.pathmap.specs.Beside.{changed, same_value}
use Rattle.pathmap.specs.Contents.{Content, PathSet, dom, in_order, marked}
use Rattle.pathmap.proofs.Contents.{path_cmp_antisymmetric, path_cmp_total}
use Rattle.pathmap.proofs.Order.{is_marked}
use Rattle.pathmap.proofs.Sets.{contains-changed, contains-dom}
use Rattle.objects.specs.Owners.{Manager, is_same, manager_cmp, others}
use Rattle.objects.specs.WellTyped.{Owns, IsPresent}
use Rattle.objects.specs.State.{State}
use Rattle.objects.proofs.Entries.{Pairs, fst, snd}
use Rattle.objects.proofs.Orders.{manager_total}
use Rattle.objects.proofs.Taking.{find-others, none_above, owned_mine, sorted-others, tied}
use Rattle.objects.proofs.Within.{both_true, left_true, right_true}
use Rattle.ownership.specs.Apply.{Conflict, applied, conflicts, conflicts_with}
use Rattle.ownership.specs.SharingLaws.{IsOneOf, Meets, OtherValuesConflict, SameValuesAreShared}
use Rattle.ownership.proofs.Keeping.{other_manager, owned-others, still_owned, stays_body}
use Rattle.ownership.proofs.Leaves.{no_path}
use Rattle.ownership.proofs.Sameness.{same_value-is, same_value-itself}

-- ---- one of two lists

one_left : (c : Conflict) (xs ys : List Conflict) → IsOneOf c xs → IsOneOf c (xs ++ ys)
one_left c [] ys is = absurd is
one_left c (x ∷ xs) ys (inl same) = inl same
one_left c (x ∷ xs) ys (inr later) = inr (one_left c xs ys later)

one_right : (c : Conflict) (xs ys : List Conflict) → IsOneOf c ys → IsOneOf c (xs ++ ys)
one_right c [] ys is = is
one_right c (x ∷ xs) ys is = inr (one_right c xs ys is)

one_of_both : (c : Conflict) (xs ys : List Conflict) → IsOneOf c (xs ++ ys) → IsOneOf c xs ⊎ IsOneOf c ys
one_of_both c [] ys is = inr is
one_of_both c (x ∷ xs) ys (inl same) = inl (inl same)
one_of_both c (x ∷ xs) ys (inr later) = by_later (one_of_both c xs ys later)
  where
    by_later : IsOneOf c xs ⊎ IsOneOf c ys → IsOneOf c (x ∷ xs) ⊎ IsOneOf c ys
    by_later (inl is) = inl (inr is)
    by_later (inr is) = inr is

-- ---- one of a set's paths, beside a manager

abbrev beside : Manager → List PathTexts → List Conflict
beside k ps = map (λ p. (p, k)) ps

in_list : (k j : Manager) (p : PathTexts) (ps : List PathTexts) → IsOneOf (p, j) (beside k ps) → list_any (eq_by_cmp path_cmp p) ps ≡ true
in_list k j p [] is = absurd is
in_list k j p (q ∷ ps) (inl same) = ap (λ r. eq_by_cmp path_cmp p r || list_any (eq_by_cmp path_cmp p) ps) (sym (ap (λ c. c.0) same)) ∙ ap (λ o. is_eq o || list_any (eq_by_cmp path_cmp p) ps) (tied_itself path_cmp_total p)
in_list k j p (q ∷ ps) (inr later) = or_true (eq_by_cmp path_cmp p q) (list_any (eq_by_cmp path_cmp p) ps) (in_list k j p ps later)
  where
    or_true : (a b : Bool) → b ≡ true → (a || b) ≡ true
    or_true true b h = refl
    or_true false b h = h

of_list : (k : Manager) (p : PathTexts) (ps : List PathTexts) → list_any (eq_by_cmp path_cmp p) ps ≡ true → IsOneOf (p, k) (beside k ps)
of_list k p [] is = absurd (true≢false (sym is))
of_list k p (q ∷ ps) is = by_test (eq_by_cmp path_cmp p q) refl is (of_list k p ps)
  where
    by_test : (b : Bool) → eq_by_cmp path_cmp p q ≡ b → (b || list_any (eq_by_cmp path_cmp p) ps) ≡ true → (list_any (eq_by_cmp path_cmp p) ps ≡ true → IsOneOf (p, k) (beside k ps)) → IsOneOf (p, k) (beside k (q ∷ ps))
    by_test true tie is later = inl (ap (λ r. (r, k)) (path_cmp_antisymmetric p q ((Equal-is (path_cmp p q)).0 tie)))
    by_test false tie is later = inr (later is)

contains-listed : (s : PathSet) (p : PathTexts) → set.contains s p ≡ list_any (eq_by_cmp path_cmp p) (in_order s)
contains-listed s p = sym (is_marked s p) ∙ fin.contains_key-keys (marked s) p

-- ---- conflicts

only_changed : (s : PathSet) (es : Pairs) (j : Manager) (p : PathTexts) → IsOneOf (p, j) (conflicts_with s es) → set.contains s p ≡ true
only_changed s [] j p is = absurd is
only_changed s (e ∷ es) j p is = by_part (one_of_both (p, j) (beside e.0 (in_order (set.intersection e.1 s))) (conflicts_with s es) is) (only_changed s es j p)
  where
    by_part : IsOneOf (p, j) (beside e.0 (in_order (set.intersection e.1 s))) ⊎ IsOneOf (p, j) (conflicts_with s es) → (IsOneOf (p, j) (conflicts_with s es) → set.contains s p ≡ true) → set.contains s p ≡ true
    by_part (inl here) further =
        right_true (set.contains e.1 p) (set.contains s p)
        (sym (set.contains-intersection path_cmp_total e.1 s p) ∙ contains-listed (set.intersection e.1 s) p ∙ in_list e.0 j p (in_order (set.intersection e.1 s)) here)
    by_part (inr later) further = further later

each_owner : (s : PathSet) (es : Pairs) (k : Manager) (p : PathTexts) → set.contains s p ≡ true → set.contains (unwrap_or (find manager_cmp k es) set.empty) p ≡ true → IsOneOf (p, k) (conflicts_with s es)
each_owner s [] k p among is = no_path p is
each_owner s (e ∷ es) k p among is = by_test (eq_by_cmp manager_cmp k e.0) refl is (each_owner s es k p among)
  where
    here : List Conflict
    here = beside e.0 (in_order (set.intersection e.1 s))

    by_test : (b : Bool) → eq_by_cmp manager_cmp k e.0 ≡ b → set.contains (unwrap_or (cond b (Some e.1) (find manager_cmp k es)) set.empty) p ≡ true
        → (set.contains (unwrap_or (find manager_cmp k es) set.empty) p ≡ true → IsOneOf (p, k) (conflicts_with s es)) → IsOneOf (p, k) (here ++ conflicts_with s es)
    by_test true tie owns later =
        let both = set.contains-intersection path_cmp_total e.1 s p ∙ both_true _ _ owns among in
        one_left (p, k) here (conflicts_with s es) (subst (λ j. IsOneOf (p, j) here) (sym (tied k e.0 tie)) (of_list e.0 p (in_order (set.intersection e.1 s)) (sym (contains-listed (set.intersection e.1 s) p) ∙ both)))
    by_test false tie owns later = one_right (p, k) here (conflicts_with s es) (later owns)

-- whose path a conflict has
owner_is : (k j : Manager) (p : PathTexts) (ps : List PathTexts) → IsOneOf (p, j) (beside k ps) → j ≡ k
owner_is k j p [] is = absurd is
owner_is k j p (q ∷ ps) (inl same) = ap (λ c. c.1) same
owner_is k j p (q ∷ ps) (inr later) = owner_is k j p ps later

each_owned : (s : PathSet) (es : Pairs) → T (is_sorted manager_cmp es) → (k : Manager) (p : PathTexts) → IsOneOf (p, k) (conflicts_with s es) → set.contains (unwrap_or (find manager_cmp k es) set.empty) p ≡ true
each_owned s [] h k p is = absurd is
each_owned s (e ∷ es) h k p is = by_part (one_of_both (p, k) (beside e.0 (in_order (set.intersection e.1 s))) (conflicts_with s es) is) (each_owned s es (snd _ _ h) k p)
  where
    by_tie : (b : Bool) → eq_by_cmp manager_cmp k e.0 ≡ b → set.contains (unwrap_or (find manager_cmp k es) set.empty) p ≡ true → set.contains (unwrap_or (cond b (Some e.1) (find manager_cmp k es)) set.empty) p ≡ true
    by_tie false tie is = is
    by_tie true tie is =
        no_path p (sym (ap (λ o. set.contains (unwrap_or o set.empty) p) (none_above k es (subst (λ x. T (below_all manager_cmp x es)) (sym (tied k e.0 tie)) (fst _ _ h)))) ∙ is)

    by_part : IsOneOf (p, k) (beside e.0 (in_order (set.intersection e.1 s))) ⊎ IsOneOf (p, k) (conflicts_with s es) → (IsOneOf (p, k) (conflicts_with s es) → set.contains (unwrap_or (find manager_cmp k es) set.empty) p ≡ true)
        → set.contains (unwrap_or (cond (eq_by_cmp manager_cmp k e.0) (Some e.1) (find manager_cmp k es)) set.empty) p ≡ true
    by_part (inl here) further =
        let tie = ap (λ j. manager_cmp j e.0) (owner_is e.0 k p (in_order (set.intersection e.1 s)) here) ∙ tied_itself manager_total e.0 in
        ap (λ o. set.contains (unwrap_or (cond (is_eq o) (Some e.1) (find manager_cmp k es)) set.empty) p) tie
        ∙ left_true (set.contains e.1 p) (set.contains s p)
        (sym (set.contains-intersection path_cmp_total e.1 s p) ∙ contains-listed (set.intersection e.1 s) p ∙ in_list e.0 k p (in_order (set.intersection e.1 s)) here)
    by_part (inr later) further = by_tie (eq_by_cmp manager_cmp k e.0) refl (further later)

-- ---- the law

module _ (state : State) (body : Content) (m k : Manager) (p : PathTexts) where
  abbrev changes : PathSet
  changes = changed body state.content

  unchanged : fin.get body p ≡ fin.get state.content p → set.contains changes p ≡ false
  unchanged same =
      contains-changed body state.content p ∙ ap (λ o. is_some o && not (same_value o (fin.get state.content p))) same ∙ ap (λ b. is_some (fin.get state.content p) && not b) (same_value-itself (fin.get state.content p))
      ∙ and_false (is_some (fin.get state.content p))
    where
      and_false : (b : Bool) → (b && false) ≡ false
      and_false true = refl
      and_false false = refl

  is_changed : IsPresent body p → ¬ (fin.get body p ≡ fin.get state.content p) → set.contains changes p ≡ true
  is_changed there differs = contains-changed body state.content p ∙ both_true _ _ there (by_test (same_value (fin.get body p) (fin.get state.content p)) refl)
    where
      by_test : (b : Bool) → same_value (fin.get body p) (fin.get state.content p) ≡ b → not b ≡ true
      by_test true h = absurd (differs (same_value-is (fin.get body p) (fin.get state.content p) h))
      by_test false h = refl

  none_there : fin.get body p ≡ fin.get state.content p → (j : Manager) → IsOneOf (p, j) (conflicts state body m) → ⊥
  unfolding conflicts
  none_there same j is = true≢false (sym (only_changed changes (others state.owners m) j p is) ∙ unchanged same)

  owns_too : IsPresent body p → Owns (applied state body m) m p
  unfolding applied
  owns_too there = ap (λ x. set.contains x p) (owned_mine state.owners m changes (dom body)) ∙ contains-dom body p ∙ there

  with_owner : Meets state body m k p → ¬ (fin.get body p ≡ fin.get state.content p) → IsOneOf (p, k) (conflicts state body m)
  unfolding conflicts
  with_owner meets differs = each_owner changes (others state.owners m) k p (is_changed meets.2 differs) (ap (λ x. set.contains x p) (owned-others state body m k (other_manager m k meets.0)) ∙ meets.1)

  others_own : set.contains (unwrap_or (find manager_cmp k (others state.owners m)) set.empty) p ≡ true → ¬ (k ≡ m) × Owns state k p
  others_own is = by_test (is_same m k) refl
    where
      by_test : (b : Bool) → is_same m k ≡ b → ¬ (k ≡ m) × Owns state k p
      by_test true same = no_path p (sym (ap (λ o. set.contains (unwrap_or o set.empty) p) (find-others state.owners m k ∙ ap (λ b. cond (not b) (fin.get state.owners k) None) same)) ∙ is)
      by_test false other = (
        (λ same. true≢false (sym (ap is_eq (tied_itself manager_total m)) ∙ ap (is_same m) (sym same) ∙ other)),
        ap (λ x. set.contains x p) (sym (owned-others state body m k other)) ∙ is,
      )

  met : IsOneOf (p, k) (conflicts state body m) → Meets state body m k p × ¬ (fin.get body p ≡ fin.get state.content p)
  unfolding conflicts
  met is =
      let change = only_changed changes (others state.owners m) k p is in
      let owned = others_own (each_owned changes (others state.owners m) (sorted-others state.owners m) k p is) in
      let there = left_true (is_some (fin.get body p)) (not (same_value (fin.get body p) (fin.get state.content p))) (sym (contains-changed body state.content p) ∙ change) in
      ((owned.0, owned.1, there), (λ same. true≢false (sym change ∙ unchanged same)))

pub same_values_are_shared : SameValuesAreShared
same_values_are_shared state body m k p meets same = (
  none_there state body m k p same,
  stays_body state body m p meets.2 ∙ same,
  still_owned state body m k p (other_manager m k meets.0) meets.1 (unchanged state body m k p same),
  owns_too state body m k p meets.2,
)

pub other_values_conflict : OtherValuesConflict
other_values_conflict state body m k p = (met state body m k p, (λ both. with_owner state body m k p both.0 both.1))
