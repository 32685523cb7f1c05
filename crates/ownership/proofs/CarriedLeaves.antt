-- Who owns the leaves and the set items of a carried object.
use Rattle.std.proofs.Common.{◌≡◌, Bool, true, false, [], ◌∷◌, ◌++◌, Option, Some, None, is_some, inl, inr, ◌⊎◌, refl, sym, ap, ap₂, ◌∙◌, subst, true≢false, append-nil}
use Rattle.std.specs.FinMap as fin
use Rattle.std.specs.FinSet as set
use Rattle.std.specs.Cmp.Derive.{both_true}
use Rattle.std.specs.Str.{bytes_eq}
use Rattle.std.proofs.lemmas.Bool.{and_parts}
use Rattle.std.proofs.lemmas.Slice.Eq.{bytes_eq-Decides}
use Rattle.fieldpath.specs.Paths.{PathTexts}
use Rattle.pathmap.specs.Beside.{has_at_or_below, is_prefix}
use Rattle.schema.specs.Place.{place_of}
use Rattle.schema.specs.Shape.{Shape}
use Rattle.schema.specs.declared.place.Place.{Place}
use Rattle.schema.specs.declared.place.Place.TheVariants.{Leaf, SetItem, MapItem}
use Rattle.typed.specs.Carried.{IsCarried, IsNewLeaf}
use Rattle.typed.specs.Fitting.{IsPresent}
use Rattle.objects.specs.Owners.{Manager, owned_by}
use Rattle.objects.specs.WellTyped.{Owns}
use Rattle.objects.specs.State.{State}
use Rattle.ownership.specs.Carry.{LeavesOwnedStill, LeavesPass, NobodyOwned, OthersStay}
use Rattle.ownership.specs.Keeping.{StoodUnowned, is_end}
use Rattle.ownership.proofs.Keeping.{one_below, some_below}
use Rattle.ownership.proofs.Leaves.{is_owned, owned_or_not, owned_paths, owner_of}

pub prefix_of : (p q : PathTexts) → is_prefix p (p ++ q) ≡ true
prefix_of [] q = refl
prefix_of (e ∷ p) q = both_true ((bytes_eq-Decides e e).1 refl) (prefix_of p q)

rest_of : (p r : PathTexts) → is_prefix p r ≡ true → (q : PathTexts) × (r ≡ p ++ q)
rest_of [] r prefix = (r, refl)
rest_of (e ∷ p) [] prefix = absurd (true≢false (sym prefix))
rest_of (e ∷ p) (f ∷ r) prefix =
    let parts = and_parts (bytes_eq e f) (is_prefix p r) prefix in
    let rest = rest_of p r parts.1 in
    (rest.0, ap₂ (λ x xs. x ∷ xs) (sym ((bytes_eq-Decides e f).0 parts.0)) rest.1)

module _ (s t : Shape) (old new : State) (carried : IsCarried s t old.content new.content) (pass : LeavesPass s t old new) (stay : OthersStay s t old new) where
  module _ (p : PathTexts) where
    at_new_leaf : IsNewLeaf s t p → ((k : Manager) × Owns new k p) ⊎ IsNewLeaf s t p × NobodyOwned old p
    at_new_leaf is = by_test (has_at_or_below (owned_paths old) p) refl
      where
        by_test : (b : Bool) → has_at_or_below (owned_paths old) p ≡ b → ((k : Manager) × Owns new k p) ⊎ IsNewLeaf s t p × NobodyOwned old p
        by_test true h =
            let inner = some_below (owned_paths old) p h in
            let owner = owner_of old inner.0 inner.1 in
            let rest = rest_of p inner.0 inner.2 in
            inl (owner.0, pass owner.0 p rest.0 is (ap (λ r. set.contains (owned_by old.owners owner.0) r) (sym rest.1) ∙ owner.1))
        by_test false h = inr (is, (λ k q owns. true≢false (sym (one_below (owned_paths old) p (p ++ q) (is_owned old k (p ++ q) owns) (prefix_of p q)) ∙ h)))

    -- what stands and is no new leaf is below none
    is_apart : (IsNewLeaf s t p → ⊥) → IsPresent new.content p → (above rest : PathTexts) → IsNewLeaf s t above → p ≡ above ++ rest → ⊥
    is_apart other there above [] is same = other (subst (IsNewLeaf s t) (sym (same ∙ append-nil above)) is)
    is_apart other there above (e ∷ q) is same = true≢false (sym there ∙ ap (λ r. is_some (fin.get new.content r)) same ∙ ap is_some (carried.below above e q is))

    elsewhere : (IsNewLeaf s t p → ⊥) → IsPresent new.content p → ((k : Manager) × Owns new k p) ⊎ StoodUnowned old new p
    elsewhere other there = by_owned (owned_or_not old p)
      where
        by_owned : ((k : Manager) × Owns old k p) ⊎ ((k : Manager) → ¬ (Owns old k p)) → ((k : Manager) × Owns new k p) ⊎ StoodUnowned old new p
        by_owned (inl owner) = inl (owner.0, stay owner.0 p owner.1 (is_apart other there))
        by_owned (inr nobody) = inr (carried.kept p (is_apart other there), nobody)

    by_places : (o n : Option Place) → place_of s p ≡ o → place_of t p ≡ n → IsNewLeaf s t p ⊎ (IsNewLeaf s t p → ⊥)
    by_places (Some place) n was is = inr (λ new. true≢false (sym (ap is_some was) ∙ ap is_some new.0))
    by_places None (Some Leaf) was is = inl (was, is)
    by_places None (Some SetItem) was is = inr (λ new. true≢false (sym (ap is_leaf new.1) ∙ ap is_leaf is))
      where
        is_leaf : Option Place → Bool
        is_leaf (Some Leaf) = true
        is_leaf _ = false
    by_places None (Some MapItem) was is = inr (λ new. true≢false (sym (ap is_end new.1) ∙ ap is_end is))
    by_places None None was is = inr (λ new. true≢false (sym (ap is_some new.1) ∙ ap is_some is))

  pub leaves_owned : LeavesOwnedStill s t old new
  leaves_owned p there end = by_test (by_places p (place_of s p) (place_of t p) refl refl)
    where
      by_leaf : ((k : Manager) × Owns new k p) ⊎ IsNewLeaf s t p × NobodyOwned old p → ((k : Manager) × Owns new k p) ⊎ StoodUnowned old new p ⊎ IsNewLeaf s t p × NobodyOwned old p
      by_leaf (inl owner) = inl owner
      by_leaf (inr nobody) = inr (inr nobody)

      by_rest : ((k : Manager) × Owns new k p) ⊎ StoodUnowned old new p → ((k : Manager) × Owns new k p) ⊎ StoodUnowned old new p ⊎ IsNewLeaf s t p × NobodyOwned old p
      by_rest (inl owner) = inl owner
      by_rest (inr stood) = inr (inl stood)

      by_test : IsNewLeaf s t p ⊎ (IsNewLeaf s t p → ⊥) → ((k : Manager) × Owns new k p) ⊎ StoodUnowned old new p ⊎ IsNewLeaf s t p × NobodyOwned old p
      by_test (inl is) = by_leaf (at_new_leaf p is)
      by_test (inr other) = by_rest (elsewhere p other there)
