-- The further clauses of an apply, of the state that it answers.
use Rattle.std.proofs.Common.{◌≡◌, Bool, false, sym, ap, ◌∙◌, subst}
use Rattle.pathmap.specs.Contents.{Content}
use Rattle.schema.specs.Shape.{Shape}
use Rattle.objects.specs.Owners.{Manager}
use Rattle.objects.specs.State.{State}
use Rattle.ownership.specs.Apply.{conflicts, applied, is_refused}
use Rattle.ownership.specs.Keeping.{OthersKeep, HasPlaces, LeavesOwned, IsSettled}
use Rattle.objects.specs.WellTyped.{OwnedArePresent, IsWellTypedState}
use Rattle.typed.specs.Fitting.{IsContent}
use Rattle.ownership.proofs.WellTyped.{applied_well_typed}
use Rattle.ownership.proofs.Keeping.{others_keep, owned_stand, again}
use Rattle.ownership.proofs.Leaves.{leaves_owned, places_kept}

module _ (live : State) (body : Content) (m : Manager) (force : Bool) (new : State) (free : is_refused (conflicts live body m) force ≡ false) (is : new ≡ applied live body m) where
  pub keeps_others : force ≡ false → OthersKeep live new m
  keeps_others gentle = subst (λ x. OthersKeep live x m) (sym is) (others_keep live body m (ap (is_refused (conflicts live body m)) (sym gentle) ∙ free))

  pub keeps_leaf_value : OwnedArePresent live → OwnedArePresent new
  keeps_leaf_value before = subst OwnedArePresent (sym is) (owned_stand live body m before)

  pub keeps_leaves : (s : Shape) → HasPlaces s live.content → HasPlaces s body → OwnedArePresent live → LeavesOwned s live new
  keeps_leaves s places body_places before = subst (LeavesOwned s live) (sym is) (leaves_owned live body m s places body_places before)

  pub keeps_places : (s : Shape) → HasPlaces s live.content → HasPlaces s body → HasPlaces s new.content
  keeps_places s places body_places = subst (λ x. HasPlaces s x.content) (sym is) (places_kept live body m s places body_places)

  pub keeps_well_typed : (s : Shape) → IsContent s body → IsWellTypedState s live → IsWellTypedState s new
  keeps_well_typed s content well_typed = subst (IsWellTypedState s) (sym is) (applied_well_typed live body m s content well_typed)

  pub settles : IsSettled new body m
  settles = subst (λ x. IsSettled x body m) (sym is) (again live body m)
