use Rattle.std.proofs.Common.{◌≡◌, refl, sym, ap, subst, ◌∙◌}
use Rattle.objects.specs.State.{State}
use Rattle.objects.specs.Managers.{manager_view}
use Rattle.std.specs.FinSet as set
use Rattle.objects.specs.Owners.{manager_by, owned_by, update_operation}
use Rattle.objects.specs.Views.{state_of}
use Rattle.ownership.specs.Sides.{beside_others}
use Rattle.ownership.specs.Update.{updated}
use Rattle.ownership.proofs.Changing.{updated_is, update_stands, update_leaves}
use Rattle.objects.specs.WellTyped.{IsWellTypedState}
use Rattle.ownership.proofs.WellTyped.{updated_well_typed}
use Rattle.ownership.proofs.Sides.{beside_content, update_apart, update_sides}
use Rattle.ownership.proofs.updating.update.Goals as goal

pub returns : goal.returns
returns c =
    let live = state_of c.args.live.now in
    let apart = c.args.is_apart in
    let x = c.args.subresource in
    let m = manager_by c.args.manager.now update_operation x in
    let new = beside_others apart x c.args.new live.content in
    let after : State = record { content = c.in_ok-new.new; owners = c.in_ok-managers.managers } in
    let k = manager_view c.in_ok-manager.manager in
    let changed = c.in_ok-changed.changed in
    let gone = c.in_ok-gone.gone in
    let is : after ≡ updated live new m =
    updated_is live c.in_ok-new.new m k changed gone (set.union changed gone) (set.union (set.difference (owned_by live.owners k) gone) changed) c.in_ok-managers.managers
    c.in_ok-manager.ensures c.in_ok-changed.ensures c.in_ok-gone.ensures refl refl c.in_ok-managers.ensures ∙ ap (λ n. updated live n m) c.in_ok-new.ensures in
    record {
      updates = is;
      sides = update_sides apart live c.args.new m after is;
      apart = λ before. update_apart apart live c.args.new m after is;
      stand = update_stands live new m after is;
      well_typed = λ s content well_typed. subst (IsWellTypedState s) (sym is) (updated_well_typed live new m s (beside_content apart x s c.args.new live.content content well_typed.0) well_typed);
      leaves = update_leaves live new m after is;
    }
