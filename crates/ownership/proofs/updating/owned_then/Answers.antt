use Rattle.std.proofs.Common.{◌≡◌, IfOk, sym, ap, ◌∙◌, subst}
use Rattle.std.specs.FinSet as set
use Rattle.objects.specs.Managers.{manager_view}
use Rattle.ownership.proofs.Changing.{then_some, then_none}
use Rattle.ownership.proofs.updating.owned_then.Goals as goal

pub returns-in_ok-minus-in-Some : goal.returns-in_ok-minus-in-Some
returns-in_ok-minus-in-Some c =
    let m = manager_view c.args.manager.now in
    subst (λ t. IfOk c.union.result (λ s. s ≡ t)) (ap (λ s. set.union s c.args.changed.now) c.in_ok-minus-in-Some.ensures ∙ then_some c.args.managers.now m c.args.gone.now c.args.changed.now c.in-Some.owned.now (sym c.in-Some.ensures)) c.union.ensures

pub returns-in-None : goal.returns-in-None
returns-in-None c =
    subst (λ t. IfOk c.try_copy.result (λ s. s ≡ t)) (then_none c.args.managers.now (manager_view c.args.manager.now) c.args.gone.now c.args.changed.now (sym c.in-None.ensures)) c.try_copy.ensures
