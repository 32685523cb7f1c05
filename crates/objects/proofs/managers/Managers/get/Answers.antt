use Rattle.std.proofs.Common.{sym, ap, ◌∙◌}
use Rattle.std.specs.FinMap as fin
use Rattle.std.specs.FinMap.{find}
use Rattle.objects.specs.Managers.{pairs, manager_view}
use Rattle.objects.proofs.managers.Managers.get.Goals as goal
use Rattle.objects.specs.Owners.{manager_cmp}

pub returns : goal.returns
returns c =
    let m = manager_view c.args.manager.now in
    c.paths_of.ensures ∙ ap (λ l. find manager_cmp m (pairs l)) c.deref.ensures.value ∙ ap (find manager_cmp m) (sym c.self.invariant.0 ∙ ap fin.entries c.self.view_is) ∙ sym (fin.get-entries c.args.self.now m)
