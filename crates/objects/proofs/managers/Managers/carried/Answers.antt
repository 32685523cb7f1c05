use Rattle.std.proofs.Common.{sym, ap, ◌∙◌}
use Rattle.std.specs.FinMap as fin
use Rattle.objects.specs.Carried.{carried_entries}
use Rattle.objects.specs.Managers.{pairs}
use Rattle.objects.proofs.Moving.{are_carried, is_carried}
use Rattle.objects.proofs.managers.Managers.carried.Goals as goal

pub invariant_of-result : goal.invariant_of-result
invariant_of-result c =
    are_carried c.args.present.now c.args.new.now c.args.self.now (pairs c.in_ok-entries.entries.items)
    (c.in_ok-entries.ensures ∙ ap (carried_entries c.args.present.now c.args.new.now) (ap pairs c.deref.ensures.value ∙ sym c.self.invariant.0 ∙ ap fin.entries c.self.view_is))

pub returns : goal.returns
returns c =
    is_carried c.args.present.now c.args.new.now c.args.self.now (pairs c.in_ok-entries.entries.items)
    (c.in_ok-entries.ensures ∙ ap (carried_entries c.args.present.now c.args.new.now) (ap pairs c.deref.ensures.value ∙ sym c.self.invariant.0 ∙ ap fin.entries c.self.view_is))
