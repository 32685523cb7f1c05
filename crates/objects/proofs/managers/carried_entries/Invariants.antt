use Rattle.std.proofs.Common.{◌≡◌, take}
use Rattle.objects.specs.Carried.{carried_entries}
use Rattle.objects.specs.Managers.{pairs}
use Rattle.objects.proofs.managers.carried_entries.Given as goal

abbrev pub invariant-loop-entry : goal.invariant-loop-entry
invariant-loop-entry l = pairs l.carried.items ≡ carried_entries l.present l.new (pairs (take l.entry-index l.entries))
