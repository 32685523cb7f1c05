use Rattle.std.proofs.Common.{◌≡◌, take}
use Rattle.std.specs.Prelude.{filter}
use Rattle.objects.specs.Owners.{less}
use Rattle.objects.specs.Managers.{pairs, manager_view}
use Rattle.objects.proofs.Entries.{is_other}
use Rattle.objects.proofs.managers.less_others.Given as goal

abbrev pub invariant-loop-entry : goal.invariant-loop-entry
invariant-loop-entry l = pairs l.left.items ≡ less l.lost (filter (is_other (manager_view l.manager)) (pairs (take l.entry-index l.entries)))
