use Rattle.std.proofs.Common.{◌≡◌, drop}
use Rattle.std.specs.FinMap.{find}
use Rattle.objects.specs.Managers.{pairs, manager_view}
use Rattle.objects.proofs.managers.paths_of.Given as goal
use Rattle.objects.specs.Owners.{manager_cmp}

abbrev pub invariant-loop-entry : goal.invariant-loop-entry
invariant-loop-entry l = find manager_cmp (manager_view l.manager) (pairs (drop l.entry-index l.entries)) ≡ find manager_cmp (manager_view l.manager) (pairs l.entries)
