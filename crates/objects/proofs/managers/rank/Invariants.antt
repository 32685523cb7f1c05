use Rattle.std.proofs.Common.{◌≡◌, ◌+◌, drop}
use Rattle.objects.specs.Managers.{pairs, manager_view}
use Rattle.objects.specs.Ranks.{rank}
use Rattle.objects.proofs.managers.rank.Given as goal

abbrev pub invariant-loop-entry : goal.invariant-loop-entry
invariant-loop-entry l = (l.rank ≡ l.entry-index) × (rank (manager_view l.manager) (pairs l.entries) ≡ l.rank + rank (manager_view l.manager) (pairs (drop l.entry-index l.entries)))
