use Rattle.std.proofs.Common.{◌≡◌, drop}
use Rattle.objects.specs.Managers.{pairs}
use Rattle.objects.specs.Ranks.{have_paths}
use Rattle.objects.proofs.managers.have_paths.Given as goal

abbrev pub invariant-loop-entry : goal.invariant-loop-entry
invariant-loop-entry l = have_paths (pairs (drop l.entry-index l.entries)) ≡ have_paths (pairs l.entries)
