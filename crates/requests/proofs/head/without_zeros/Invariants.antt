use Rattle.std.proofs.Common.{◌≡◌, drop}
use Rattle.requests.specs.Views.{without_zeros}
use Rattle.requests.proofs.head.without_zeros.Given as goal

abbrev pub invariant-loop-i : goal.invariant-loop-i
invariant-loop-i l = without_zeros (drop l.i l.digits) ≡ without_zeros l.digits
