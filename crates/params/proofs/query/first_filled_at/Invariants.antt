use Rattle.std.proofs.Common.{◌≡◌, drop}
use Rattle.params.specs.Strictness.{first_filled_at}
use Rattle.params.specs.Views.{pairs_of}
use Rattle.params.proofs.query.first_filled_at.Given as goal

abbrev pub invariant-loop-known : goal.invariant-loop-known
invariant-loop-known l = first_filled_at l.name (pairs_of (drop l.known-index l.pairs)) ≡ first_filled_at l.name (pairs_of l.pairs)
