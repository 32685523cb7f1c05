use Rattle.std.proofs.Common.{◌≡◌, drop}
use Rattle.params.specs.Query.{first_at}
use Rattle.params.specs.Views.{pairs_of}
use Rattle.params.proofs.query.first_at.Given as goal

abbrev pub invariant-loop-known : goal.invariant-loop-known
invariant-loop-known l = first_at l.name (pairs_of (drop l.known-index l.pairs)) ≡ first_at l.name (pairs_of l.pairs)
