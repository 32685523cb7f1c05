use Rattle.std.proofs.Common.{ℕ, List, []}
use Rattle.std.specs.Io.KnownBytes.{Consumes}
use Rattle.serving.specs.Serving.{HasTurns}
use Rattle.serving.proofs.conversing.hand_over.Given as goal

abbrev pub invariant-pieces : goal.invariant-pieces
invariant-pieces g l =
    (received : List ℕ) × Consumes (g.R.Read.remaining l.fn.reader) (g.R.Read.remaining l.reader) received × HasTurns l.fn.id l.fn.hub received [] l.hub
