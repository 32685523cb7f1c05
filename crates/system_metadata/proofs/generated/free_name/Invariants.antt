use Rattle.std.proofs.Common.{◌≡◌, ℕ, List}
use Rattle.system_metadata.proofs.Rounds.{IsLeft}
use Rattle.system_metadata.proofs.generated.free_name.Given as goal

abbrev pub invariant-loop-step : goal.invariant-loop-step
invariant-loop-step g l =
    IsLeft (g.N.TakenNames.taken l.fn.names) l.prefix l.first l.step
    × ((text : List ℕ) → g.N.TakenNames.taken l.names text ≡ g.N.TakenNames.taken l.fn.names text)
