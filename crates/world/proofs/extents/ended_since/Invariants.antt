use Rattle.std.proofs.Common.{◌≡◌, ◌++◌}
use Rattle.httpedge.specs.Steps.{State}
use Rattle.world.specs.Extents.{ended_by}
use Rattle.world.specs.Recording.{Records}
use Rattle.world.proofs.extents.ended_since.Given as goal

abbrev pub invariant-loop-id : goal.invariant-loop-id
invariant-loop-id l = (t : State) → Records l.recording t → l.all.items ++ ended_by t l.id-iterator ≡ ended_by t l.noted.entries
