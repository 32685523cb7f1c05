use Rattle.std.proofs.Common.{take}
use Rattle.httpedge.specs.Steps.{State}
use Rattle.world.specs.Extents.{AreNoted}
use Rattle.world.specs.Recording.{Records}
use Rattle.world.proofs.extents.note_changes.Given as goal

abbrev pub invariant-loop-id : goal.invariant-loop-id
invariant-loop-id l = (t : State) → Records l.recording t → AreNoted t (take l.id-index l.changes) l.fn.noted l.noted
