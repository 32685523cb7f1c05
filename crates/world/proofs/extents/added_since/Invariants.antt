use Rattle.std.proofs.Common.{◌≡◌, ◌++◌, map}
use Rattle.httpedge.specs.Steps.{State}
use Rattle.world.specs.Extents.{added_by}
use Rattle.world.specs.Recording.{Records}
use Rattle.world.specs.Views.{reply_seen}
use Rattle.world.proofs.extents.added_since.Given as goal

abbrev pub invariant-loop-id : goal.invariant-loop-id
invariant-loop-id l = (t : State) → Records l.recording t → map reply_seen l.all.items ++ added_by t l.id-iterator ≡ added_by t l.noted.entries
