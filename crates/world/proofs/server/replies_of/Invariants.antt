use Rattle.std.proofs.Common.{◌≡◌, map, take}
use Rattle.httpedge.specs.Steps as edge
use Rattle.world.specs.Recording.{Records}
use Rattle.world.specs.Views.{reply_seen}
use Rattle.world.specs.Serving.{written_at}
use Rattle.world.proofs.server.replies_of.Given as goal

abbrev pub invariant-loop-id : goal.invariant-loop-id
invariant-loop-id l = (s : edge.State) → Records l.recording s → map reply_seen l.all.items ≡ map (written_at s) (take l.id-index l.ids)
