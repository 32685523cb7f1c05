use Rattle.std.proofs.Common.{[], drop}
use Rattle.serde_json.specs.View.{items_view}
use Rattle.pathmap.specs.Maps.{content}
use Rattle.schema.specs.Shape.{shape}
use Rattle.typed.specs.Reading.{items_at, plain_of, set_item}
use Rattle.typed.proofs.Listed.{AreItemsSoFar}
use Rattle.typed.proofs.read.read_set.Given as goal

abbrev pub invariant-loop-place : goal.invariant-loop-place
invariant-loop-place l = AreItemsSoFar (set_item (plain_of (shape l.inner))) (items_at (set_item (plain_of (shape l.inner))) 0 [] (items_view l.items)) (content l.map) l.place (drop l.place l.items)
