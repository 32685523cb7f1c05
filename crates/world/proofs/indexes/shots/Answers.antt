use Rattle.std.proofs.Common.{◌∙◌}
use Rattle.indexer.specs.Indexer.{indexed_objects_of, names_of}
use Rattle.world.proofs.Shots.{shots_next}
use Rattle.world.proofs.indexes.shots.Goals as goal

pub loop-name-preserved : goal.loop-name-preserved
loop-name-preserved g c =
    shots_next (indexed_objects_of c.args.indexer.now) (names_of c.args.indexer.now) _ c.loop-name.name-index c.name-item.result c.loop-name.all.items _ c.in_ok-shot_of.field-0 c.loop-name-test.true c.name-item.is c.in_ok-push.ensures.items
    (c.in_ok-shot_of.ensures.named ∙ c.as_str.ensures.value) c.in_ok-shot_of.ensures.shows c.loop-name.invariant
