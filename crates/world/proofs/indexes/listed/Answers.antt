use Rattle.indexer.specs.Indexer.{indexed_objects_of, is_under, names_of}
use Rattle.indexer.specs.Objects.{place_of}
use Rattle.world.proofs.Shots.{copied_next, keys_next, listed_next}
use Rattle.world.proofs.indexes.listed.Goals as goal

pub loop-text-preserved : goal.loop-text-preserved
loop-text-preserved g c =
    let held = indexed_objects_of c.args.indexer.now in
    let names = names_of c.args.indexer.now in
    let name = c.args.name.now in
    let pushed = c.in_ok-push.ensures.items in
    let text = c.in_ok-key.ensures.ok in
    let before = c.loop-text.invariant in (
      λ key q. listed_next (λ k. is_under held names name k (place_of q)) key (place_of q) c.args.texts.now c.loop-text.text-index _ c.loop-text.keys.items _ c.in_ok-key.key c.in_ok-objects.objects
          c.loop-text-test.true pushed text (c.in_ok-objects.ensures.members q) (before.0 key q),
      keys_next c.args.texts.now c.loop-text.text-index _ c.loop-text.keys.items _ c.in_ok-key.key c.in_ok-objects.objects c.loop-text-test.true pushed text before.1,
      copied_next held names name _ c.loop-text.keys.items _ c.in_ok-key.key c.in_ok-objects.objects pushed text c.in_ok-objects.ensures.members c.in_ok-objects.ensures.ascending before.2,
    )
