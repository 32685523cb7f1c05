use Rattle.std.proofs.Common.{◌∙◌, refl}
use Rattle.world.proofs.Ids.{replies_more}
use Rattle.world.proofs.server.replies_of.Goals as goal

pub loop-id-preserved : goal.loop-id-preserved
loop-id-preserved c = λ s records.
    replies_more s c.args.ids.now c.loop-id.id-index _ _ _ c.in_ok-written.written c.loop-id-test.true refl c.in_ok-push.ensures.items (c.in_ok-written.ensures.items ∙ c.written.ensures s records) (c.loop-id.invariant s records)
