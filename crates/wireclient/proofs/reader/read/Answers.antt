use Rattle.std.proofs.Common.{refl, map}
use Rattle.wireclient.specs.Views.{state_of, reply_item_of}
use Rattle.wireclient.proofs.Leading.{reaches_on}
use Rattle.wireclient.proofs.reader.read.Goals as goal

pub loop-at-preserved : goal.loop-at-preserved
loop-at-preserved c =
    let next = reaches_on (state_of c.args.from) (state_of c.loop-at.state) (state_of c.in_ok-next.next) (state_of c.in_ok-taken.taken.state) c.args.piece.now c.loop-at.at _ 0 c.in_ok-taken.taken.count
    (map reply_item_of c.loop-at.emitted.items) (map reply_item_of c.step.new.emitted.items) c.loop-at-test.true refl c.loop-at.invariant.reaches c.in_ok-next.ensures c.in_ok-taken.ensures in
    record { within = next.0; reaches = next.1 }
