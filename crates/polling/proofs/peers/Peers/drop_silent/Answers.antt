use Rattle.polling.proofs.Leading.{unasked_none, unasked_then}
use Rattle.polling.proofs.peers.Peers.drop_silent.Goals as goal

pub loop-id-init : goal.loop-id-init
loop-id-init g c = unasked_none _

pub loop-id-preserved : goal.loop-id-preserved
loop-id-preserved g c = unasked_then _ _ _ c.loop-id.invariant c.close.ensures
