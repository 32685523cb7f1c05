use Rattle.polling.proofs.Leading.{unasked_none, unasked_then}
use Rattle.polling.proofs.peers.Peers.pump_from.Goals as goal

pub loop-at-init : goal.loop-at-init
loop-at-init g c = unasked_none _

pub loop-at-preserved : goal.loop-at-preserved
loop-at-preserved g c = unasked_then _ _ _ c.loop-at.invariant c.pump_at.ensures
