use Rattle.polling.proofs.Leading.{unasked_none, unasked_then}
use Rattle.polling.proofs.peers.Peers.disturb.Goals as goal

pub returns-in_default : goal.returns-in_default
returns-in_default g c = unasked_none _

pub loop-revision-init : goal.loop-revision-init
loop-revision-init g c = unasked_none _

pub loop-revision-preserved : goal.loop-revision-preserved
loop-revision-preserved g c = unasked_then _ _ _ c.loop-revision.invariant c.disturb_after.ensures
