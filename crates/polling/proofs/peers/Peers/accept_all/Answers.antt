use Rattle.polling.proofs.Leading.{any_none, any_then}
use Rattle.polling.proofs.peers.Peers.accept_all.Goals as goal

pub accepts-init : goal.accepts-init
accepts-init g c = any_none _

pub accepts-preserved : goal.accepts-preserved
accepts-preserved g c = any_then _ _ _ c.accepts.invariant c.accept.ensures
