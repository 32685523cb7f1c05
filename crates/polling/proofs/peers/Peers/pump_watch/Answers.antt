use Rattle.polling.proofs.Leading.{unasked_all, unasked_none, unasked_then}
use Rattle.polling.proofs.peers.Peers.pump_watch.Goals as goal

pub returns-in_default : goal.returns-in_default
returns-in_default g c = unasked_none _

pub returns : goal.returns
returns g c = unasked_then _ _ _ (unasked_all _ _ _ c.pump-next.ensures) c.follow.ensures
