use Rattle.polling.proofs.Leading.{unasked_none, unasked_same, unasked_then}
use Rattle.polling.proofs.peers.Peers.pump_watches.Goals as goal

pub returns-then-not-self : goal.returns-then-not-self
returns-then-not-self g c = unasked_none _

pub returns : goal.returns
returns g c = unasked_then _ _ _ c.pump_from.ensures (unasked_then _ _ _ c.pump_from-2.ensures (unasked_same _ _ c.drop_closed.ensures))
