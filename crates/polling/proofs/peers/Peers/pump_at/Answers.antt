use Rattle.polling.proofs.Leading.{unasked_none, unasked_same, unasked_then}
use Rattle.polling.proofs.peers.Peers.pump_at.Goals as goal

pub returns-in_default : goal.returns-in_default
returns-in_default g c = unasked_none _

pub returns-in_default-get : goal.returns-in_default-get
returns-in_default-get g c = unasked_none _

pub returns-then-contains : goal.returns-then-contains
returns-then-contains g c = unasked_none _

pub returns-then-has_turn : goal.returns-then-has_turn
returns-then-has_turn g c = unasked_then _ _ _ (unasked_same _ _ c.has_turn.ensures) c.pump_watch.ensures

pub returns-else-has_turn : goal.returns-else-has_turn
returns-else-has_turn g c = unasked_same _ _ c.has_turn.ensures
