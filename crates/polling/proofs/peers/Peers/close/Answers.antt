use Rattle.polling.proofs.Leading.{unasked_none, unasked_same, unasked_then, unasked_all}
use Rattle.polling.proofs.peers.Peers.close.Goals as goal

pub returns-then-is_none : goal.returns-then-is_none
returns-then-is_none g c = unasked_none _

pub returns : goal.returns
returns g c = unasked_then _ _ _ (unasked_all _ _ _ c.part.ensures) (unasked_then _ _ _ (unasked_same _ _ c.count_closed.ensures) (unasked_same _ _ c.accept_anew.ensures))
