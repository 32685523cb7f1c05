use Rattle.polling.proofs.Leading.{unasked_same, unasked_then}
use Rattle.polling.proofs.peers.Peers.follow.Goals as goal

pub returns-then-is_over : goal.returns-then-is_over
returns-then-is_over g c = unasked_then _ _ _ (unasked_same _ _ c.await_next-next.ensures) c.close.ensures

pub returns-else-is_over : goal.returns-else-is_over
returns-else-is_over g c = unasked_same _ _ c.await_next-next.ensures
