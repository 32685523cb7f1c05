use Rattle.std.proofs.Common.{refl}
use Rattle.polling.proofs.Leading.{unasked_event, unasked_none}
use Rattle.polling.proofs.peers.Peers.tick.Goals as goal

pub returns-then-is_early : goal.returns-then-is_early
returns-then-is_early g c = unasked_none _

pub returns : goal.returns
returns g c = unasked_event _ _ _ c.hand.ensures.hands refl
