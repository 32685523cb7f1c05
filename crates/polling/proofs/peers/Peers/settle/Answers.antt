use Rattle.polling.proofs.Leading.{unasked_same, unasked_then}
use Rattle.polling.proofs.peers.Peers.settle.Goals as goal

pub returns-then-is_second-2 : goal.returns-then-is_second-2
returns-then-is_second-2 g c =
    unasked_then _ _ _ c.tick-is_second.ensures (unasked_then _ _ _ c.compact-is_risen.ensures (unasked_then _ _ _ c.disturb.ensures (unasked_then _ _ _ c.pump_watches.ensures (unasked_then _ _ _ c.drop_silent.ensures (unasked_same _ _ c.accept_anew.ensures)))))

pub returns-else-is_second-2 : goal.returns-else-is_second-2
returns-else-is_second-2 g c = unasked_then _ _ _ c.tick-is_second.ensures (unasked_then _ _ _ c.compact-is_risen.ensures (unasked_then _ _ _ c.disturb.ensures c.pump_watches.ensures))
