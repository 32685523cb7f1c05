use Rattle.polling.proofs.Leading.{unasked_compacts, unasked_none}
use Rattle.polling.proofs.peers.Peers.compact.Goals as goal

pub returns-then-is_due : goal.returns-then-is_due
returns-then-is_due g c = unasked_compacts _ _ _ c.compact.ensures

pub returns-else-is_due : goal.returns-else-is_due
returns-else-is_due g c = unasked_none _
