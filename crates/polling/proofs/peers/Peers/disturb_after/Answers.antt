use Rattle.polling.proofs.Leading.{unasked_compacts, unasked_none, unasked_same, unasked_then}
use Rattle.polling.proofs.peers.Peers.disturb_after.Goals as goal

pub returns-in_default : goal.returns-in_default
returns-in_default g c = unasked_none _

pub returns-in_default-chosen : goal.returns-in_default-chosen
returns-in_default-chosen g c = unasked_same _ _ c.chosen.ensures

pub returns-in-Cut : goal.returns-in-Cut
returns-in-Cut g c = unasked_then _ _ _ (unasked_same _ _ c.chosen.ensures) c.close.ensures

pub returns-in-Hold : goal.returns-in-Hold
returns-in-Hold g c = unasked_then _ _ _ (unasked_same _ _ c.chosen.ensures) (unasked_same _ _ c.hold.ensures)

pub returns-in-Expiry : goal.returns-in-Expiry
returns-in-Expiry g c = unasked_then _ _ _ (unasked_same _ _ c.chosen.ensures) (unasked_then _ _ _ (unasked_compacts _ _ _ c.compact.ensures) c.close-in-Expiry.ensures)
