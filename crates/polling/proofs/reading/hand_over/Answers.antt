use Rattle.polling.proofs.Leading.{hands_more, hands_none}
use Rattle.polling.proofs.reading.hand_over.Goals as goal

pub reads-init : goal.reads-init
reads-init g c = hands_none _ _ _

pub reads-preserved : goal.reads-preserved
reads-preserved g c = hands_more _ _ _ _ _ _ _ c.reads.invariant c.hand_piece.ensures

pub returns-in-Err : goal.returns-in-Err
returns-in-Err g c = hands_more _ _ _ _ _ _ _ c.reads.invariant c.hand_piece.ensures

pub returns-in_default : goal.returns-in_default
returns-in_default g c = hands_more _ _ _ _ _ _ _ c.reads.invariant c.hand_piece.ensures

pub returns-in_default-2 : goal.returns-in_default-2
returns-in_default-2 g c = hands_more _ _ _ _ _ _ _ c.reads.invariant c.hand_piece.ensures
