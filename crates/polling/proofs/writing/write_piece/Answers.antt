use Rattle.polling.proofs.Leading.{sends_take, writes_kept, writes_none}
use Rattle.polling.proofs.writing.write_piece.Goals as goal

pub returns-then-is_empty-clause-sent_bytes : goal.returns-then-is_empty-clause-sent_bytes
returns-then-is_empty-clause-sent_bytes g c = writes_none _ _ _

pub returns-in_err-count-clause-sent_bytes : goal.returns-in_err-count-clause-sent_bytes
returns-in_err-count-clause-sent_bytes g c = writes_kept _ _ _ _ _ _ (writes_none _ _ _) c.in_err-count.ensures.bytes

pub returns-clause-sent_bytes : goal.returns-clause-sent_bytes
returns-clause-sent_bytes g c = (_, c.in_ok-count.ensures.bytes, sends_take c.bytes_are_taken.ensures _ _ _ _ _ c.out-out.ensures c.take.ensures.takes)
