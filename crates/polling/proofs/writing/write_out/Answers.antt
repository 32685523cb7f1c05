use Rattle.polling.proofs.Leading.{writes_more, writes_none}
use Rattle.polling.proofs.writing.write_out.Goals as goal

pub writes-init : goal.writes-init
writes-init g c = writes_none _ _ _

pub writes-preserved : goal.writes-preserved
writes-preserved g c = writes_more _ _ _ _ _ _ _ c.writes.invariant c.write_piece.ensures.sent_bytes

pub returns-in-Err-clause-sent_bytes : goal.returns-in-Err-clause-sent_bytes
returns-in-Err-clause-sent_bytes g c = writes_more _ _ _ _ _ _ _ c.writes.invariant c.write_piece.ensures.sent_bytes

pub returns-in_default-clause-sent_bytes : goal.returns-in_default-clause-sent_bytes
returns-in_default-clause-sent_bytes g c = writes_more _ _ _ _ _ _ _ c.writes.invariant c.write_piece.ensures.sent_bytes

pub returns-in_default-2-clause-sent_bytes : goal.returns-in_default-2-clause-sent_bytes
returns-in_default-2-clause-sent_bytes g c = writes_more _ _ _ _ _ _ _ c.writes.invariant c.write_piece.ensures.sent_bytes
