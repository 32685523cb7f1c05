use Rattle.serving.proofs.Joining.{one_none, one_served}
use Rattle.serving.proofs.listening.serve_next.Goals as goal

pub returns-in_err-stream-clause-served : goal.returns-in_err-stream-clause-served
returns-in_err-stream-clause-served g c = one_none _

pub returns-in_err-reader-clause-served : goal.returns-in_err-reader-clause-served
returns-in_err-reader-clause-served g c = one_none _

pub returns-clause-served : goal.returns-clause-served
returns-clause-served g c = one_served _ _ _ _ _ _ c.serve-is_kept.ensures.served

pub returns-then-not-has_ids-clause-served : goal.returns-then-not-has_ids-clause-served
returns-then-not-has_ids-clause-served g c = one_none _
