use Rattle.serving.proofs.Receiving.{receives_alone, receives_none, talks_then, talks_until}
use Rattle.serving.proofs.conversing.converse.Goals as goal

pub returns-in_err-open : goal.returns-in_err-open
returns-in_err-open g c = talks_until _ _ _ _ _ _ _ _ _ c.from_residual.ensures.1 (receives_alone _ _ _ _ _ _ _ c.open.ensures (receives_none _ _ _))

pub returns-in_err-hand_over : goal.returns-in_err-hand_over
returns-in_err-hand_over g c = talks_until _ _ _ _ _ _ _ _ _ c.from_residual-in_err-hand_over.ensures.1 (receives_alone _ _ _ _ _ _ _ c.open.ensures c.hand_over.ensures)

pub returns : goal.returns
returns g c = talks_then _ _ _ _ _ _ _ _ _ _ (receives_alone _ _ _ _ _ _ _ c.open.ensures c.hand_over.ensures) c.write_out.ensures
