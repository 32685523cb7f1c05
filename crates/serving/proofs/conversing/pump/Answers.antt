use Rattle.std.proofs.Common.{sym}
use Rattle.serving.proofs.Receiving.{ended_badly, ended_well}
use Rattle.serving.proofs.conversing.pump.Goals as goal

pub returns-then-is_err : goal.returns-then-is_err
returns-then-is_err g c = ended_badly _ _ _ _ _ _ _ _ _ (sym c.if-is_err.ensures.value) c.hand.ensures.hands c.write_out-done.ensures c.leave.ensures

pub returns-else-is_err : goal.returns-else-is_err
returns-else-is_err g c = ended_well _ _ _ _ _ _ _ _ (sym c.if-is_err.ensures.value) c.hand.ensures.hands c.write_out-done.ensures
