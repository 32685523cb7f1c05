use Rattle.std.proofs.Common.{sym}
use Rattle.serving.proofs.Receiving.{over_badly, over_well}
use Rattle.serving.proofs.conversing.turn.Goals as goal

pub returns-then-is_err : goal.returns-then-is_err
returns-then-is_err g c = over_badly _ _ _ _ _ _ _ _ _ (sym c.if-is_err.ensures.value) c.converse-done.ensures c.leave.ensures

pub returns-else-is_err : goal.returns-else-is_err
returns-else-is_err g c = over_well _ _ _ _ _ _ _ _ (sym c.if-is_err.ensures.value) c.converse-done.ensures
