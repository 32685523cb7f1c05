use Rattle.polling.proofs.Leading.{any_none, any_then}
use Rattle.polling.proofs.server.Server.serve.Goals as goal

pub turns-init : goal.turns-init
turns-init g c = any_none _

pub turns-preserved : goal.turns-preserved
turns-preserved g c = any_then _ _ _ c.turns.invariant c.turn.ensures

pub returns-in_err-turn-clause-reaches : goal.returns-in_err-turn-clause-reaches
returns-in_err-turn-clause-reaches g c = any_then _ _ _ c.turns.invariant c.turn.ensures
