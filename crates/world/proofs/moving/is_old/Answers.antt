use Rattle.std.proofs.Common.{◌∙◌, sym}
use Rattle.world.proofs.NextMoves.{old_none, old_some}
use Rattle.world.proofs.moving.is_old.Goals as goal

pub returns-in-Some : goal.returns-in-Some
returns-in-Some c = λ phase is. old_some c.args.current c.in-Some.revision phase (sym c.in-Some.is ∙ is)

pub returns-in-None : goal.returns-in-None
returns-in-None c = λ phase is. old_none c.args.current phase (sym c.in-None.is ∙ is)
