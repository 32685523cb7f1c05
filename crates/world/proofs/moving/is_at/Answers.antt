use Rattle.std.proofs.Common.{◌∙◌, sym}
use Rattle.world.proofs.NextMoves.{at_none, at_some}
use Rattle.world.proofs.moving.is_at.Goals as goal

pub returns-in-Some : goal.returns-in-Some
returns-in-Some c = λ cache is. at_some c.args.current c.in-Some.revision cache (sym c.in-Some.is ∙ is)

pub returns-in-None : goal.returns-in-None
returns-in-None c = λ cache is. at_none c.args.current cache (sym c.in-None.is ∙ is)
