use Rattle.std.proofs.Common.{refl, sym}
use Rattle.httpedge.proofs.connection.go_from.Goals as goal

pub returns : goal.returns
returns c = λ types x. (refl, sym c.has_ended-had_ended.ensures, refl)
