use Rattle.httpedge.proofs.Staying.{others}
use Rattle.httpedge.proofs.laws.others_stay.Goals as goal

pub returns : goal.returns
returns c = others
