use Rattle.httpedge.proofs.Staying.{ends}
use Rattle.httpedge.proofs.laws.ends_stay.Goals as goal

pub returns : goal.returns
returns c = ends
