use Rattle.httpedge.proofs.Lasting.{runs_last}
use Rattle.httpedge.proofs.laws.machines_last.Goals as goal

pub returns : goal.returns
returns c = runs_last
