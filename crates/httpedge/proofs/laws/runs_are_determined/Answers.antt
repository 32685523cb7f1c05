use Rattle.httpedge.proofs.Outcomes.{one_run}
use Rattle.httpedge.proofs.laws.runs_are_determined.Goals as goal

pub returns : goal.returns
returns c = one_run
