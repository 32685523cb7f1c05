use Rattle.settling_laws.proofs.Served as served
use Rattle.settling_laws.proofs.summaries_can_be_served.Goals as goal

pub returns : goal.returns
returns c = served.summaries_can_be_served
