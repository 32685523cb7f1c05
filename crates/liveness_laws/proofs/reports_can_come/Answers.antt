use Rattle.liveness_laws.proofs.Reaching as law
use Rattle.liveness_laws.proofs.reports_can_come.Goals as goal

pub returns : goal.returns
returns c = law.reports_come c.both_ends.ensures.pages c.both_ends.ensures.lasts
