use Rattle.liveness_laws.proofs.Reaching as law
use Rattle.liveness_laws.proofs.lists_come_anew.Goals as goal

pub returns : goal.returns
returns c = law.lists_come c.both_ends.ensures.pages c.both_ends.ensures.lasts
