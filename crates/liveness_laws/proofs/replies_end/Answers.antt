use Rattle.liveness_laws.proofs.Ending as law
use Rattle.liveness_laws.proofs.replies_end.Goals as goal

pub returns : goal.returns
returns c = law.replies_end c.both_ends.ensures.bytes
