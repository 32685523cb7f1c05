use Rattle.liveness_laws.proofs.CatchingUp as law
use Rattle.liveness_laws.proofs.watches_tell.Goals as goal

pub returns : goal.returns
returns c = law.telling_all c.both_ends.ensures.bytes
