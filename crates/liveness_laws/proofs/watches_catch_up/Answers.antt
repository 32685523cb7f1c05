use Rattle.liveness_laws.proofs.CatchingUp as law
use Rattle.liveness_laws.proofs.watches_catch_up.Goals as goal

pub returns : goal.returns
returns c = law.catching_up c.both_ends.ensures.bytes
