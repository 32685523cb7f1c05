use Rattle.liveness_laws.proofs.WatchGoingOn as law
use Rattle.liveness_laws.proofs.watches_go_on.Goals as goal

pub returns : goal.returns
returns c = law.going_on c.both_ends.ensures.bytes
