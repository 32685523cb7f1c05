use Rattle.liveness_laws.proofs.Expired as law
use Rattle.liveness_laws.proofs.expired_watches_are_given_up.Goals as goal

pub returns : goal.returns
returns c = law.watches_given_up c.both_ends.ensures
