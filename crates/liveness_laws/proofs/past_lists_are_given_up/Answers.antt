use Rattle.liveness_laws.proofs.GivenUp as law
use Rattle.liveness_laws.proofs.past_lists_are_given_up.Goals as goal

pub returns : goal.returns
returns c = law.lists_given_up c.both_ends.ensures.pages c.both_ends.ensures.lasts
