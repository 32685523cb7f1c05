use Rattle.liveness_laws.proofs.GoingOn as law
use Rattle.liveness_laws.proofs.lists_go_on.Goals as goal

pub returns : goal.returns
returns c = law.lists_go_on c.both_ends.ensures.pages c.both_ends.ensures.bytes
