use Rattle.requests.proofs.Saying.{cut_here}
use Rattle.requests.proofs.head.validated.Goals as goal

pub returns-clause-ends : goal.returns-clause-ends
returns-clause-ends c = cut_here c.args.head.now c.args.rest.now
