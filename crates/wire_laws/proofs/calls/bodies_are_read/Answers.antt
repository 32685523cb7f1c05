use Rattle.wire_laws.proofs.PrintedRequests.{body_back}
use Rattle.wire_laws.proofs.calls.bodies_are_read.Goals as goal

pub returns : goal.returns
returns c = body_back
