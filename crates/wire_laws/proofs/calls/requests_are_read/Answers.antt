use Rattle.wire_laws.proofs.PrintedRequests.{request_says}
use Rattle.wire_laws.proofs.calls.requests_are_read.Goals as goal

pub returns : goal.returns
returns c = request_says
