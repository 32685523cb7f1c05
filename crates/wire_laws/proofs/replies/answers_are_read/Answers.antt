use Rattle.std.proofs.Common.{None}
use Rattle.api_request.specs.Calls.{Answer}
use Rattle.verbs.specs.Step.{planned}
use Rattle.wire_laws.proofs.Written.{status_is}
use Rattle.wire_laws.proofs.replies.answers_are_read.Goals as goal

pub returns : goal.returns
returns c = λ types m call wide.
    let answer : Answer = (planned types m call).answer in
    c.replies_are_read.ensures.replies answer.status None answer.body (status_is types m call) (tt {0}) wide
