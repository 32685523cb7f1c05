use Rattle.std.proofs.Common.{Option, subst, sym}
use Rattle.answers.specs.WatchFrom.{WatchFrom}
use Rattle.verbs.specs.Step.{planned}
use Rattle.requests.specs.Replies.{answer_bytes}
use Rattle.wireclient.specs.Reads.{Items}
use Rattle.wire_laws.specs.Replied.{reply_sent}
use Rattle.wire_laws.proofs.turn_lines.answers_are_written.Goals as goal

pub returns : goal.returns
returns c = λ types m call none wide.
    let answer = (planned types m call).answer in
    subst (λ (o : Option WatchFrom). Items (answer_bytes answer o) (reply_sent answer.status answer.body)) (sym none) (c.answers_are_read.ensures types m call wide)
