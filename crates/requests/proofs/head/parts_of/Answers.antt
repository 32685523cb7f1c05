use Rattle.std.proofs.Common.{Ok, Err, subst, length}
use Rattle.httparse.specs.declared.Status.{Status}
use Rattle.httparse.specs.declared.Status.TheVariants.{Complete}
use Rattle.httparse.specs.declared.spans.RequestSpans.{RequestSpans}
use Rattle.httparse.specs.Spans.{FindsRequest}
use Rattle.requests.proofs.Whole.{no_head}
use Rattle.requests.proofs.head.parts_of.Goals as goal

pub returns-else-parts-head-clause-none : goal.returns-else-parts-head-clause-none
returns-else-parts-head-clause-none c = λ _.
    let head = c.args.head.now in
    let room = length c.args.spans.now in
    let headers = c.parse_request.new.headers in
    let found = subst (λ (s : Status RequestSpans). FindsRequest head room headers (Ok s)) c.in-Ok-Complete.field-0-is c.in-Ok-Complete.ensures.found in
    no_head head room headers (Ok (Complete c.in-Ok-Complete.parts)) found c.if-parts-head.false

pub returns-in-Err-clause-none : goal.returns-in-Err-clause-none
returns-in-Err-clause-none c = λ _.
    no_head c.args.head.now (length c.args.spans.now) c.parse_request.new.headers (Err c.in-Err.field-0) c.in-Err.ensures.found (tt {0})
