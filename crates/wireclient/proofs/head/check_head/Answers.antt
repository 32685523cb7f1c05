use Rattle.std.proofs.Common.{rules, Ok, subst}
use Rattle.httparse.specs.declared.Error.{Error}
use Rattle.httparse.specs.declared.Status.{Status}
use Rattle.httparse.specs.declared.spans.ResponseSpans.{ResponseSpans}
use Rattle.httparse.specs.Outcome.{IfComplete}
use Rattle.httparse.specs.Spans.{IsResponseOf}
use Rattle.wireclient.specs.Views.{framing_in}
use Rattle.wireclient.proofs.Checking.{whole_head}
use Rattle.wireclient.proofs.head.check_head.Goals as goal

pub returns-in-Some : goal.returns-in-Some
returns-in-Some c =
    let head = c.args.head.now in
    let headers = c.parse_response.new.headers in
    let found = subst (λ (s : Status ResponseSpans). IfComplete {E = Error} (Ok s) (IsResponseOf head headers)) c.in-Ok-Complete.field-0-is c.in-Ok-Complete.ensures.complete in
    whole_head head headers c.in-Ok-Complete.parts found c.if-parts-head.true (search rules) (framing_in c.in-Some.framing) c.in-Some.ensures
