use Rattle.std.proofs.Common.{ap, sym, ◌∙◌}
use Rattle.api_request.specs.Views.{body_seen}
use Rattle.requests.specs.Bodies.{some_json}
use Rattle.requests.specs.Decision.{refused}
use Rattle.requests.proofs.Numbers.{value_read, value_unread, isnt}
use Rattle.requests.proofs.body.json_in.Goals as goal

pub returns-in-Ok : goal.returns-in-Ok
returns-in-Ok c = ap some_json (sym (value_read c.args.bytes.now (body_seen c.in-Ok.body) c.in-Ok.ensures.ok.0 c.in-Ok.ensures.ok.1))

pub returns-in-Err-2 : goal.returns-in-Err-2
returns-in-Err-2 c =
    ap refused c.denied.ensures ∙ ap some_json (sym (value_unread c.args.bytes.now (c.in-Err.ensures.err (isnt c.is_memory.result c.is_memory.ensures c.if-is_memory.false))))
