use Rattle.std.proofs.Common.{refl, sym, subst}
use Rattle.api_types.specs.Served.{types_view}
use Rattle.api_request.specs.Views.{denied_of}
use Rattle.requests.specs.Decision.{refused}
use Rattle.requests.specs.RequestSizes.{HasRequestSize}
use Rattle.requests.specs.Views.{request_in}
use Rattle.requests.proofs.RequestSizes.{head_short, size_by, size_refused}
use Rattle.requests.proofs.Saying.{finds_first}
use Rattle.requests.proofs.asking.ask_sized.Goals as goal

pub ask_by_head-requires : goal.ask_by_head-requires
ask_by_head-requires c =
    head_short c.args.bytes.now c.in-Accepted.head.rest.now c.in-Accepted.head.size (request_in c.in-Accepted.head) c.in-Accepted.ensures.says c.in-Accepted.ensures.ends

pub returns-in-Refused : goal.returns-in-Refused
returns-in-Refused c =
    let types = types_view c.args.types.now in
    let denied = denied_of c.in-Refused.denied in (
      (refused denied, c.in-Refused.ensures.says, refl),
      subst (HasRequestSize types c.args.bytes.now) (sym c.unwrap_or.ensures) (size_refused types c.args.bytes.now denied c.args.end c.requires c.in-Refused.ensures.says),
    )

pub returns-in_ok-ask_by_head-in-Accepted : goal.returns-in_ok-ask_by_head-in-Accepted
returns-in_ok-ask_by_head-in-Accepted c =
    let types = types_view c.args.types.now in
    let head = c.in-Accepted.head in
    let says = c.in-Accepted.ensures.says in
    let ends = c.in-Accepted.ensures.ends in
    let asked = c.in_ok-ask_by_head-in-Accepted.field-0 in
    let is = c.in_ok-ask_by_head-in-Accepted.ensures in (
      finds_first types c.args.bytes.now head.rest.now head.size (request_in head) asked.progress says ends is.asks is.carries,
      size_by types c.args.bytes.now head.rest.now head.size asked.size (request_in head) says ends is.size,
    )
