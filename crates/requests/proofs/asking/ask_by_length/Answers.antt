use Rattle.std.proofs.Common.{ℕ, ◌≤◌, Option, Some, IfSome, sym, subst}
use Rattle.api_request.specs.Views.{target_of}
use Rattle.requests.specs.Asks.{call_with}
use Rattle.requests.specs.Bodies.{declared_body, max_body}
use Rattle.requests.specs.RequestSizes.{IsSizedBy}
use Rattle.requests.specs.Views.{request_in}
use Rattle.requests.proofs.RequestSizes.{sized_body, sized_none}
use Rattle.requests.proofs.asking.ask_by_length.Goals as goal

pub whole_size-requires-clause-body : goal.whole_size-requires-clause-body
whole_size-requires-clause-body c = subst (λ (o : Option ℕ). IfSome o (λ n. n ≤ max_body)) c.in-Some.is c.requires.length

pub returns-in-None-clause-size : goal.returns-in-None-clause-size
returns-in-None-clause-size c =
    let request = request_in c.args.head.now in
    let target = target_of c.args.target in
    let head = c.args.head.now.size in
    subst (λ (o : Option ℕ). IsSizedBy (λ rest. call_with request target (declared_body o rest)) head head) (sym c.in-None.is) (sized_none request target head)

pub returns-in_ok-progress-in-Some-clause-size : goal.returns-in_ok-progress-in-Some-clause-size
returns-in_ok-progress-in-Some-clause-size c =
    let request = request_in c.args.head.now in
    let target = target_of c.args.target in
    let head = c.args.head.now.size in
    let length = c.in-Some.length in
    subst (λ (o : Option ℕ). IsSizedBy (λ rest. call_with request target (declared_body o rest)) head c.whole_size.result) (sym c.in-Some.is)
    (subst (IsSizedBy (λ rest. call_with request target (declared_body (Some length) rest)) head) (sym c.whole_size.ensures) (sized_body request target head length))
