use Rattle.std.proofs.Common.{option_map, refl, ap, subst, ◌∙◌}
use Rattle.answers.specs.Views.{watch_from}
use Rattle.api_request.specs.Calls.{Call, at_tick}
use Rattle.api_request.specs.Views.{call_of, denied_of}
use Rattle.verbs.specs.Step.{planned}
use Rattle.requests.specs.Replies.{answer_bytes}
use Rattle.requests.specs.Decision.{undecided, refused, accepted}
use Rattle.requests.specs.Pendings.{Finds}
use Rattle.requests.specs.ReadBufferViews.{buffered}
use Rattle.httpedge.specs.declared.effect.Done.{Done}
use Rattle.httpedge.specs.CallReplyViews.{Serves}
use Rattle.httpedge.specs.Effects.{asked_in, unasked}
use Rattle.httpedge.proofs.Turning.{answered_did}
use Rattle.httpedge.proofs.connection.decided.Goals as goal

pub returns-in-Pending-clause-ok : goal.returns-in-Pending-clause-ok
returns-in-Pending-clause-ok c = λ types m represents finds.
    let found = subst (Finds types (buffered c.args.prefix)) c.in-Pending.is finds in
    let did = c.unasked-done.ensures ∙ ap unasked c.none.ensures in
    (undecided, found.0, (refl, found.1), (ap (λ (d : Done). d.change) did, ap asked_in did), represents)

pub returns-in_ok-connection-in-Refused-clause-ok : goal.returns-in_ok-connection-in-Refused-clause-ok
returns-in_ok-connection-in-Refused-clause-ok c = λ types m represents finds.
    let reply = c.in_ok-connection-in-Refused.ensures in (
      refused (denied_of c.in-Refused.denied),
      subst (Finds types (buffered c.args.prefix)) c.in-Refused.is finds,
      reply.represents types,
      (c.asked.ensures.change ∙ reply.did, c.asked.ensures.request),
      represents,
    )

pub returns-in_ok-served-in-Call-clause-ok : goal.returns-in_ok-served-in-Call-clause-ok
returns-in_ok-served-in-Call-clause-ok c = λ types m represents finds.
    let bytes = buffered c.args.prefix in
    let reply = c.in_ok-served-in-Call.served in
    let served = subst (λ (call : Call). Serves types m call reply.bytes.items reply.status (option_map watch_from reply.watch) c.serve.new.api) c.at_tick-call.ensures (c.in_ok-served-in-Call.ensures.ok types m represents) in
    let answer = (planned types m (at_tick c.args.last_tick (call_of c.in-Call.call))).answer in
    let written = served.0 ∙ ap (answer_bytes answer) served.2 in (
      accepted (call_of c.in-Call.call),
      subst (Finds types bytes) c.in-Call.is finds,
      c.answered-connection.ensures.represents types answer written served.2,
      (
        c.asked-in-Call.ensures.change ∙ c.answered-connection.ensures.did ∙ answered_did types m c.args.last_tick bytes (call_of c.in-Call.call) _ _ _ written served.1 served.2,
        c.asked-in-Call.ensures.request,
      ),
      served.3,
    )
