use Rattle.std.proofs.Common.{true, sym, ap, subst, ◌∙◌}
use Rattle.std.proofs.lemmas.Result.{IfOk-weaker}
use Rattle.api_request.specs.Calls.{Denied}
use Rattle.api_request.specs.Reasons.{code_of}
use Rattle.requests.specs.Replies.{refusal_reply}
use Rattle.httpedge.specs.ConnectionViews.{ConnectionRepresents}
use Rattle.httpedge.specs.Effects.{answer_change}
use Rattle.httpedge.proofs.Making.{opens_none, refused_with}
use Rattle.httpedge.proofs.connection.opening.Goals as goal

pub returns-clause-represents : goal.returns-clause-represents
returns-clause-represents c = λ types all is.
    let full = opens_none c.args.count all c.if-count-lt-MAX_OPEN.false is in
    IfOk-weaker c.refused.result _ _ (λ p holds. subst (ConnectionRepresents types p.0) (ap refused_with c.denied.ensures ∙ sym full.0) holds) (c.refused.ensures.represents types)

pub returns-clause-did : goal.returns-clause-did
returns-clause-did c = λ all is.
    let full = opens_none c.args.count all c.if-count-lt-MAX_OPEN.false is in
    IfOk-weaker c.refused.result _ _ (λ p did. did ∙ ap (λ (d : Denied). answer_change (refusal_reply d) (code_of d.reason) true) c.denied.ensures ∙ sym full.1) c.refused.ensures.did
