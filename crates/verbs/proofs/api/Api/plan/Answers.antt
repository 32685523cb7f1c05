use Rattle.std.proofs.Common.{List, ◌∙◌, subst, sym}
use Rattle.std.proofs.lemmas.Result.{IfOk-weaker}
use Rattle.history.specs.History.{Change}
use Rattle.history.specs.View.{View}
use Rattle.api_request.specs.Calls.{Plan}
use Rattle.api_request.specs.Views.{call_of, plan_of}
use Rattle.verbs.specs.Machine.{ComeAfter}
use Rattle.verbs.specs.Views.{types_of}
use Rattle.verbs.proofs.Fits.{planned_comes}
use Rattle.verbs.proofs.Planning.{planned_is, planned_next, represents_texts}
use Rattle.verbs.proofs.api.Api.plan.Goals as goal

pub returns-clause-planned : goal.returns-clause-planned
returns-clause-planned c = λ types m represents.
    IfOk-weaker c.planned.result _ _ (λ p is. is ∙ planned_is c.args.self.now types m (call_of c.args.call.now) represents) c.planned.ensures.planned

pub returns-clause-next : goal.returns-clause-next
returns-clause-next c = λ types m represents.
    IfOk-weaker c.planned.result _ _ (λ p is. planned_next types m c.args.call.now represents.is_machine p (is ∙ planned_is c.args.self.now types m (call_of c.args.call.now) represents)) c.planned.ensures.planned

pub returns-clause-comes : goal.returns-clause-comes
returns-clause-comes c =
    let v = c.args.self.now.store in
    IfOk-weaker c.planned.result _ _
    (λ p is. subst (λ (w : View). ComeAfter w (plan_of p).changes) (sym c.planned.ensures.same)
    (subst (λ (q : Plan). ComeAfter v q.changes) (sym is) (planned_comes (types_of c.args.self.now) v (call_of c.args.call.now))))
    c.planned.ensures.planned

pub returns-clause-readable : goal.returns-clause-readable
returns-clause-readable c = λ types m represents. c.planned.ensures.readable (represents_texts c.args.self.now types m (call_of c.args.call.now) represents)
