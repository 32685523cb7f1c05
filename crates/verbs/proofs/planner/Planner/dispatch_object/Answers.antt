use Rattle.std.proofs.Common.{◌≡◌, Some, codes, sym, subst}
use Rattle.std.specs.FinMap as fin
use Rattle.std.specs.Result.{IfOk}
use Rattle.api_request.specs.declared.reason.Reason.TheVariants.{MethodNotAllowed}
use Rattle.api_request.specs.declared.verb.Verb.{Verb}
use Rattle.api_request.specs.Calls.{Plan}
use Rattle.api_request.specs.Validated.{detailed}
use Rattle.api_request.specs.Views.{plan_of}
use Rattle.api_request.proofs.Refusals.{refuses_fails}
use Rattle.verbs.specs.PlannerViews.{call_of_entry, type_of}
use Rattle.verbs.specs.Step.{dispatch_object, key_at, method_not_allowed, plan_for}
use Rattle.verbs.specs.Views.{objects_in}
use Rattle.verbs.proofs.planner.Planner.dispatch_object.Goals as goal

pub returns-in-Create-clause-planned : goal.returns-in-Create-clause-planned
returns-in-Create-clause-planned c =
    let t = type_of c.args.self in
    let k = key_at c.args.self.kind c.args.namespace.now c.args.name.now in
    let asked = call_of_entry c.args.self in
    subst (λ (v : Verb). IfOk c.refuse.result
    (λ p. plan_of p ≡ plan_for (detailed t (Some c.args.name.now) (dispatch_object v c.args.subresource t c.args.store.now.current (fin.get (objects_in c.args.store.now) k) k asked.query asked.body)))) (sym c.in-Create.is)
    (c.refuse.ensures.planned method_not_allowed (refuses_fails Plan c.refused_for.result MethodNotAllowed (codes "method not served here") c.refused_for.ensures))
