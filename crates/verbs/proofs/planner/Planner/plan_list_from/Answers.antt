use Rattle.std.proofs.Common.{◌≡◌, ℕ, List, IfOk, option_map, subst}
use Rattle.params.specs.declared.params.Asked.TheVariants as asked
use Rattle.api_validation.specs.Parameters.{parameters_for}
use Rattle.verbs.specs.PlannerViews.{type_of}
use Rattle.api_request.specs.Views.{plan_of}
use Rattle.verbs.specs.Step.{collection_of, list_answered, list_plan, plan_for, shown_by}
use Rattle.watchline.specs.Watches.{from_view}
use Rattle.api_request.proofs.Refusals.{fails_then}
use Rattle.verbs.proofs.planner.Planner.plan_list_from.Goals as goal

pub returns-in-Err-clause-planned : goal.returns-in-Err-clause-planned
returns-in-Err-clause-planned c =
    let t = type_of c.args.self in
    let kind = c.args.self.kind in
    let s = from_view c.args.store.now in
    let namespace = option_map (λ s. s.now) c.args.namespace in
    let query = c.deref.result.now in
    subst (λ (q : List ℕ). IfOk c.plan_for.result (λ p. plan_of p ≡ plan_for (list_plan t s kind namespace q))) c.deref.ensures.value
    (c.plan_for.ensures.plan_for (list_plan t s kind namespace query)
    (fails_then c.in-Err.call_error (parameters_for t asked.List query) (λ values. list_answered (shown_by s (collection_of t kind namespace) values values.watch)) c.in-Err.ensures))
