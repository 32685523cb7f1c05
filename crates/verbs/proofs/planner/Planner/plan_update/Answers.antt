use Rattle.std.proofs.Common.{◌≡◌, Ok, subst}
use Rattle.params.specs.declared.params.Asked.TheVariants as asked
use Rattle.serde_json.specs.View.{view}
use Rattle.api_request.specs.declared.verb.Verb.TheVariants.{Update}
use Rattle.history.specs.Read.{key_of}
use Rattle.verbs.specs.PlannerViews.{call_of_entry, type_of}
use Rattle.verbs.specs.Views.{intent_seen}
use Rattle.verbs.specs.Step.{at_path, intent_of}
use Rattle.verbs.proofs.Contents.{intended_content}
use Rattle.verbs.proofs.planner.Planner.plan_update.Goals as goal

pub plan_put_unless_same-requires-clause-well_typed : goal.plan_put_unless_same-requires-clause-well_typed
plan_put_unless_same-requires-clause-well_typed c =
    let t = type_of c.args.self in
    let q = (call_of_entry c.args.self).query in
    let d = view c.in_ok-body.body.now in
    let i = intent_seen c.in_ok-intent.intent in
    c.in_ok-owned.ensures.well_typed t.shape
    (intended_content (at_path t (key_of c.args.key) Update c.args.subresource) asked.Put q d i c.requires.planner.1 c.in_ok-body.ensures.json
    (subst (λ of. intent_of of asked.Put q d ≡ Ok i) c.at_path-expected.ensures c.in_ok-intent.ensures)) c.requires.existing.well_typed
