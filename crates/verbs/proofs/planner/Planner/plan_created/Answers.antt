use Rattle.verbs.specs.PlannerViews.{type_of}
use Rattle.verbs.proofs.Said.{empty_well_typed}
use Rattle.verbs.proofs.planner.Planner.plan_created.Goals as goal

pub plan_put_cached-requires-clause-well_typed : goal.plan_put_cached-requires-clause-well_typed
plan_put_cached-requires-clause-well_typed c =
    let s = (type_of c.args.self).shape in
    c.in_ok-owned.ensures.well_typed s c.requires.content (empty_well_typed s c.empty.result.tree c.empty.result.managers c.empty.ensures.tree c.empty.ensures.managers)
