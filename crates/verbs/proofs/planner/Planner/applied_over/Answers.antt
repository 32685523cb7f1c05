use Rattle.verbs.specs.PlannerViews.{type_of}
use Rattle.verbs.proofs.planner.Planner.applied_over.Goals as goal

pub plan_put_unless_same-requires-clause-well_typed : goal.plan_put_unless_same-requires-clause-well_typed
plan_put_unless_same-requires-clause-well_typed c = c.in_ok-owned.ensures.well_typed (type_of c.args.self).shape c.requires.content c.requires.existing.well_typed
