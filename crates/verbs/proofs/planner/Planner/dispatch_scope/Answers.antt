use Rattle.std.proofs.Common.{refl}
use Rattle.verbs.specs.PlannerViews.{type_of}
use Rattle.verbs.specs.Views.{objects_in}
use Rattle.verbs.specs.Step.{key_at}
use Rattle.verbs.proofs.Planning.{readable_at}
use Rattle.verbs.proofs.planner.Planner.dispatch_scope.Goals as goal

pub returns-in-Object-default-clause-readable : goal.returns-in-Object-default-clause-readable
returns-in-Object-default-clause-readable c = λ all serves texts.
    let k = key_at c.args.self.kind c.as_str-in-Object-default.result.now c.as_str-in-Object-default-2.result.now in
    c.dispatch_object.ensures.readable (readable_at all (type_of c.args.self) k (objects_in c.args.store.now) _ refl serves texts)
