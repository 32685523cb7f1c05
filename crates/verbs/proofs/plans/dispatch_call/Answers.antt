use Rattle.std.proofs.Common.{sym, subst}
use Rattle.api_types.specs.Served.{types_view}
use Rattle.api_request.specs.declared.calls.Target.{Target as TheTarget}
use Rattle.api_request.specs.Views.{target_of}
use Rattle.verbs.specs.CachedStateViews.{AreCoherentFor}
use Rattle.verbs.proofs.Recalling.{both_of}
use Rattle.verbs.proofs.plans.dispatch_call.Goals as goal

pub dispatch_scope-requires-clause-coherent : goal.dispatch_scope-requires-clause-coherent
dispatch_scope-requires-clause-coherent c =
    let types = types_view c.args.all.now in
    both_of types c.in-Objects.kind _ c.args.states.now (sym c.in-Some.ensures.found)
    (subst (λ (t : TheTarget). AreCoherentFor types (target_of t) c.args.states.now) c.in-Objects.is c.requires)
