use Rattle.std.proofs.Common.{List, ◌∙◌, subst, sym}
use Rattle.std.specs.Prelude.{IfSome}
use Rattle.api_types.specs.TypesFile.{ServedShape}
use Rattle.api_request.specs.Views.{target_of}
use Rattle.verbs.specs.CachedStateViews.{AreCoherentFor, IsCoherentFor}
use Rattle.verbs.proofs.plans.planned.Goals as goal

pub dispatch_call-requires : goal.dispatch_call-requires
dispatch_call-requires c =
    (subst (λ (types : List ServedShape). IfSome c.take.result (IsCoherentFor types (target_of c.args.call.now.target))) (sym (c.types.ensures ∙ c.take.ensures.same)) c.take.ensures.coherent, tt)

pub keep-requires : goal.keep-requires
keep-requires c =
    c.after.ensures c.take.new.self (target_of c.args.call.now.target)
    (subst (λ (types : List ServedShape). AreCoherentFor types (target_of c.args.call.now.target) c.dispatch_call.new.states) c.types.ensures c.in_ok-dispatched.ensures.coherent)
