use Rattle.std.proofs.Common.{sym, subst}
use Rattle.std.specs.Prelude.{IfSome}
use Rattle.api_request.specs.declared.calls.Target.{Target as TheTarget}
use Rattle.api_request.specs.Views.{target_of}
use Rattle.verbs.specs.CachedStateViews.{IsCoherentFor}
use Rattle.verbs.proofs.catalog.Catalog.take.Goals as goal

pub returns-clause-coherent : goal.returns-clause-coherent
returns-clause-coherent c =
    subst (λ (t : TheTarget). IfSome c.take_from.result (IsCoherentFor c.args.self.now (target_of t))) (sym c.in-Objects.is) c.take_from.ensures.coherent
