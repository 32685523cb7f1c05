use Rattle.std.proofs.Common.{subst}
use Rattle.std.specs.Prelude.{IfSome}
use Rattle.api_request.specs.declared.calls.Target.{Target as TheTarget}
use Rattle.api_request.specs.Views.{target_of}
use Rattle.verbs.specs.CachedStateViews.{IsCoherentFor}
use Rattle.verbs.proofs.catalog.Catalog.keep.Goals as goal

pub keep_in-requires : goal.keep_in-requires
keep_in-requires c = subst (λ (t : TheTarget). IfSome c.args.cached (IsCoherentFor c.args.self.now (target_of t))) c.in-Objects.is c.requires
