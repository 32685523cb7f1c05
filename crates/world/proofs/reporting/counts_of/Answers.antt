use Rattle.std.proofs.Common.{◌∙◌}
use Rattle.std.proofs.lemmas.Result.{IfOk-weaker}
use Rattle.world.proofs.Reports.{copied}
use Rattle.world.proofs.reporting.counts_of.Goals as goal

pub returns : goal.returns
returns c = IfOk-weaker c.clone.result _ _ (λ m same. same ∙ c.counts.ensures) (copied c.clone.result c.counts.result.now _ c.clone.ensures.cases)
