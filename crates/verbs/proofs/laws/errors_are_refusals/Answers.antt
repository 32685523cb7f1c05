use Rattle.std.proofs.Common.{refl}
use Rattle.verbs.proofs.laws.errors_are_refusals.Goals as goal

pub returns : goal.returns
returns c = λ revision compacted. refl
