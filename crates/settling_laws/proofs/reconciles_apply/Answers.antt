use Rattle.settling_laws.proofs.Applied as applied
use Rattle.settling_laws.proofs.reconciles_apply.Goals as goal

pub returns : goal.returns
returns c = applied.reconciles_apply
