use Rattle.settling_laws.proofs.Reconciling as reconciling
use Rattle.settling_laws.proofs.settles.Goals as goal

pub returns : goal.returns
returns c = reconciling.settles c.applies_ask.ensures c.reconciles_apply.ensures c.both_ends.ensures.lasts c.both_ends.ensures.headline
