use Rattle.settling_laws.proofs.Applied as applied
use Rattle.settling_laws.proofs.Saying as saying
use Rattle.settling_laws.proofs.applies_stay.Goals as goal

pub returns : goal.returns
returns c = record { stays = applied.applies_stay; again = saying.applied_stay }
