use Rattle.typed.proofs.CarriedOnce.{carried_once}
use Rattle.typed.proofs.carried_law.carried_is_one.Goals as goal

pub returns : goal.returns
returns c = carried_once
