use Rattle.typed.proofs.Placing.{well_typed}
use Rattle.typed.proofs.print_law.readings_are_well_typed.Goals as goal

pub returns : goal.returns
returns c = well_typed
