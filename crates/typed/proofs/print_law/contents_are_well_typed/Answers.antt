use Rattle.typed.proofs.Fitting.{contents_well_typed}
use Rattle.typed.proofs.print_law.contents_are_well_typed.Goals as goal

pub returns : goal.returns
returns c = contents_well_typed
