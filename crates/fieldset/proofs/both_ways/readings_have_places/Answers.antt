use Rattle.fieldset.proofs.WellTyped.{well_typed}
use Rattle.fieldset.proofs.both_ways.readings_have_places.Goals as goal

pub returns : goal.returns
returns c = well_typed
