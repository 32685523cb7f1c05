use Rattle.fieldset.proofs.Back.{back_again}
use Rattle.fieldset.proofs.both_ways.readings_are_written.Goals as goal

pub returns : goal.returns
returns c = back_again
