use Rattle.fieldset.proofs.Written.{written}
use Rattle.fieldset.proofs.both_ways.written_is_read.Goals as goal

pub returns : goal.returns
returns c = written
