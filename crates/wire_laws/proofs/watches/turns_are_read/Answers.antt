use Rattle.wire_laws.proofs.PrintedWatches.{turns_read}
use Rattle.wire_laws.proofs.watches.turns_are_read.Goals as goal

pub returns : goal.returns
returns c = turns_read c.watches_are_read.ensures.lines
