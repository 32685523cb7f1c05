use Rattle.wire_laws.proofs.Watching.{pumps_write, ticks_write}
use Rattle.wire_laws.proofs.watches.turns_are_written.Goals as goal

pub returns : goal.returns
returns c = record { pumps = pumps_write; ticks = ticks_write }
