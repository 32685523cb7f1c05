use Rattle.wire_laws.proofs.Silence.{silent}
use Rattle.wire_laws.proofs.watches.ends_are_silent.Goals as goal

pub returns : goal.returns
returns c = silent
