use Rattle.wire_laws.proofs.Watching.{begins}
use Rattle.wire_laws.proofs.watches.watches_begin.Goals as goal

pub returns : goal.returns
returns c = begins
