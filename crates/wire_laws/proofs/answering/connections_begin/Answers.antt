use Rattle.wire_laws.proofs.BegunAnswers.{opens_so}
use Rattle.wire_laws.proofs.answering.connections_begin.Goals as goal

pub returns : goal.returns
returns c = opens_so
