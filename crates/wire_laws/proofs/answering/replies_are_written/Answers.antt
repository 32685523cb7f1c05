use Rattle.wire_laws.proofs.BegunAnswers.{answers, refuses, waits}
use Rattle.wire_laws.proofs.answering.replies_are_written.Goals as goal

pub returns : goal.returns
returns c = record { answers = answers; refusals = refuses; waits = waits }
