use Rattle.wire_laws.proofs.BegunAnswers.{refused_stays, unreceived}
use Rattle.wire_laws.proofs.answering.refused_stay.Goals as goal

pub returns : goal.returns
returns c = record { refused = refused_stays; unreceived = unreceived }
