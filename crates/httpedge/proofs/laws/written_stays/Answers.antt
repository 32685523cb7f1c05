use Rattle.httpedge.proofs.Growing.{grows, parts}
use Rattle.httpedge.proofs.laws.written_stays.Goals as goal

pub returns : goal.returns
returns c = record { grows = grows; parts = parts }
