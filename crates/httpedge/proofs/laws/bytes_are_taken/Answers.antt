use Rattle.httpedge.proofs.Taking.{taken_on}
use Rattle.httpedge.proofs.laws.bytes_are_taken.Goals as goal

pub returns : goal.returns
returns c = taken_on
