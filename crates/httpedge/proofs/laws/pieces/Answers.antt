use Rattle.httpedge.proofs.Outcomes.{two_pieces}
use Rattle.httpedge.proofs.laws.pieces.Goals as goal

pub returns : goal.returns
returns c = two_pieces
