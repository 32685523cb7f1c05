use Rattle.wire.proofs.Pieces.{none_left}
use Rattle.wire.proofs.reading.read_piece.Goals as goal

pub returns-in_err-count : goal.returns-in_err-count
returns-in_err-count g c = none_left _ _ c.from_residual-in_err-count.result _ _ c.from_residual-in_err-count.ensures.1 c.in_err-count.ensures.bytes
