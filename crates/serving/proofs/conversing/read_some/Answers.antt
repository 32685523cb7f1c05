use Rattle.std.proofs.Common.{◌∙◌, ℕ, ap, sym}
use Rattle.std.specs.Prelude.{◌==◌}
use Rattle.wire.proofs.Pieces.{reads_none}
use Rattle.serving.proofs.Receiving.{none_read}
use Rattle.serving.proofs.conversing.read_some.Goals as goal

pub returns-in_err-piece : goal.returns-in_err-piece
returns-in_err-piece g c = none_read _ _ c.from_residual.result _ _ c.from_residual.ensures.1 c.in_err-piece.ensures

pub returns-then-is_empty : goal.returns-then-is_empty
returns-then-is_empty g c = reads_none _ _ _ c.in_ok-piece.ensures (ap (λ (n : ℕ). n == 0) (sym c.in_ok-piece.piece.ok.0) ∙ sym c.if-is_empty.ensures)
