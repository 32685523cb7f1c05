use Rattle.std.proofs.Common.{ℕ, [], ap, sym, ◌∙◌}
use Rattle.std.specs.Prelude.{◌==◌}
use Rattle.polling.proofs.Leading.{hands_end, receives_none, receives_one}
use Rattle.polling.proofs.reading.hand_piece.Goals as goal

pub returns-in_err-piece : goal.returns-in_err-piece
returns-in_err-piece g c = ([], c.in_err-piece.ensures, receives_none _ _)

pub returns-then-is_empty : goal.returns-then-is_empty
returns-then-is_empty g c = hands_end _ _ _ _ c.in_ok-piece.piece.items c.in_ok-piece.ensures (ap (λ (n : ℕ). n == 0) (sym c.in_ok-piece.piece.ok.0) ∙ sym c.if-is_empty.ensures)

pub returns : goal.returns
returns g c = (c.in_ok-piece.piece.items, c.in_ok-piece.ensures, receives_one _ _ _ _ c.hand.ensures.hands)
