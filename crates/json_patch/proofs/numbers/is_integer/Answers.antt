use Rattle.std.proofs.Common.{pos, sym, ap, ◌∙◌}
use Rattle.std.specs.Float.{fin}
use Rattle.std.specs.Float.Ieee
use Rattle.json_patch.proofs.Exactly.{below_zero}
use Rattle.json_patch.proofs.numbers.is_integer.Goals as goal

pub returns-then-is_negative : goal.returns-then-is_negative
returns-then-is_negative c =
    c.is_unsigned.ensures ∙ below_zero c.args.integer.1 c.args.float ∙ ap (λ s. Ieee.eq (fin s c.args.integer.1 (pos 0)) c.args.float) (sym c.if-is_negative.true)

pub returns-else-is_negative : goal.returns-else-is_negative
returns-else-is_negative c = c.is_unsigned-else-is_negative.ensures ∙ ap (λ s. Ieee.eq (fin s c.args.integer.1 (pos 0)) c.args.float) (sym c.if-is_negative.false)
