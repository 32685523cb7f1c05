use Rattle.std.proofs.Common.{sym, ◌∙◌}
use Rattle.wire.proofs.Lengths.{none_empty, some_digits}
use Rattle.wire.proofs.length.is_length.Goals as goal

pub returns-then-is_empty : goal.returns-then-is_empty
returns-then-is_empty c = none_empty c.args.value.now (sym c.is_empty.ensures ∙ c.if-is_empty.true)

pub returns : goal.returns
returns c = c.are_digits.ensures ∙ some_digits c.args.value.now (sym c.is_empty.ensures ∙ c.if-is_empty.false)
