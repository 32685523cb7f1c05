use Rattle.std.proofs.Common.{◌∙◌}
use Rattle.wire.proofs.Lengths.{above_limit}
use Rattle.wire.proofs.length.decimal_value.Goals as goal

pub returns-then-number-max : goal.returns-then-number-max
returns-then-number-max c =
    above_limit c.args.max c.loop-digit.number c.loop-digit.digit-index c.from.result c.args.digits.now c.loop-digit-test.true
    (c.from.ensures ∙ c.saturating_sub.ensures) c.loop-digit.invariant.stated c.if-number-max.true
