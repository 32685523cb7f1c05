use Rattle.std.proofs.Common.{rules}
use Rattle.names.proofs.Decimals.{none_read}
use Rattle.names.proofs.decimal.decimal_up_to.Goals as goal

pub returns-in_default-2 : goal.returns-in_default-2
returns-in_default-2 c = none_read c.args.max c.args.text.now c.parse.result c.in_default.field-0 c.ranges.max.fits (search rules) c.parse.ensures.value.0 c.in_default.is
