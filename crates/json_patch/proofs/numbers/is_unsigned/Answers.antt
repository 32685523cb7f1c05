use Rattle.std.proofs.Common.{eqb, ap, ◌∙◌, arith}
use Rattle.std.specs.Float.Ieee
use Rattle.json_patch.proofs.Exactly.{far, large, small, top_is}
use Rattle.json_patch.proofs.numbers.is_unsigned.Goals as goal

pub returns-then-size-le-EXACT : goal.returns-then-size-le-EXACT
returns-then-size-le-EXACT c = ap (λ y. Ieee.eq y c.args.float) c.nearest_u64_to_f64.ensures ∙ small c.args.size c.args.float (omega arith)

pub returns-then-float : goal.returns-then-float
returns-then-float c = ap (λ n. eqb n c.args.size) c.saturating_f64_to_u64.ensures ∙ large c.args.size c.args.float (omega arith) c.well_formed.0.1 (rw top_is at c.if-float.true)

pub returns-else-float : goal.returns-else-float
returns-else-float c = far c.args.size c.args.float (omega (arith, c.ranges.size.fits)) (rw top_is at c.if-float.false)
