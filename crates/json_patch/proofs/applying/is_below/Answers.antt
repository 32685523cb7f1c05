use Rattle.std.proofs.Common.{le-ltb, ◌∙◌}
use Rattle.json_patch.proofs.Below.{longer, not_longer}
use Rattle.json_patch.proofs.applying.is_below.Goals as goal

pub returns-then-upper-lower : goal.returns-then-upper-lower
returns-then-upper-lower c = c.starts_with.ensures.value ∙ longer c.args.upper.now c.args.lower.now c.if-upper-lower.true

pub returns-else-upper-lower : goal.returns-else-upper-lower
returns-else-upper-lower c = not_longer c.args.upper.now c.args.lower.now (le-ltb _ _ c.if-upper-lower.false)
