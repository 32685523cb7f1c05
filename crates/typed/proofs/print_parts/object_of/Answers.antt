use Rattle.std.proofs.Common.{◌∙◌}
use Rattle.typed.proofs.Prints.{object_some}
use Rattle.typed.proofs.print_parts.object_of.Goals as goal

pub returns-else-len-eq0 : goal.returns-else-len-eq0
returns-else-len-eq0 c = object_some c.args.members.entries c.from.result (λ e. c.if-len-eq0.false (c.len.ensures.len ∙ e)) c.from.ensures
