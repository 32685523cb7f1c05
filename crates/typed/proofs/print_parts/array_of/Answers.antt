use Rattle.std.proofs.Common.{sym}
use Rattle.std.specs.Prelude.{vec_len}
use Rattle.typed.proofs.Prints.{array_some}
use Rattle.typed.proofs.print_parts.array_of.Goals as goal

pub returns-else-is_empty : goal.returns-else-is_empty
returns-else-is_empty c = array_some (vec_len c.args.items) c.args.items.items c.from.result c.args.items.ok.0 (sym c.if-is_empty.ensures) c.from.ensures
