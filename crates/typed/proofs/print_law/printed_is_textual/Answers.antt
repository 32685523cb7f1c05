use Rattle.typed.proofs.Spelling.{printed_textual}
use Rattle.typed.proofs.print_law.printed_is_textual.Goals as goal

pub returns : goal.returns
returns c = printed_textual
