use Rattle.std.proofs.Common.{sym, arith}
use Rattle.std.proofs.lemmas.Str.Pattern.{strip_prefix_char}
use Rattle.json_patch.proofs.Tokens.{no_slash}
use Rattle.json_patch.proofs.pointer.Pointer.read.Goals as goal

pub returns-in_default : goal.returns-in_default
returns-in_default c =
    sym (no_slash c.args.text.now (grind arith) (rw c.in_default.is at (strip_prefix_char 47 c.args.text.now c.strip_prefix.result c.strip_prefix.ensures.cases (omega arith))))
