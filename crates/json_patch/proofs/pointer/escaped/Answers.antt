use Rattle.std.proofs.Common.{arith}
use Rattle.std.proofs.lemmas.Str.Pattern.{strip_prefix_char}
use Rattle.json_patch.proofs.Tokens.{no_escape}
use Rattle.json_patch.proofs.pointer.escaped.Goals as goal

pub returns : goal.returns
returns c =
    no_escape c.args.after.now (rw c.in_default.is at (strip_prefix_char 48 c.args.after.now c.strip_prefix.result c.strip_prefix.ensures.cases (omega arith)))
    (rw c.in_default-strip_prefix.is at (strip_prefix_char 49 c.args.after.now c.strip_prefix-2.result c.strip_prefix-2.ensures.cases (omega arith)))
