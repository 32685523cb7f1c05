use Rattle.std.proofs.Common.{◌≡◌, length, IsUtf8, string_bytes}
use Rattle.json_patch.specs.Pointers.{token}
use Rattle.json_patch.proofs.Tokens.{and_then_token}
use Rattle.json_patch.proofs.pointer.read_token.Given as goal

abbrev pub invariant-escapes : goal.invariant-escapes
invariant-escapes l = (and_then_token (string_bytes l.token) (token l.rest) ≡ token l.fn.text) × IsUtf8 l.rest

abbrev pub decreases-escapes : goal.decreases-escapes
decreases-escapes l = length l.rest
