use Rattle.std.proofs.Common.{◌≡◌, drop, false}
use Rattle.selector.specs.Grammar.{are_paired}
use Rattle.selector.proofs.text.has_paired_brackets.Given as goal

abbrev pub invariant-loop-byte : goal.invariant-loop-byte
invariant-loop-byte l = are_paired l.is_inside (drop l.byte-index l.byte-items) ≡ are_paired false l.byte-items
