use Rattle.std.proofs.Common.{◌≡◌, length, drop}
use Rattle.json.specs.Print.{escape, quoted}
use Rattle.json_patch.specs.CopiedSize.{left_of}
use Rattle.json_patch.proofs.copied_size.after_text.Given as goal

abbrev pub invariant-loop-byte : goal.invariant-loop-byte
invariant-loop-byte l = left_of l.left (length (escape (drop l.byte-index l.bytes))) ≡ left_of l.fn.room (length (quoted l.fn.text))
