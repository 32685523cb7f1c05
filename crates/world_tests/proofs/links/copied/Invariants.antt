use Rattle.std.proofs.Common.{◌≡◌, take}
use Rattle.world_tests.proofs.links.copied.Given as goal

abbrev pub invariant-loop-byte : goal.invariant-loop-byte
invariant-loop-byte l = l.copy.items ≡ take l.byte-index l.piece
