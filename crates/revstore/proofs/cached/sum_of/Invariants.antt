use Rattle.std.proofs.Common.{◌≡◌, take}
use Rattle.revstore.specs.CachedObject.{sum_of}
use Rattle.revstore.proofs.cached.sum_of.Given as goal

-- the sum of the bytes so far
abbrev pub invariant-loop-byte : goal.invariant-loop-byte
invariant-loop-byte l = l.sum ≡ sum_of l.start (take l.byte-index l.byte-items)
