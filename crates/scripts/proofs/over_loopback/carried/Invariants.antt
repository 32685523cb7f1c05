use Rattle.std.proofs.Common.{◌≡◌}
use Rattle.std.specs.Slice.Iter.{chunks_size}
use Rattle.scripts.proofs.over_loopback.carried.Given as goal

abbrev pub invariant-loop-bytes : goal.invariant-loop-bytes
invariant-loop-bytes g l = (goal.iterator-loop-bytes g).can_next l.bytes-iterator × (goal.iterator-loop-bytes g).is_finite l.bytes-iterator × (chunks_size l.bytes-iterator ≡ 4096)
