use Rattle.std.proofs.Common.{refl}
use Rattle.std.proofs.KnownBytes.{Appends-kept}
use Rattle.wire.proofs.Pieces.{prefix_grows}
use Rattle.wire.proofs.writing.write_prefix.Goals.{in-Ok, in-Err}
use Rattle.wire.proofs.writing.write_prefix.Goals as goal

pub writes-preserved : goal.writes-preserved
writes-preserved g c =
    let (bound, prefix) = c.writes.invariant in
    elim c.match-write.branch [
      | in-Ok w ↦ rw (w.count-is) (prefix_grows _ _ _ _ _ c.writes.count _ bound refl w.in-Ok.ensures.bound prefix w.in-Ok.ensures.bytes)
      | in-Err w ↦ rw (w.count-is) (bound, Appends-kept _ _ _ _ prefix w.in-Err.ensures.bytes)
    ]
