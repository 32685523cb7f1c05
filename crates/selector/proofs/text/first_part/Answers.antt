use Rattle.std.proofs.Common.{arith}
use Rattle.std.proofs.lemmas.Str.{IsCharBoundary-after_ascii}
use Rattle.selector.proofs.text.first_part.Goals as goal

pub range_from-requires : goal.range_from-requires
range_from-requires c = λ _.
    let comma = rw c.as_bytes-byte-items.ensures.value at c.in-44.is in
    let short = rw c.as_bytes-byte-items.ensures.value at c.loop-i-test.true in
    IsCharBoundary-after_ascii c.args.text.now c.loop-i.i c.utf8.text short (omega (arith, comma))
