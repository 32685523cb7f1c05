use Rattle.std.proofs.Common.{arith, sym}
use Rattle.std.proofs.lemmas.List.{take_all, length-take}
use Rattle.wire.specs.Heads.{max_head}
use Rattle.requests.proofs.head_end.bytes_before.Goals as goal

pub returns-else-bytes-gt-MAX_HEAD : goal.returns-else-bytes-gt-MAX_HEAD
returns-else-bytes-gt-MAX_HEAD c = sym (take_all max_head c.args.bytes.now c.if-bytes-gt-MAX_HEAD.false)

pub slice_bounds-result-end : goal.slice_bounds-result-end
slice_bounds-result-end c =
    let taken = length-take max_head c.args.bytes.now in
    omega (arith, taken, c.if-bytes-gt-MAX_HEAD.true)
