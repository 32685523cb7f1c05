use Rattle.std.proofs.Common.{◌≤◌, ◌+◌, arith, length, refl}
use Rattle.wireclient.proofs.EachReads.{items_there, one_more}
use Rattle.wireclient.proofs.laws.each_reads.Goals as goal

pub loop-end-init : goal.loop-end-init
loop-end-init c = λ n low. absurd (omega (arith, low))

pub loop-end-preserved : goal.loop-end-preserved
loop-end-preserved c = λ n low. one_more c.args.bytes.now _ c.loop-end.end (c.loop-end.end + 1) _ refl refl c.check_head.ensures c.loop-end.invariant n low

pub returns : goal.returns
returns c =
    let all : length c.args.bytes.now ≤ c.loop-end.end = c.loop-end-test.false in
    items_there c.args.bytes.now (λ n low. c.loop-end.invariant n (omega (arith, all, low)))
