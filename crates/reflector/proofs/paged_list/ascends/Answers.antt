use Rattle.reflector.proofs.Ascending.{next_pair, all_pairs}
use Rattle.reflector.proofs.paged_list.ascends.Goals as goal

pub loop-i-preserved : goal.loop-i-preserved
loop-i-preserved c =
    next_pair _ c.args.objects.now c.loop-i.i c.index-objects-i.result c.index-objects-i-in-loop-i.result c.is_before.result c.loop-i-test.true c.index-objects-i.is c.index-objects-i-in-loop-i.is
    c.is_before.ensures c.if-not-is_before.false c.loop-i.invariant

pub returns : goal.returns
returns c = all_pairs _ c.args.objects.now c.loop-i.i c.loop-i-test.false c.loop-i.invariant
