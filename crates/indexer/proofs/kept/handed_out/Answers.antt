use Rattle.std.proofs.Common.{arith, ◌+◌, ◌≤◌, ◌++◌, ap, ap₂, length, map, subst, sym, vec_capacity, vec_len}
use Rattle.indexer.proofs.IndexedObjects.{without_keys}
use Rattle.indexer.proofs.HandedOut.{under_key, one_out, all_out}
use Rattle.indexer.proofs.kept.handed_out.Goals as goal

pub loop-key-init : goal.loop-key-init
loop-key-init c =
    let gives = c.into_iter-key-iterator.ensures.into_iter_gives in (
      ap₂ (λ xs ys. map under_key xs ++ map without_keys ys) c.requires.none gives.0,
      subst (λ es. vec_len c.args.room + length es ≤ vec_capacity c.args.room) (sym gives.0) c.requires.room,
    )

pub push_reserved-requires : goal.push_reserved-requires
push_reserved-requires c = let long = ap length c.in-Some.ensures.steps in omega (arith, long, c.loop-key.invariant.1)

pub loop-key-preserved : goal.loop-key-preserved
loop-key-preserved c =
    let steps = c.in-Some.ensures.steps in
    let long = ap length steps in (
      one_out c.loop-key.all.items c.push_reserved.new.self.items c.in-Some.key c.in-Some.entry c.loop-key.key-iterator c.next.new.self (map without_keys c.args.objects.entries) steps c.push_reserved.ensures.items c.loop-key.invariant.0,
      omega (arith, long, c.push_reserved.ensures.len, c.push_reserved.ensures.capacity, c.loop-key.invariant.1),
    )

pub returns : goal.returns
returns c = all_out c.args.objects c.loop-key.all.items c.loop-key.key-iterator c.into_iter-key-iterator.ensures.into_iter_gives.5 c.in-None.ensures.steps.0 c.loop-key.invariant.0
