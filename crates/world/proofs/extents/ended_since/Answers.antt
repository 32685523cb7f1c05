use Rattle.world.proofs.Noted.{all_ended}
use Rattle.world.proofs.extents.ended_since.Goals as goal

pub returns : goal.returns
returns c = λ s t records since. all_ended s t c.args.noted.now _ _ c.iter-id-items.ensures.ordered since c.in-None.ensures.steps.0 (c.loop-id.invariant t records)
