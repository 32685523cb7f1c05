use Rattle.world.proofs.Noted.{all_added}
use Rattle.world.proofs.extents.added_since.Goals as goal

pub returns : goal.returns
returns c = λ s t records since. all_added s t c.args.noted.now _ _ c.iter-id-items.ensures.ordered since c.in-None.ensures.steps.0 (c.loop-id.invariant t records)
