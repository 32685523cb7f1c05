use Rattle.pathmap.proofs.Cutting.{full_of}
use Rattle.pathmap.proofs.without.is_full.Goals as goal

pub returns : goal.returns
returns c = full_of c.args.child.now.1 c.is_bare.result c.is_bare.ensures.0 c.is_bare.ensures.1
