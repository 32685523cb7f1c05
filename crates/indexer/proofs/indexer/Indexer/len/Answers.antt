use Rattle.std.proofs.Common.{◌∙◌}
use Rattle.indexer.proofs.IndexedObjects.{held_len}
use Rattle.indexer.proofs.indexer.Indexer.len.Goals as goal

pub returns : goal.returns
returns g c = c.len.ensures.len ∙ held_len c.args.self.now.objects c.len.ensures.ordered
