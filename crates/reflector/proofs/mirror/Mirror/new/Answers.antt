use Rattle.std.proofs.Common.{map, ap}
use Rattle.indexer.specs.Indexer.{indexed_objects_of, indexes_of}
use Rattle.reflector.specs.Views.{notice_seen}
use Rattle.reflector.specs.MirrorRepresentsViews.{keys_in}
use Rattle.reflector.proofs.Informing.{nothing_kept}
use Rattle.reflector.proofs.mirror.Mirror.new.Goals as goal

pub returns-clause-fresh : goal.returns-clause-fresh
returns-clause-fresh g c = nothing_kept (keys_in g.I.IndexBy.keys (indexes_of c.clear.new.self)) (indexed_objects_of c.clear.new.self) _ c.clear.ensures.held (ap (map notice_seen) c.new.ensures.items)
