use Rattle.std.proofs.Common.{map, refl}
use Rattle.indexer.specs.Indexer.{indexed_objects_of, indexes_of}
use Rattle.indexer.specs.Objects.{stored_of}
use Rattle.reflector.specs.Views.{notice_seen}
use Rattle.reflector.proofs.Taken.{after_deleted}
use Rattle.reflector.proofs.mirror.Mirror.take_deleted.Goals as goal

pub returns-clause-taken : goal.returns-clause-taken
returns-clause-taken g c =
    let old = c.args.self.now in
    let is = c.in_ok-remove.ensures in
    after_deleted g.I.IndexBy.keys (indexes_of old.indexer) (indexes_of c.remove.new.self.indexer) (indexed_objects_of old.indexer) old.revision (map notice_seen old.notices.items) c.args.now
    (indexed_objects_of c.remove.new.self.indexer) _ (map notice_seen c.remove.new.self.notices.items) (stored_of c.args.object) c.is_above.result c.is_above.ensures c.if-not-is_above.false
    is.setup.indexes is.held refl is.emitted
