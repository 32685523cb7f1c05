use Rattle.std.proofs.Common.{map, refl}
use Rattle.indexer.specs.Indexer.{indexed_objects_of, indexes_of}
use Rattle.reflector.specs.Views.{notice_seen}
use Rattle.reflector.proofs.Taken.{after_bookmark, low_bookmark}
use Rattle.reflector.proofs.mirror.Mirror.take_bookmark.Goals as goal

pub returns-clause-taken : goal.returns-clause-taken
returns-clause-taken g c =
    let old = c.args.self.now in
    after_bookmark g.I.IndexBy.keys (indexes_of old.indexer) (indexes_of old.indexer) (indexed_objects_of old.indexer) old.revision (map notice_seen old.notices.items) c.args.now
    _ c.args.revision c.is_above.result c.is_above.ensures c.if-is_above.false refl

pub returns-then-is_above-clause-taken : goal.returns-then-is_above-clause-taken
returns-then-is_above-clause-taken g c =
    let old = c.args.self.now in
    low_bookmark g.I.IndexBy.keys (indexes_of old.indexer) (indexes_of old.indexer) (indexed_objects_of old.indexer) old.revision (map notice_seen old.notices.items) c.args.now
    c.args.revision c.is_above.result c.is_above.ensures c.if-is_above.true
