use Rattle.std.proofs.Common.{map}
use Rattle.indexer.specs.Indexer.{indexed_objects_of, indexes_of}
use Rattle.reflector.specs.PagedListViews.{paged_list_of}
use Rattle.reflector.specs.Views.{notice_seen}
use Rattle.reflector.proofs.Relisted.{list_kept}
use Rattle.reflector.proofs.mirror.Mirror.keep_list.Goals as goal

pub returns-clause-taken : goal.returns-clause-taken
returns-clause-taken g c = λ cl m.
    let old = c.args.self.now in
    let is = c.in_ok-replace.ensures in
    list_kept g.I.IndexBy.keys (indexes_of old.indexer) (indexes_of c.replace.new.self.indexer) (indexed_objects_of old.indexer) (indexed_objects_of c.replace.new.self.indexer) old.revision (map notice_seen old.notices.items)
    (map notice_seen c.replace.new.self.notices.items) c.args.revision (paged_list_of c.args.all) is.setup.indexes c.args.all.listed is.held is.emitted cl m
