use Rattle.std.proofs.Common.{Some, ap, map, ◌∙◌}
use Rattle.std.specs.Prelude.{nat_lt}
use Rattle.indexer.specs.declared.object.Object.{Object}
use Rattle.indexer.specs.Indexer.{indexed_objects_of, indexes_of}
use Rattle.indexer.specs.Objects.{shared_of}
use Rattle.reflector.specs.Views.{notice_seen}
use Rattle.reflector.proofs.Taken.{after_put, full_put}
use Rattle.reflector.proofs.mirror.Mirror.take_put.Goals as goal

pub returns-clause-taken : goal.returns-clause-taken
returns-clause-taken g c =
    let old = c.args.self.now in
    let is = c.in_ok-put.ensures in
    after_put g.I.IndexBy.keys (indexes_of old.indexer) (indexes_of c.put.new.self.indexer) (indexed_objects_of old.indexer) old.revision (map notice_seen old.notices.items) c.args.now
    (indexed_objects_of c.put.new.self.indexer) _ (map notice_seen c.put.new.self.notices.items) (shared_of c.args.object) c.is_above.result c.in_ok-has_room_for.field-0
    (c.is_above.ensures ∙ ap (λ (o : Object). nat_lt c.args.now o.revision) c.deref.ensures) c.if-not-is_above.false c.in_ok-has_room_for.ensures c.if-not-branch.false is.setup.indexes is.held
    (ap (λ (o : Object). Some o.revision) c.deref.ensures) is.emitted

pub returns-then-not-branch-clause-taken : goal.returns-then-not-branch-clause-taken
returns-then-not-branch-clause-taken g c =
    let old = c.args.self.now in
    full_put g.I.IndexBy.keys (indexes_of old.indexer) (indexes_of old.indexer) (indexed_objects_of old.indexer) old.revision (map notice_seen old.notices.items) c.args.now
    (shared_of c.args.object) c.is_above.result c.in_ok-has_room_for.field-0 (c.is_above.ensures ∙ ap (λ (o : Object). nat_lt c.args.now o.revision) c.deref.ensures) c.if-not-is_above.false
    c.in_ok-has_room_for.ensures c.if-not-branch.true
