use Rattle.std.proofs.Common.{map, ◌≡◌}
use Rattle.std.specs.Prelude.{IfOk}
use Rattle.decoder.specs.Views.{line_seen}
use Rattle.indexer.specs.Indexer.{indexed_objects_of, indexes_of}
use Rattle.reflector.specs.MirrorRepresentsViews.{keys_in, MirrorRepresents}
use Rattle.reflector.specs.Views.{notice_seen}
use Rattle.reflector.proofs.Taken.{nothing_kept, something_kept}
use Rattle.reflector.proofs.mirror.Mirror.take_line.Goals as goal

pub returns-in-Some-clause-taken : goal.returns-in-Some-clause-taken
returns-in-Some-clause-taken g c = λ cl m.
    let old = c.args.self.now in
    something_kept (keys_in g.I.IndexBy.keys (indexes_of old.indexer)) (indexed_objects_of old.indexer) old.revision (map notice_seen old.notices.items) c.in-Some.now (line_seen c.args.line) c.in-Some.is cl m
    (λ d t. IfOk c.take_line_at.result (λ broken. MirrorRepresents g.I.IndexBy.keys c.take_line_at.new.self d × (broken ≡ t)))
    (λ k is same. c.take_line_at.ensures.taken cl k m is same)

pub returns-in-None-clause-taken : goal.returns-in-None-clause-taken
returns-in-None-clause-taken g c = λ cl m.
    let old = c.args.self.now in
    nothing_kept (keys_in g.I.IndexBy.keys (indexes_of old.indexer)) (indexed_objects_of old.indexer) old.revision (map notice_seen old.notices.items) (line_seen c.args.line) c.in-None.is cl m
