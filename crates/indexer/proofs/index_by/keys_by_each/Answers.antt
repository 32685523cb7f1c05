use Rattle.std.proofs.Common.{◌∙◌, ap, map, string_bytes}
use Rattle.indexer.specs.declared.object.Object.{Object}
use Rattle.indexer.specs.Objects.{stored_of}
use Rattle.indexer.proofs.Pushes.{one_more}
use Rattle.indexer.proofs.index_by.keys_by_each.Goals as goal

pub loop-index-preserved : goal.loop-index-preserved
loop-index-preserved g c =
    one_more (λ w. map string_bytes w.items) _ c.loop-index.all.items c.push.new.self.items c.in_ok-keys_of.field-0 c.args.indexes.now c.loop-index.index-index c.index-item.result
    c.loop-index-test.true c.index-item.is c.in_ok-push.ensures.items (c.in_ok-keys_of.ensures ∙ ap (λ (o : Object). g.I.IndexBy.keys c.index-item.result (stored_of o)) c.deref.ensures) c.loop-index.invariant
