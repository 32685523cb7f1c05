use Rattle.std.proofs.Common.{◌∙◌, string_bytes}
use Rattle.indexer.proofs.Pushes.{one_more}
use Rattle.indexer.proofs.index_by.names_of_each.Goals as goal

pub loop-index-preserved : goal.loop-index-preserved
loop-index-preserved g c =
    one_more string_bytes _ c.loop-index.names.items c.push.new.self.items c.in_ok-from_str.field-0 c.args.indexes.now c.loop-index.index-index c.index-item.result
    c.loop-index-test.true c.index-item.is c.in_ok-push.ensures.items (c.in_ok-from_str.ensures.ok ∙ c.name.ensures) c.loop-index.invariant
