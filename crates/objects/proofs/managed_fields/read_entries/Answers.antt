use Rattle.json.specs.Value.{items_view}
use Rattle.json_texts.specs.InOrder.{items_data}
use Rattle.json_texts.proofs.Parts.{item_ordered}
use Rattle.schema.specs.Shape.{shape}
use Rattle.objects.specs.Parts.{entries_in}
use Rattle.objects.proofs.Listed.{all_read, one_read}
use Rattle.objects.proofs.managed_fields.read_entries.Goals as goal

pub read_entry-requires : goal.read_entry-requires
read_entry-requires c = item_ordered c.args.values.now c.loop-value.value-index c.value-item.result c.loop-value-test.true c.value-item.is c.requires

pub loop-value-preserved : goal.loop-value-preserved
loop-value-preserved c =
    let s = shape c.args.schema.now in
    let all = c.args.values.now in
    one_read s all c.loop-value.value-index c.value-item.result c.loop-value-test.true c.value-item.is (entries_in s (items_data (items_view all))) c.loop-value.entries.items c.loop-value.invariant
    c.in_ok-entry.entry c.push.new.self.items c.in_ok-entry.ensures c.in_ok-push.ensures.items

pub returns : goal.returns
returns c =
    let s = shape c.args.schema.now in
    let all = c.args.values.now in
    all_read s all c.loop-value.value-index (entries_in s (items_data (items_view all))) c.loop-value.entries.items c.loop-value-test.false c.loop-value.invariant
