use Rattle.std.proofs.Common.{[], drop}
use Rattle.std.proofs.lemmas.List.{drop_all}
use Rattle.serde_json.specs.View.{items_view, view}
use Rattle.pathmap.specs.Maps.{content}
use Rattle.schema.specs.Shape.{shape}
use Rattle.typed.specs.Reading.{items_at, plain_of, set_item}
use Rattle.typed.proofs.Listed.{item_added, items_begin, items_end}
use Rattle.typed.proofs.read.read_set.Goals as goal

pub loop-place-init : goal.loop-place-init
loop-place-init c = items_begin (set_item (plain_of (shape c.args.inner.now))) (content c.empty-map.result) c.args.items.now c.empty-map.ensures

pub loop-place-preserved : goal.loop-place-preserved
loop-place-preserved c =
    let inner = set_item (plain_of (shape c.args.inner.now)) in
    item_added inner (items_at inner 0 [] (items_view c.args.items.now)) (content c.loop-place.map) c.args.items.now c.loop-place.place c.index-items-place.result c.loop-place-test.true c.index-items-place.is c.loop-place.invariant (content c.add_item.new.map)
    (c.in_ok-add_item.ensures (inner (view c.index-items-place.result)) c.loop-place.invariant.0 c.loop-place.invariant.2 c.read_scalar_item-read.ensures)

pub returns : goal.returns
returns c =
    let inner = set_item (plain_of (shape c.args.inner.now)) in
    items_end inner (items_at inner 0 [] (items_view c.args.items.now)) (content c.loop-place.map) c.loop-place.place (drop c.loop-place.place c.args.items.now) (drop_all c.loop-place.place c.args.items.now c.loop-place-test.false) c.loop-place.invariant
