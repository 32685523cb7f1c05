use Rattle.std.proofs.Common.{◌+◌, drop}
use Rattle.std.proofs.lemmas.List.{drop_all}
use Rattle.pathmap.specs.Maps.{content}
use Rattle.typed.specs.Printing.{scalar_in}
use Rattle.typed.proofs.Prints.{at_place, items_first, items_more, items_last}
use Rattle.typed.proofs.print.print_set.Goals as goal

pub loop-element-init : goal.loop-element-init
loop-element-init c = items_first scalar_in (content c.args.map.now) c.new-items.result.items c.children-children.result.now c.new-items.ensures.items c.children-children.ensures

pub loop-element-preserved : goal.loop-element-preserved
loop-element-preserved c =
    let all = c.children-children.result.now in
    let i = c.loop-element.element-index in
    let e = c.loop-element-item.result in
    items_more scalar_in (content c.args.map.now) (drop i all) (drop (i + 1) all) e c.loop-element.items.items (at_place all i e c.loop-element-test.true c.loop-element-item.is) c.loop-element.invariant c.in_ok-item.item c.push_item.new.items.items
    c.in_ok-item.ensures c.in_ok-push_item.ensures

pub returns : goal.returns
returns c =
    let all = c.children-children.result.now in
    let i = c.loop-element.element-index in
    items_last scalar_in (content c.args.map.now) c.loop-element.items.items (drop i all) (drop_all i all c.loop-element-test.false) c.loop-element.invariant
