use Rattle.std.proofs.Common.{◌+◌, ◌<◌, ap, drop, length, sym, subst, arith}
use Rattle.std.proofs.lemmas.List.{drop_all}
use Rattle.json.specs.Tree.{items_tokens, json_tokens, members_tokens}
use Rattle.json.proofs.Trees.{item_smaller, member_smaller}
use Rattle.json.specs.Value.{items_view as items_in, members_view as members_in, value_view}
use Rattle.serde_json.specs.View.{members_view, view}
use Rattle.json_texts.specs.InOrder.{items_data, members_data}
use Rattle.json_texts.proofs.Copies.{copies_end, copies_more, puts_begin, puts_end, puts_more}
use Rattle.json_texts.proofs.Parts.{Entry, at_place, item_ordered, member_ordered, ordered_parts}
use Rattle.json_texts.proofs.copying.+copying.Goals as goal

pub to_items-to_value-requires : goal.to_items-to_value-requires
to_items-to_value-requires t c =
    let xs = c.args.items.now in
    let i = c.loop-item.item-index in
    let x = c.item-item.result in
    let smaller : length (json_tokens (value_view x)) < length (items_tokens (items_in xs)) =
    subst (λ y. length (json_tokens (value_view y)) < length (items_tokens (items_in xs))) (sym c.item-item.is) (item_smaller xs i x c.loop-item-test.true) in
    let top = c.decreases in
    (omega (arith, smaller, top), item_ordered xs i x c.loop-item-test.true c.item-item.is c.requires)

pub to_items-loop-item-preserved : goal.to_items-loop-item-preserved
to_items-loop-item-preserved t c =
    let xs = c.args.items.now in
    let i = c.loop-item.item-index in
    let x = c.item-item.result in
    copies_more c.loop-item.copies.items c.push.new.self.items c.in_ok-to_value.field-0 (drop i xs) x (drop (i + 1) xs) (items_data (items_in xs)) c.in_ok-push.ensures.items c.in_ok-to_value.ensures (at_place xs i x c.loop-item-test.true c.item-item.is) c.loop-item.invariant

pub to_items-returns : goal.to_items-returns
to_items-returns t c =
    let xs = c.args.items.now in
    copies_end c.loop-item.copies.items (drop c.loop-item.item-index xs) (items_data (items_in xs)) (drop_all c.loop-item.item-index xs c.loop-item-test.false) c.loop-item.invariant

pub to_members-to_value-requires : goal.to_members-to_value-requires
to_members-to_value-requires t c =
    let xs = c.args.members.now in
    let i = c.loop-name.name-index in
    let x = c.loop-name-item.result in
    let smaller : length (json_tokens (value_view x.1)) < length (members_tokens (members_in xs)) =
    subst (λ (y : Entry). length (json_tokens (value_view y.1)) < length (members_tokens (members_in xs))) (sym c.loop-name-item.is) (member_smaller xs i x c.loop-name-test.true) in
    let top = c.decreases in
    (omega (arith, smaller, top), member_ordered xs i x c.loop-name-test.true c.loop-name-item.is (ordered_parts (members_in xs) c.requires).1)

pub to_members-loop-name-init : goal.to_members-loop-name-init
to_members-loop-name-init t c = puts_begin (members_view c.new-copies.result.entries) c.args.members.now (ap members_view c.new-copies.ensures.empty) c.requires

pub to_members-loop-name-preserved : goal.to_members-loop-name-preserved
to_members-loop-name-preserved t c =
    let xs = c.args.members.now in
    let i = c.loop-name.name-index in
    let x = c.loop-name-item.result in
    puts_more (members_view c.loop-name.copies.entries) (members_view c.put.new.map.entries) (view c.in_ok-to_value.field-0) (drop i xs) x (drop (i + 1) xs) (members_data (members_in xs)) c.in_ok-put.ensures.ok c.in_ok-to_value.ensures (at_place xs i x c.loop-name-test.true c.loop-name-item.is) c.loop-name.invariant

pub to_members-returns : goal.to_members-returns
to_members-returns t c =
    let xs = c.args.members.now in
    puts_end (members_view c.loop-name.copies.entries) (drop c.loop-name.name-index xs) (members_data (members_in xs)) (drop_all c.loop-name.name-index xs c.loop-name-test.false) c.loop-name.invariant
