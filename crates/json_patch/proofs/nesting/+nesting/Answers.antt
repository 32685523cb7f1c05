use Rattle.std.proofs.Common.{leb}
use Rattle.serde_json.specs.Data.{members_depth}
use Rattle.serde_json.specs.View.{members_view}
use Rattle.json_patch.proofs.Nested.{item_past, item_within, items_end, member_past, member_within}
use Rattle.json_patch.proofs.nesting.+nesting.Goals as goal

pub items_nest-returns-then-not-value_nests : goal.items_nest-returns-then-not-value_nests
items_nest-returns-then-not-value_nests t c =
    item_past c.args.items.now c.loop-item.item-index c.args.levels c.item-item.result c.loop-item-test.true c.item-item.is c.loop-item.invariant c.value_nests.result c.value_nests.ensures c.if-not-value_nests.true

pub items_nest-loop-item-preserved : goal.items_nest-loop-item-preserved
items_nest-loop-item-preserved t c =
    item_within c.args.items.now c.loop-item.item-index c.args.levels c.item-item.result c.loop-item-test.true c.item-item.is c.loop-item.invariant c.value_nests.result c.value_nests.ensures c.if-not-value_nests.false

pub items_nest-returns : goal.items_nest-returns
items_nest-returns t c = items_end c.args.items.now c.loop-item.item-index c.args.levels c.loop-item-test.false c.loop-item.invariant

pub members_nest-returns-then-not-value_nests : goal.members_nest-returns-then-not-value_nests
members_nest-returns-then-not-value_nests t c =
    member_past (leb (members_depth (members_view c.args.members.now.entries)) c.args.levels) c.loop-member.member-iterator c.args.levels (c.in-Some.field-0-0.now, c.in-Some.member.now) c.next.new.self
    c.in-Some.ensures.steps c.loop-member.invariant c.value_nests.result c.value_nests.ensures c.if-not-value_nests.true

pub members_nest-loop-member-preserved : goal.members_nest-loop-member-preserved
members_nest-loop-member-preserved t c =
    member_within (leb (members_depth (members_view c.args.members.now.entries)) c.args.levels) c.loop-member.member-iterator c.args.levels (c.in-Some.field-0-0.now, c.in-Some.member.now) c.next.new.self
    c.in-Some.ensures.steps c.loop-member.invariant c.value_nests.result c.value_nests.ensures c.if-not-value_nests.false
