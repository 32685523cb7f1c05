use Rattle.std.proofs.Common.{false, length, ap, ◌∙◌}
use Rattle.json.specs.Print.{quoted}
use Rattle.serde_json.specs.View.{items_view, members_view}
use Rattle.serde_json.specs.Written.{items_text, members_text}
use Rattle.json_patch.specs.CopiedSize.{items_without_floats, left_of, members_without_floats}
use Rattle.json_patch.proofs.Sizes.{colon_too_long, comma_too_long, item_counted, item_too_long, items_ended, member_comma, member_counted, member_too_long, name_too_long}
use Rattle.json_patch.proofs.copied_size.+size.Goals as goal

pub after_items-returns-in_err-left : goal.after_items-returns-in_err-left
after_items-returns-in_err-left t c =
    c.from_residual.ensures
    ∙ comma_too_long (left_of c.args.room (length (items_text false (items_without_floats (items_view c.args.items.now))))) c.args.items.now c.loop-item.item-index c.loop-item.left c.loop-item.is_later
    c.item-item.result c.loop-item-test.true c.item-item.is c.loop-item.invariant c.in_err-left.ensures

pub after_items-returns-in_err-left-2 : goal.after_items-returns-in_err-left-2
after_items-returns-in_err-left-2 t c =
    c.from_residual-in_err-left-2.ensures
    ∙ item_too_long (left_of c.args.room (length (items_text false (items_without_floats (items_view c.args.items.now))))) c.args.items.now c.loop-item.item-index c.loop-item.left c.loop-item.is_later
    c.item-item.result c.loop-item-test.true c.item-item.is c.loop-item.invariant c.in_ok-left.left c.in_ok-left.ensures c.in_err-left-2.ensures

pub after_items-loop-item-preserved : goal.after_items-loop-item-preserved
after_items-loop-item-preserved t c =
    item_counted (left_of c.args.room (length (items_text false (items_without_floats (items_view c.args.items.now))))) c.args.items.now c.loop-item.item-index c.loop-item.left c.loop-item.is_later
    c.item-item.result c.loop-item-test.true c.item-item.is c.loop-item.invariant c.in_ok-left.left c.in_ok-left.ensures c.in_ok-left-2.left c.in_ok-left-2.ensures

pub after_items-returns : goal.after_items-returns
after_items-returns t c =
    items_ended (left_of c.args.room (length (items_text false (items_without_floats (items_view c.args.items.now))))) c.args.items.now c.loop-item.item-index c.loop-item.left c.loop-item.is_later
    c.checked_sub.result c.loop-item-test.false c.loop-item.invariant c.checked_sub.ensures

pub after_members-returns-in_err-left : goal.after_members-returns-in_err-left
after_members-returns-in_err-left t c =
    c.from_residual.ensures
    ∙ member_comma (left_of c.args.room (length (members_text false (members_without_floats (members_view c.args.members.now.entries))))) c.loop-name.name-iterator c.loop-name.left c.loop-name.is_later
    (c.in-Some.name.now, c.in-Some.member.now) c.next.new.self c.in-Some.ensures.steps c.loop-name.invariant c.in_err-left.ensures

pub after_members-returns-in_err-left-2 : goal.after_members-returns-in_err-left-2
after_members-returns-in_err-left-2 t c =
    c.from_residual-in_err-left-2.ensures
    ∙ name_too_long (left_of c.args.room (length (members_text false (members_without_floats (members_view c.args.members.now.entries))))) c.loop-name.name-iterator c.loop-name.left c.loop-name.is_later
    (c.in-Some.name.now, c.in-Some.member.now) c.next.new.self c.in-Some.ensures.steps c.loop-name.invariant c.in_ok-left.left c.in_ok-left.ensures
    (c.in_err-left-2.ensures ∙ ap (λ n. left_of c.in_ok-left.left (length (quoted n))) c.as_str.ensures.value)

pub after_members-returns-in_err-left-3 : goal.after_members-returns-in_err-left-3
after_members-returns-in_err-left-3 t c =
    c.from_residual-in_err-left-3.ensures
    ∙ colon_too_long (left_of c.args.room (length (members_text false (members_without_floats (members_view c.args.members.now.entries))))) c.loop-name.name-iterator c.loop-name.left c.loop-name.is_later
    (c.in-Some.name.now, c.in-Some.member.now) c.next.new.self c.in-Some.ensures.steps c.loop-name.invariant c.in_ok-left.left c.in_ok-left.ensures
    c.in_ok-left-2.left (c.in_ok-left-2.ensures ∙ ap (λ n. left_of c.in_ok-left.left (length (quoted n))) c.as_str.ensures.value) c.in_err-left-3.ensures

pub after_members-returns-in_err-left-4 : goal.after_members-returns-in_err-left-4
after_members-returns-in_err-left-4 t c =
    c.from_residual-in_err-left-4.ensures
    ∙ member_too_long (left_of c.args.room (length (members_text false (members_without_floats (members_view c.args.members.now.entries))))) c.loop-name.name-iterator c.loop-name.left c.loop-name.is_later
    (c.in-Some.name.now, c.in-Some.member.now) c.next.new.self c.in-Some.ensures.steps c.loop-name.invariant c.in_ok-left.left c.in_ok-left.ensures
    c.in_ok-left-2.left (c.in_ok-left-2.ensures ∙ ap (λ n. left_of c.in_ok-left.left (length (quoted n))) c.as_str.ensures.value) c.in_ok-left-3.left c.in_ok-left-3.ensures c.in_err-left-4.ensures

pub after_members-loop-name-preserved : goal.after_members-loop-name-preserved
after_members-loop-name-preserved t c =
    member_counted (left_of c.args.room (length (members_text false (members_without_floats (members_view c.args.members.now.entries))))) c.loop-name.name-iterator c.loop-name.left c.loop-name.is_later
    (c.in-Some.name.now, c.in-Some.member.now) c.next.new.self c.in-Some.ensures.steps c.loop-name.invariant c.in_ok-left.left c.in_ok-left.ensures
    c.in_ok-left-2.left (c.in_ok-left-2.ensures ∙ ap (λ n. left_of c.in_ok-left.left (length (quoted n))) c.as_str.ensures.value) c.in_ok-left-3.left c.in_ok-left-3.ensures c.in_ok-left-4.left c.in_ok-left-4.ensures
