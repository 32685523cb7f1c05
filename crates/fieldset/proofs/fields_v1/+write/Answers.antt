use Rattle.std.proofs.Common.{arith, ◌+◌, ◌++◌, drop, ap, sym, ◌∙◌, string_bytes}
use Rattle.std.specs.Option.{option_map}
use Rattle.std.proofs.lemmas.Result.{on_ok_weaker}
use Rattle.pathmap.specs.Maps.{contents_in}
use Rattle.pathmap.proofs.Children.{child_lower}
use Rattle.pathmap.proofs.Prefixes.{drop_next, drop-whole}
use Rattle.json_texts.specs.Writing.{with_name, with_text}
use Rattle.schema.specs.Shape.{shape}
use Rattle.serde_json.specs.Data.{object}
use Rattle.serde_json.specs.Written.{compact_text, members_text}
use Rattle.fieldset.specs.Below.{as_item, members_some, members_under, shape_below}
use Rattle.json_texts.proofs.Appended.{closed, opened}
use Rattle.fieldset.proofs.Appended.{child_written}
use Rattle.fieldset.proofs.Walks.{children_all, each_child, held_marks, marks_in, members-each}
use Rattle.fieldset.proofs.fields_v1.+write.Goals as goal

pub write_members-loop-name-init : goal.write_members-loop-name-init
write_members-loop-name-init t c =
    opened (each_child (members_under (shape c.in-Some.schema.now)) (contents_in c.children-name-items.result.now)) c.args.out.now c.begin_object.new.self c.in_ok-begin_object.ensures

pub write_members-loop-name-preserved : goal.write_members-loop-name-preserved
write_members-loop-name-preserved t c =
    let e = c.loop-name-item.result in
    let i = c.loop-name.name-index in
    let all = c.children-name-items.result.now in
    child_written (members_under (shape c.in-Some.schema.now)) (contents_in (drop i all)) (contents_in (drop (i + 1) all)) (string_bytes e.0, e.1) (ap contents_in (drop_next all i e c.loop-name-test.true c.loop-name-item.is))
    c.loop-name.out c.name.new.self c.write_object.new.out (object (each_child (members_under (shape c.in-Some.schema.now)) (contents_in all))) c.args.out.now c.loop-name.invariant
    (c.in_ok-name.ensures ∙ ap (λ k. with_name k c.loop-name.out) c.as_str.ensures.value) c.in_ok-write_object.ensures

pub write_members-returns : goal.write_members-returns
write_members-returns t c =
    let s = shape c.in-Some.schema.now in
    let all = c.children-name-items.result.now in
    let now = c.loop-name.out in
    let old = c.args.out.now in
    let left = sym (ap (λ l. now.text ++ members_text now.later (each_child (members_under s) (contents_in l))) (drop-whole c.loop-name.name-index all c.loop-name-test.false)) ∙ c.loop-name.invariant in
    let members = children_all (members_under s) c.args.map.now (contents_in all) c.children-name-items.ensures ∙ sym (members-each s (marks_in c.args.map.now) (sym c.is_leaf.ensures ∙ c.if-is_leaf.false))
    ∙ ap (λ o. members_some (option_map (λ x. shape x.now) o) (marks_in c.args.map.now)) (sym c.in-Some.is) in
    on_ok_weaker c.end_object-2.result
    (λ closing. closed now c.end_object-2.new.self (object (each_child (members_under s) (contents_in all))) old left closing ∙ ap (λ ms. with_text (compact_text (object ms)) old) members) c.end_object-2.ensures

pub write_object-returns : goal.write_object-returns
write_object-returns t c =
    let s = shape c.args.schema.now in
    let k = string_bytes c.args.name.now in
    let whole = marks_in c.args.map.now in
    let old = c.args.out.now in
    let below = members_some (shape_below s k) whole in
    let same = ap (λ b. as_item s b below) (held_marks c.args.map.now c.held.result c.held.ensures ∙ sym c.is_some.ensures) ∙ c.has_more.ensures c.if-has_more.false below in
    on_ok_weaker c.write_members.result (λ written. written ∙ ap (λ o. with_text (compact_text (object (members_some o whole))) old) c.schema_below.ensures ∙ ap (λ ms. with_text (compact_text (object ms)) old) (sym same)) c.write_members.ensures

pub write_members-write_object-requires : goal.write_members-write_object-requires
write_members-write_object-requires t c =
    let e = c.loop-name-item.result in
    let i = c.loop-name.name-index in
    let all = c.children-name-items.result.now in
    let lower = child_lower c.args.map.now all c.children-name-items.ensures i e (drop (i + 1) all) (drop_next all i e c.loop-name-test.true c.loop-name-item.is) in
    let top = c.decreases in
    (omega (arith, lower, top), tt)
