use Rattle.std.proofs.Common.{arith, ◌+◌, drop, string_bytes, sym, ap, ap₂, ◌∙◌}
use Rattle.std.specs.Option.{option_map}
use Rattle.serde_json.specs.Data.{object, put}
use Rattle.serde_json.specs.View.{members_view}
use Rattle.serde_json.specs.declared.value.Value.{Object}
use Rattle.serde_json.proofs.Views.{members_view-insert_entry, view-Object}
use Rattle.pathmap.specs.Maps.{contents_in}
use Rattle.pathmap.proofs.Children.{child_lower}
use Rattle.pathmap.proofs.Prefixes.{drop_next, drop-whole}
use Rattle.schema.specs.Shape.{shape}
use Rattle.fieldset.specs.Below.{as_item, members_some, members_under}
use Rattle.fieldset.proofs.Walks.{held_marks, marks_in, members-each, puts, puts_all, puts_next}
use Rattle.fieldset.proofs.fields_v1.+members.Goals as goal

pub loop-name-preserved : goal.loop-name-preserved
loop-name-preserved t c =
    let e = c.loop-name-item.result in
    let i = c.loop-name.name-index in
    let all = c.children-name-items.result.now in
    let s = shape c.in-Some.schema.now in
    let below = c.put_as_item.new.members in
    let ms = members_view c.loop-name.all.entries in
    let inner = c.in_ok-put_as_item.ensures ∙ ap₂ (as_item s) (c.is_some.ensures ∙ sym (held_marks e.1 c.held.result c.held.ensures)) (c.in_ok-below.ensures ∙ ap (λ o. members_some o (marks_in e.1)) c.schema_below.ensures) in
    let added = ap members_view c.in_ok-insert.ensures.entries ∙ members_view-insert_entry c.loop-name.all.entries c.in_ok-text.text (Object below)
    ∙ ap₂ (λ k d. put k d ms) (c.in_ok-text.ensures.ok ∙ c.as_str.ensures.value) (view-Object below ∙ ap object inner) in
    puts_next (members_under s) (contents_in (drop i all)) (contents_in (drop (i + 1) all)) (string_bytes e.0, e.1) (ap contents_in (drop_next all i e c.loop-name-test.true c.loop-name-item.is)) ms (members_view c.insert.new.self.entries) added
    ∙ c.loop-name.invariant

pub returns : goal.returns
returns t c =
    let s = shape c.in-Some.schema.now in
    let all = c.children-name-items.result.now in
    sym (ap (λ es. puts (members_under s) (contents_in es) (members_view c.loop-name.all.entries)) (drop-whole c.loop-name.name-index all c.loop-name-test.false))
    ∙ c.loop-name.invariant ∙ puts_all (members_under s) c.args.map.now (contents_in all) c.children-name-items.ensures
    ∙ sym (members-each s (marks_in c.args.map.now) (sym c.is_leaf.ensures ∙ c.if-is_leaf.false)) ∙ ap (λ o. members_some (option_map (λ x. shape x.now) o) (marks_in c.args.map.now)) (sym c.in-Some.is)

pub members-requires : goal.members-requires
members-requires t c =
    let e = c.loop-name-item.result in
    let i = c.loop-name.name-index in
    let all = c.children-name-items.result.now in
    let lower = child_lower c.args.map.now all c.children-name-items.ensures i e (drop (i + 1) all) (drop_next all i e c.loop-name-test.true c.loop-name-item.is) in
    let top = c.decreases in
    (omega (arith, lower, top), tt)
