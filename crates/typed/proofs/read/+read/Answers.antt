use Rattle.std.proofs.Common.{◌≡◌, ℕ, List, [], Ok, drop, sym, subst, ap, ◌∙◌}
use Rattle.std.proofs.lemmas.List.{drop_all}
use Rattle.std.proofs.lemmas.Result.{err_from_is_err_and}
use Rattle.serde_json.specs.Data.{Data, Members, object}
use Rattle.serde_json.specs.View.{items_view, members_view, view}
use Rattle.fieldpath.specs.Elements.{list_item_text}
use Rattle.pathmap.specs.Contents.{Content}
use Rattle.pathmap.specs.Maps.{content}
use Rattle.schema.specs.KeyNames.{names_in}
use Rattle.schema.specs.Shape.{fields_in, shape}
use Rattle.typed.specs.Faults.{Returns, Read, ReportsFault, and_then, fault_in}
use Rattle.typed.specs.Reading.{beside_keys, content_of, content_of_field, content_of_item, items_at, keyed_item, keys_in, members_at, named_item}
use Rattle.typed.specs.Steps.{item_view}
use Rattle.typed.proofs.Faults.{passed_on, reports-and_then}
use Rattle.typed.proofs.Listed.{item_added, item_failed, items_begin, items_end, keyed_is}
use Rattle.typed.proofs.Members.{member_added, member_new, member_null, members_begin, members_end}
use Rattle.typed.proofs.Plains.{Entry}
use Rattle.typed.proofs.Shapes.{content_list, content_struct, item_struct}
use Rattle.typed.proofs.read.+read.Goals as goal

pub read_values-loop-name-init : goal.read_values-loop-name-init
read_values-loop-name-init t c =
    members_begin (λ k e. content_of (shape c.args.inner.now) e) (content c.empty-map.result) c.into_iter-name-iterator.result c.args.members.now.entries c.empty-map.ensures (c.into_iter-name-iterator.ensures.into_iter_gives ∙ c.iter-name-items.ensures.rest) c.iter-name-items.ensures.ordered

pub read_values-loop-name-preserved : goal.read_values-loop-name-preserved
read_values-loop-name-preserved t c =
    let inner : List ℕ → Data → Read Content = λ k e. content_of (shape c.args.inner.now) e in
    member_null inner (members_at inner (members_view c.args.members.now.entries)) (content c.loop-name.map) c.loop-name.name-iterator (c.in-Some.name.now, c.in-Some.member.now) c.next.new.self c.in-Some.ensures.steps c.loop-name.invariant (sym c.is_null.ensures ∙ c.if-not-is_null.false)

pub read_values-loop-name-preserved-in-Continue-1 : goal.read_values-loop-name-preserved-in-Continue-1
read_values-loop-name-preserved-in-Continue-1 t c =
    let inner : List ℕ → Data → Read Content = λ k e. content_of (shape c.args.inner.now) e in
    let whole = members_at inner (members_view c.args.members.now.entries) in
    let e : Entry = (c.in-Some.name.now, c.in-Some.member.now) in
    let new = member_new inner whole (content c.loop-name.map) c.loop-name.name-iterator e c.next.new.self c.in-Some.ensures.steps c.loop-name.invariant c.as_str-text.result.now c.as_str-text.ensures.value in
    member_added inner whole (content c.loop-name.map) c.loop-name.name-iterator e c.next.new.self c.in-Some.ensures.steps c.loop-name.invariant c.as_str-text.result.now c.as_str-text.ensures.value (sym c.is_null.ensures ∙ c.if-not-is_null.true)
    (content c.add_member.new.map) (c.in_ok-add_member.ensures (inner c.as_str-text.result.now (view c.in-Some.member.now)) new c.read_map-read.ensures)

pub read_values-returns : goal.read_values-returns
read_values-returns t c =
    let inner : List ℕ → Data → Read Content = λ k e. content_of (shape c.args.inner.now) e in
    members_end inner (members_at inner (members_view c.args.members.now.entries)) (content c.loop-name.map) c.loop-name.name-iterator c.in-None.ensures.steps.0 c.loop-name.invariant

pub read_struct-loop-name-init : goal.read_struct-loop-name-init
read_struct-loop-name-init t c =
    members_begin (beside_keys (names_in c.args.names.now) (λ k e. content_of_field (fields_in c.args.fields.now) k e)) (content c.empty-map.result) c.into_iter-name-iterator.result c.args.members.now.entries c.empty-map.ensures
    (c.into_iter-name-iterator.ensures.into_iter_gives ∙ c.iter-name-items.ensures.rest) c.iter-name-items.ensures.ordered

pub read_struct-loop-name-preserved : goal.read_struct-loop-name-preserved
read_struct-loop-name-preserved t c =
    let inner : List ℕ → Data → Read Content = beside_keys (names_in c.args.names.now) (λ k e. content_of_field (fields_in c.args.fields.now) k e) in
    member_null inner (members_at inner (members_view c.args.members.now.entries)) (content c.loop-name.map) c.loop-name.name-iterator (c.in-Some.name.now, c.in-Some.member.now) c.next.new.self c.in-Some.ensures.steps c.loop-name.invariant (sym c.is_null.ensures ∙ c.if-not-is_null.false)

pub read_struct-loop-name-preserved-in-Continue-1 : goal.read_struct-loop-name-preserved-in-Continue-1
read_struct-loop-name-preserved-in-Continue-1 t c =
    let inner : List ℕ → Data → Read Content = beside_keys (names_in c.args.names.now) (λ k e. content_of_field (fields_in c.args.fields.now) k e) in
    let whole = members_at inner (members_view c.args.members.now.entries) in
    let e : Entry = (c.in-Some.name.now, c.in-Some.member.now) in
    let new = member_new inner whole (content c.loop-name.map) c.loop-name.name-iterator e c.next.new.self c.in-Some.ensures.steps c.loop-name.invariant c.as_str-text.result.now c.as_str-text.ensures.value in
    member_added inner whole (content c.loop-name.map) c.loop-name.name-iterator e c.next.new.self c.in-Some.ensures.steps c.loop-name.invariant c.as_str-text.result.now c.as_str-text.ensures.value (sym c.is_null.ensures ∙ c.if-not-is_null.true)
    (content c.add_member.new.map) (c.in_ok-add_member.ensures (content_of_field (fields_in c.args.fields.now) c.as_str-text.result.now (view c.in-Some.member.now)) new c.read_field-read.ensures)

pub read_struct-returns : goal.read_struct-returns
read_struct-returns t c =
    let inner : List ℕ → Data → Read Content = beside_keys (names_in c.args.names.now) (λ k e. content_of_field (fields_in c.args.fields.now) k e) in
    members_end inner (members_at inner (members_view c.args.members.now.entries)) (content c.loop-name.map) c.loop-name.name-iterator c.in-None.ensures.steps.0 c.loop-name.invariant

pub read_list-loop-place-init : goal.read_list-loop-place-init
read_list-loop-place-init t c =
    items_begin (keyed_item (names_in c.args.names.now) (λ ms. content_of_item (shape c.args.inner.now) (names_in c.args.names.now) ms)) (content c.empty-map.result) c.args.items.now c.empty-map.ensures

pub read_list-loop-place-preserved : goal.read_list-loop-place-preserved
read_list-loop-place-preserved t c =
    let inner = keyed_item (names_in c.args.names.now) (λ ms. content_of_item (shape c.args.inner.now) (names_in c.args.names.now) ms) in
    item_added inner (items_at inner 0 [] (items_view c.args.items.now)) (content c.loop-place.map) c.args.items.now c.loop-place.place c.index-items-place.result c.loop-place-test.true c.index-items-place.is c.loop-place.invariant (content c.add_item.new.map)
    (c.in_ok-add_item.ensures (inner (view c.index-items-place.result)) c.loop-place.invariant.0 c.loop-place.invariant.2 c.read_item-read.ensures)

pub read_list-returns-in_err-add_item : goal.read_list-returns-in_err-add_item
read_list-returns-in_err-add_item t c =
    let inner = keyed_item (names_in c.args.names.now) (λ ms. content_of_item (shape c.args.inner.now) (names_in c.args.names.now) ms) in
    let p = err_from_is_err_and c.from_residual.result c.from_residual.ensures.1 in
    let f = c.in_err-add_item.field-0.0 in
    passed_on content p.0 f c.from_residual.result _ p.1 p.2
    (item_failed inner (items_at inner 0 [] (items_view c.args.items.now)) (content c.loop-place.map) c.args.items.now c.loop-place.place c.index-items-place.result c.loop-place-test.true c.index-items-place.is c.loop-place.invariant f
    (c.in_err-add_item.ensures (inner (view c.index-items-place.result)) c.loop-place.invariant.0 c.loop-place.invariant.2 c.read_item-read.ensures))

pub read_list-returns : goal.read_list-returns
read_list-returns t c =
    let inner = keyed_item (names_in c.args.names.now) (λ ms. content_of_item (shape c.args.inner.now) (names_in c.args.names.now) ms) in
    items_end inner (items_at inner 0 [] (items_view c.args.items.now)) (content c.loop-place.map) c.loop-place.place (drop c.loop-place.place c.args.items.now) (drop_all c.loop-place.place c.args.items.now c.loop-place-test.false) c.loop-place.invariant

pub read_item-returns-in_err-below-in-Struct : goal.read_item-returns-in_err-below-in-Struct
read_item-returns-in_err-below-in-Struct t c =
    let names = names_in c.args.names.now in
    let ms = members_view c.in_ok-members.members.now.entries in
    let inner : Members → Read Content = λ ms. content_of_item (shape c.args.inner.now) names ms in
    let p = err_from_is_err_and c.from_residual-in_err-below-in-Struct.result c.from_residual-in_err-below-in-Struct.ensures.1 in
    let f = c.in_err-below-in-Struct.field-0.0 in
    passed_on item_view p.0 f c.from_residual-in_err-below-in-Struct.result _ p.1 p.2
    (subst (λ r. ReportsFault f (fault_in r))
    (sym (keyed_is names inner (view c.args.item.now) ms c.in_ok-members.ensures
    ∙ ap (λ r. and_then r (named_item (list_item_text (object (keys_in names ms))))) (item_struct c.args.inner.now c.in-Struct.fields c.in-Struct.field-1 c.deref.result.now names ms c.in-Struct.is c.deref.ensures.value)))
    (reports-and_then f _ (named_item (list_item_text (object (keys_in names ms)))) c.in_err-below-in-Struct.ensures))

pub read_item-returns-in_ok-below-in-Struct : goal.read_item-returns-in_ok-below-in-Struct
read_item-returns-in_ok-below-in-Struct t c =
    let names = names_in c.args.names.now in
    let ms = members_view c.in_ok-members.members.now.entries in
    let inner : Members → Read Content = λ ms. content_of_item (shape c.args.inner.now) names ms in
    let made = content c.in_ok-below-in-Struct.below in
    let read : content_of_item (shape c.args.inner.now) names ms ≡ Ok made = item_struct c.args.inner.now c.in-Struct.fields c.in-Struct.field-1 c.deref.result.now names ms c.in-Struct.is c.deref.ensures.value ∙ c.in_ok-below-in-Struct.ensures in
    subst (Returns item_view c.list_item.result)
    (sym (keyed_is names inner (view c.args.item.now) ms c.in_ok-members.ensures ∙ ap (λ r. and_then r (named_item (list_item_text (object (keys_in names ms))))) read))
    c.list_item.ensures

pub read_map-returns-in_ok-members-in-Struct : goal.read_map-returns-in_ok-members-in-Struct
read_map-returns-in_ok-members-in-Struct t c =
    subst (Returns content c.read_struct.result)
    (sym (content_struct c.args.schema.now c.in-Struct.fields c.in-Struct.is_atomic c.deref.result.now (view c.args.value.now) (members_view c.in_ok-members-in-Struct.members.now.entries) c.in-Struct.is c.if-is_atomic.false c.deref.ensures.value c.in_ok-members-in-Struct.ensures))
    c.read_struct.ensures

pub read_map-returns-in_ok-items-in-Keyed : goal.read_map-returns-in_ok-items-in-Keyed
read_map-returns-in_ok-items-in-Keyed t c =
    subst (Returns content c.read_list.result)
    (sym (content_list c.args.schema.now c.in-List.inner c.in-List.kind c.in-Keyed.names c.deref-in-Keyed.result.now c.deref-in-Keyed-2.result.now c.deref-in-Keyed-3.result.now (view c.args.value.now) c.in_ok-items-in-Keyed.items.now.items
    c.in-List.is c.in-Keyed.is c.deref-in-Keyed.ensures c.deref-in-Keyed-2.ensures.value c.deref-in-Keyed-3.ensures.value c.in_ok-items-in-Keyed.ensures))
    c.read_list.ensures
