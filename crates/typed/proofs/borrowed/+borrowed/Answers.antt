use Rattle.std.proofs.Common.{◌≡◌, ◌+◌, arith, ℕ, List, [], Ok, drop, refl, sym, subst, ap, ◌∙◌}
use Rattle.std.proofs.lemmas.List.{drop_all}
use Rattle.std.proofs.lemmas.Result.{err_from_is_err_and}
use Rattle.json.specs.Value.{items_view, members_view, value_view}
use Rattle.serde_json.specs.Data.{Data, Items, Members, object}
use Rattle.fieldpath.specs.Elements.{list_item_text}
use Rattle.fieldpath.specs.Scalars.{ascend}
use Rattle.json_texts.specs.InOrder.{data_of, items_data, members_data}
use Rattle.json_texts.proofs.Parts.{Entry, Item, at_place, item_ordered, member_ordered, names-data, ordered_parts}
use Rattle.pathmap.specs.Contents.{Content}
use Rattle.pathmap.specs.Maps.{content}
use Rattle.schema.specs.KeyNames.{names_in}
use Rattle.schema.specs.Shape.{fields_in, shape}
use Rattle.typed.specs.declared.fault.Cause.TheVariants.{NotAnObject, WrongType}
use Rattle.typed.specs.Faults.{Returns, Read, ReportsFault, and_then, fault_in, some_or}
use Rattle.typed.specs.Keyed.{keyed_members}
use Rattle.typed.specs.Reading.{beside_keys, content_of, content_of_field, content_of_item, items_at, keyed_item, keys_in, members_at, named_item}
use Rattle.typed.specs.Steps.{item_view}
use Rattle.typed.proofs.Ascending.{one_added, one_failed, one_free, one_null, read_begin, read_end}
use Rattle.typed.proofs.Faults.{passed_on, reports-and_then}
use Rattle.typed.proofs.Listed.{list_begin, list_end, next_added, next_failed, object_keyed, other_keyed, with_keys}
use Rattle.typed.proofs.Shallow.{array_depth, item_depth, member_depth, object_depth}
use Rattle.typed.proofs.Shapes.{content_keyed, content_struct, item_struct}
use Rattle.typed.proofs.borrowed.+borrowed.Goals as goal

abbrev data_left : List Entry → ℕ → Members
data_left ms i = members_data (members_view (drop i ms))

pub read_values-loop-name-init : goal.read_values-loop-name-init
read_values-loop-name-init t c =
    let ms = members_view c.args.members.now in
    read_begin (λ k e. content_of (shape c.args.inner.now) e) (content c.in_ok-map.map) (members_data ms) (members_data ms) c.in_ok-map.ensures refl (ap ascend (names-data ms) ∙ (ordered_parts ms c.requires).0)

pub read_values-is_null-requires : goal.read_values-is_null-requires
read_values-is_null-requires t c = member_ordered c.args.members.now c.loop-name.name-index c.loop-name-item.result c.loop-name-test.true c.loop-name-item.is (ordered_parts (members_view c.args.members.now) c.requires).1

pub read_values-read_borrowed-read-requires : goal.read_values-read_borrowed-read-requires
read_values-read_borrowed-read-requires t c =
    let xs = c.args.members.now in
    let i = c.loop-name.name-index in
    let x = c.loop-name-item.result in
    let deep = member_depth xs i x c.loop-name-test.true c.loop-name-item.is in
    let top = c.decreases in
    (omega (arith, deep, top), member_ordered xs i x c.loop-name-test.true c.loop-name-item.is (ordered_parts (members_view xs) c.requires).1)

pub read_values-loop-name-preserved-then-is_null : goal.read_values-loop-name-preserved-then-is_null
read_values-loop-name-preserved-then-is_null t c =
    let inner : List ℕ → Data → Read Content = λ k e. content_of (shape c.args.inner.now) e in
    let xs = c.args.members.now in
    let whole = members_at inner (members_data (members_view xs)) in
    let i = c.loop-name.name-index in
    let x = c.loop-name-item.result in
    let steps = ap (λ l. members_data (members_view l)) (at_place xs i x c.loop-name-test.true c.loop-name-item.is) in
    one_null inner whole (content c.loop-name.map) (data_left xs i) x.0.now (data_of (value_view x.1)) (data_left xs (i + 1)) steps c.loop-name.invariant (sym c.is_null.ensures ∙ c.if-is_null.true)

pub read_values-loop-name-preserved : goal.read_values-loop-name-preserved
read_values-loop-name-preserved t c =
    let inner : List ℕ → Data → Read Content = λ k e. content_of (shape c.args.inner.now) e in
    let xs = c.args.members.now in
    let whole = members_at inner (members_data (members_view xs)) in
    let i = c.loop-name.name-index in
    let x = c.loop-name-item.result in
    let steps = ap (λ l. members_data (members_view l)) (at_place xs i x c.loop-name-test.true c.loop-name-item.is) in
    let free = one_free inner whole (content c.loop-name.map) (data_left xs i) x.0.now (data_of (value_view x.1)) (data_left xs (i + 1)) steps c.loop-name.invariant in
    one_added inner whole (content c.loop-name.map) (data_left xs i) x.0.now (data_of (value_view x.1)) (data_left xs (i + 1)) steps c.loop-name.invariant (sym c.is_null.ensures ∙ c.if-is_null.false)
    (content c.add_member.new.map) (c.in_ok-add_member.ensures (inner x.0.now (data_of (value_view x.1))) free c.read_borrowed-read.ensures)

pub read_values-returns-in_err-add_member : goal.read_values-returns-in_err-add_member
read_values-returns-in_err-add_member t c =
    let inner : List ℕ → Data → Read Content = λ k e. content_of (shape c.args.inner.now) e in
    let xs = c.args.members.now in
    let whole = members_at inner (members_data (members_view xs)) in
    let i = c.loop-name.name-index in
    let x = c.loop-name-item.result in
    let steps = ap (λ l. members_data (members_view l)) (at_place xs i x c.loop-name-test.true c.loop-name-item.is) in
    let free = one_free inner whole (content c.loop-name.map) (data_left xs i) x.0.now (data_of (value_view x.1)) (data_left xs (i + 1)) steps c.loop-name.invariant in
    let p = err_from_is_err_and c.from_residual-in_err-add_member.result c.from_residual-in_err-add_member.ensures.1 in
    let f = c.in_err-add_member.field-0.0 in
    passed_on content p.0 f c.from_residual-in_err-add_member.result whole p.1 p.2
    (one_failed inner whole (content c.loop-name.map) (data_left xs i) x.0.now (data_of (value_view x.1)) (data_left xs (i + 1)) steps c.loop-name.invariant (sym c.is_null.ensures ∙ c.if-is_null.false) f (c.in_err-add_member.ensures (inner x.0.now (data_of (value_view x.1))) free c.read_borrowed-read.ensures))

pub read_values-returns : goal.read_values-returns
read_values-returns t c =
    let inner : List ℕ → Data → Read Content = λ k e. content_of (shape c.args.inner.now) e in
    let xs = c.args.members.now in
    let i = c.loop-name.name-index in
    read_end inner (members_at inner (members_data (members_view xs))) (content c.loop-name.map) (data_left xs i) (ap (λ l. members_data (members_view l)) (drop_all i xs c.loop-name-test.false)) c.loop-name.invariant

pub read_struct-loop-name-init : goal.read_struct-loop-name-init
read_struct-loop-name-init t c =
    let ms = members_view c.args.members.now in
    read_begin (beside_keys (names_in c.args.names.now) (λ k e. content_of_field (fields_in c.args.fields.now) k e)) (content c.in_ok-map.map) (members_data ms) (members_data ms) c.in_ok-map.ensures refl (ap ascend (names-data ms) ∙ (ordered_parts ms c.requires).0)

pub read_struct-is_null-requires : goal.read_struct-is_null-requires
read_struct-is_null-requires t c = member_ordered c.args.members.now c.loop-name.name-index c.loop-name-item.result c.loop-name-test.true c.loop-name-item.is (ordered_parts (members_view c.args.members.now) c.requires).1

pub read_struct-read_field-read-requires : goal.read_struct-read_field-read-requires
read_struct-read_field-read-requires t c =
    let xs = c.args.members.now in
    let i = c.loop-name.name-index in
    let x = c.loop-name-item.result in
    let deep = member_depth xs i x c.loop-name-test.true c.loop-name-item.is in
    let top = c.decreases in
    (omega (arith, deep, top), member_ordered xs i x c.loop-name-test.true c.loop-name-item.is (ordered_parts (members_view xs) c.requires).1)

pub read_struct-loop-name-preserved-then-is_null : goal.read_struct-loop-name-preserved-then-is_null
read_struct-loop-name-preserved-then-is_null t c =
    let inner : List ℕ → Data → Read Content = beside_keys (names_in c.args.names.now) (λ k e. content_of_field (fields_in c.args.fields.now) k e) in
    let xs = c.args.members.now in
    let whole = members_at inner (members_data (members_view xs)) in
    let i = c.loop-name.name-index in
    let x = c.loop-name-item.result in
    let steps = ap (λ l. members_data (members_view l)) (at_place xs i x c.loop-name-test.true c.loop-name-item.is) in
    one_null inner whole (content c.loop-name.map) (data_left xs i) x.0.now (data_of (value_view x.1)) (data_left xs (i + 1)) steps c.loop-name.invariant (sym c.is_null.ensures ∙ c.if-is_null.true)

pub read_struct-loop-name-preserved : goal.read_struct-loop-name-preserved
read_struct-loop-name-preserved t c =
    let inner : List ℕ → Data → Read Content = beside_keys (names_in c.args.names.now) (λ k e. content_of_field (fields_in c.args.fields.now) k e) in
    let xs = c.args.members.now in
    let whole = members_at inner (members_data (members_view xs)) in
    let i = c.loop-name.name-index in
    let x = c.loop-name-item.result in
    let steps = ap (λ l. members_data (members_view l)) (at_place xs i x c.loop-name-test.true c.loop-name-item.is) in
    let free = one_free inner whole (content c.loop-name.map) (data_left xs i) x.0.now (data_of (value_view x.1)) (data_left xs (i + 1)) steps c.loop-name.invariant in
    one_added inner whole (content c.loop-name.map) (data_left xs i) x.0.now (data_of (value_view x.1)) (data_left xs (i + 1)) steps c.loop-name.invariant (sym c.is_null.ensures ∙ c.if-is_null.false)
    (content c.add_member.new.map) (c.in_ok-add_member.ensures (content_of_field (fields_in c.args.fields.now) x.0.now (data_of (value_view x.1))) free c.read_field-read.ensures)

pub read_struct-returns-in_err-add_member : goal.read_struct-returns-in_err-add_member
read_struct-returns-in_err-add_member t c =
    let inner : List ℕ → Data → Read Content = beside_keys (names_in c.args.names.now) (λ k e. content_of_field (fields_in c.args.fields.now) k e) in
    let xs = c.args.members.now in
    let whole = members_at inner (members_data (members_view xs)) in
    let i = c.loop-name.name-index in
    let x = c.loop-name-item.result in
    let steps = ap (λ l. members_data (members_view l)) (at_place xs i x c.loop-name-test.true c.loop-name-item.is) in
    let free = one_free inner whole (content c.loop-name.map) (data_left xs i) x.0.now (data_of (value_view x.1)) (data_left xs (i + 1)) steps c.loop-name.invariant in
    let p = err_from_is_err_and c.from_residual-in_err-add_member.result c.from_residual-in_err-add_member.ensures.1 in
    let f = c.in_err-add_member.field-0.0 in
    passed_on content p.0 f c.from_residual-in_err-add_member.result whole p.1 p.2
    (one_failed inner whole (content c.loop-name.map) (data_left xs i) x.0.now (data_of (value_view x.1)) (data_left xs (i + 1)) steps c.loop-name.invariant (sym c.is_null.ensures ∙ c.if-is_null.false) f (c.in_err-add_member.ensures (content_of_field (fields_in c.args.fields.now) x.0.now (data_of (value_view x.1))) free c.read_field-read.ensures))

pub read_struct-returns : goal.read_struct-returns
read_struct-returns t c =
    let inner : List ℕ → Data → Read Content = beside_keys (names_in c.args.names.now) (λ k e. content_of_field (fields_in c.args.fields.now) k e) in
    let xs = c.args.members.now in
    let i = c.loop-name.name-index in
    read_end inner (members_at inner (members_data (members_view xs))) (content c.loop-name.map) (data_left xs i) (ap (λ l. members_data (members_view l)) (drop_all i xs c.loop-name-test.false)) c.loop-name.invariant

abbrev items_left : List Item → ℕ → Items
items_left vs i = items_data (items_view (drop i vs))

pub read_list-loop-place-init : goal.read_list-loop-place-init
read_list-loop-place-init t c =
    list_begin (keyed_item (names_in c.args.names.now) (λ ms. content_of_item (shape c.args.inner.now) (names_in c.args.names.now) ms)) (content c.in_ok-map.map) (items_data (items_view c.args.items.now)) c.in_ok-map.ensures

pub read_list-read_item-read-requires : goal.read_list-read_item-read-requires
read_list-read_item-read-requires t c =
    let xs = c.args.items.now in
    let i = c.loop-place.place in
    let x = c.index-items-place.result in
    let deep = item_depth xs i x c.loop-place-test.true c.index-items-place.is in
    let top = c.decreases in
    (omega (arith, deep, top), item_ordered xs i x c.loop-place-test.true c.index-items-place.is c.requires)

pub read_list-loop-place-preserved : goal.read_list-loop-place-preserved
read_list-loop-place-preserved t c =
    let inner = keyed_item (names_in c.args.names.now) (λ ms. content_of_item (shape c.args.inner.now) (names_in c.args.names.now) ms) in
    let xs = c.args.items.now in
    let i = c.loop-place.place in
    let x = c.index-items-place.result in
    let steps = ap (λ l. items_data (items_view l)) (at_place xs i x c.loop-place-test.true c.index-items-place.is) in
    next_added inner (items_at inner 0 [] (items_data (items_view xs))) (content c.loop-place.map) i (items_left xs i) (data_of (value_view x)) (items_left xs (i + 1)) steps c.loop-place.invariant (content c.add_item.new.map)
    (c.in_ok-add_item.ensures (inner (data_of (value_view x))) c.loop-place.invariant.0 c.loop-place.invariant.2 c.read_item-read.ensures)

pub read_list-returns-in_err-add_item : goal.read_list-returns-in_err-add_item
read_list-returns-in_err-add_item t c =
    let inner = keyed_item (names_in c.args.names.now) (λ ms. content_of_item (shape c.args.inner.now) (names_in c.args.names.now) ms) in
    let xs = c.args.items.now in
    let i = c.loop-place.place in
    let x = c.index-items-place.result in
    let whole = items_at inner 0 [] (items_data (items_view xs)) in
    let steps = ap (λ l. items_data (items_view l)) (at_place xs i x c.loop-place-test.true c.index-items-place.is) in
    let p = err_from_is_err_and c.from_residual-in_err-add_item.result c.from_residual-in_err-add_item.ensures.1 in
    let f = c.in_err-add_item.field-0.0 in
    passed_on content p.0 f c.from_residual-in_err-add_item.result whole p.1 p.2
    (next_failed inner whole (content c.loop-place.map) i (items_left xs i) (data_of (value_view x)) (items_left xs (i + 1)) steps c.loop-place.invariant f
    (c.in_err-add_item.ensures (inner (data_of (value_view x))) c.loop-place.invariant.0 c.loop-place.invariant.2 c.read_item-read.ensures))

pub read_list-returns : goal.read_list-returns
read_list-returns t c =
    let inner = keyed_item (names_in c.args.names.now) (λ ms. content_of_item (shape c.args.inner.now) (names_in c.args.names.now) ms) in
    let xs = c.args.items.now in
    let i = c.loop-place.place in
    list_end inner (items_at inner 0 [] (items_data (items_view xs))) (content c.loop-place.map) i (items_left xs i) (ap (λ l. items_data (items_view l)) (drop_all i xs c.loop-place-test.false)) c.loop-place.invariant

pub read_item-read_keyed-requires : goal.read_item-read_keyed-requires
read_item-read_keyed-requires t c =
    let deep = object_depth (data_of (value_view c.args.item.now)) (members_data (members_view c.in-Some.members.now)) c.in-Some.ensures.value in
    let top = c.decreases in
    (omega (arith, deep, top), c.in-Some.ensures.ordered c.requires)

pub read_item-returns-in-Some : goal.read_item-returns-in-Some
read_item-returns-in-Some t c =
    let names = names_in c.args.names.now in
    let inner : Members → Read Content = λ ms. content_of_item (shape c.args.inner.now) names ms in
    subst (Returns item_view c.read_keyed.result) (object_keyed names inner (data_of (value_view c.args.item.now)) (members_data (members_view c.in-Some.members.now)) c.in-Some.ensures.value) c.read_keyed.ensures

pub read_item-returns-in-None : goal.read_item-returns-in-None
read_item-returns-in-None t c =
    let names = names_in c.args.names.now in
    let inner : Members → Read Content = λ ms. content_of_item (shape c.args.inner.now) names ms in
    c.not_an_item.ensures _ (other_keyed names inner (data_of (value_view c.args.item.now)) c.in-None.ensures.value)

pub read_keyed-has_keys-requires : goal.read_keyed-has_keys-requires
read_keyed-has_keys-requires t c = (ordered_parts (members_view c.args.members.now) c.requires).1

pub read_keyed-read_struct-requires : goal.read_keyed-read_struct-requires
read_keyed-read_struct-requires t c =
    let top = c.decreases in
    (omega (arith, top), c.requires)

pub read_keyed-list_item-requires : goal.read_keyed-list_item-requires
read_keyed-list_item-requires t c = (ordered_parts (members_view c.args.members.now) c.requires).1

pub read_keyed-returns-in_err-below-in-Struct : goal.read_keyed-returns-in_err-below-in-Struct
read_keyed-returns-in_err-below-in-Struct t c =
    let names = names_in c.args.names.now in
    let ms = members_data (members_view c.args.members.now) in
    let inner : Members → Read Content = λ ms. content_of_item (shape c.args.inner.now) names ms in
    let p = err_from_is_err_and c.from_residual.result c.from_residual.ensures.1 in
    let f = c.in_err-below-in-Struct.field-0.0 in
    passed_on item_view p.0 f c.from_residual.result (keyed_members names inner ms) p.1 p.2
    (subst (λ r. ReportsFault f (fault_in r))
    (sym (with_keys names inner ms (sym c.has_keys.ensures ∙ c.if-not-has_keys.false)
    ∙ ap (λ r. and_then r (named_item (list_item_text (object (keys_in names ms))))) (item_struct c.args.inner.now c.in-Struct.fields c.in-Struct.field-1 c.deref.result.now names ms c.in-Struct.is c.deref.ensures.value)))
    (reports-and_then f _ (named_item (list_item_text (object (keys_in names ms)))) c.in_err-below-in-Struct.ensures))

pub read_keyed-returns-in_ok-below-in-Struct : goal.read_keyed-returns-in_ok-below-in-Struct
read_keyed-returns-in_ok-below-in-Struct t c =
    let names = names_in c.args.names.now in
    let ms = members_data (members_view c.args.members.now) in
    let inner : Members → Read Content = λ ms. content_of_item (shape c.args.inner.now) names ms in
    let made = content c.in_ok-below-in-Struct.below in
    let read : content_of_item (shape c.args.inner.now) names ms ≡ Ok made = item_struct c.args.inner.now c.in-Struct.fields c.in-Struct.field-1 c.deref.result.now names ms c.in-Struct.is c.deref.ensures.value ∙ c.in_ok-below-in-Struct.ensures in
    subst (Returns item_view c.list_item.result)
    (sym (with_keys names inner ms (sym c.has_keys.ensures ∙ c.if-not-has_keys.false) ∙ ap (λ r. and_then r (named_item (list_item_text (object (keys_in names ms))))) read))
    c.list_item.ensures

pub read_borrowed-read_list-requires : goal.read_borrowed-read_list-requires
read_borrowed-read_list-requires t c =
    let deep = array_depth (data_of (value_view c.args.value.now)) (items_data (items_view c.in-Some-as_array.items.now)) c.in-Some-as_array.ensures.value in
    let top = c.decreases in
    (omega (arith, deep, top), c.in-Some-as_array.ensures.ordered c.requires)

pub read_borrowed-returns-in-Some-as_array : goal.read_borrowed-returns-in-Some-as_array
read_borrowed-returns-in-Some-as_array t c =
    subst (Returns content c.read_list.result)
    (sym (content_keyed c.args.schema.now c.in-List.inner c.in-List.kind c.in-Keyed.names c.deref-in-Some-as_array.result.now c.deref-in-Some-as_array-2.result.now (data_of (value_view c.args.value.now)) (items_data (items_view c.in-Some-as_array.items.now))
    c.in-List.is c.in-Keyed.is c.deref-in-Some-as_array.ensures c.deref-in-Some-as_array-2.ensures.value (ap (some_or WrongType) (sym c.in-Some-as_array.ensures.value))))
    c.read_list.ensures

pub read_borrowed-read_struct-requires : goal.read_borrowed-read_struct-requires
read_borrowed-read_struct-requires t c =
    let deep = object_depth (data_of (value_view c.args.value.now)) (members_data (members_view c.in-Some.members.now)) c.in-Some.ensures.value in
    let top = c.decreases in
    (omega (arith, deep, top), c.in-Some.ensures.ordered c.requires)

pub read_borrowed-read_values-requires : goal.read_borrowed-read_values-requires
read_borrowed-read_values-requires t c =
    let deep = object_depth (data_of (value_view c.args.value.now)) (members_data (members_view c.in-Some-as_object.members.now)) c.in-Some-as_object.ensures.value in
    let top = c.decreases in
    (omega (arith, deep, top), c.in-Some-as_object.ensures.ordered c.requires)

pub read_borrowed-returns-in-Some : goal.read_borrowed-returns-in-Some
read_borrowed-returns-in-Some t c =
    subst (Returns content c.read_struct.result)
    (sym (content_struct c.args.schema.now c.in-Struct.fields c.in-Struct.is_atomic c.deref.result.now (data_of (value_view c.args.value.now)) (members_data (members_view c.in-Some.members.now)) c.in-Struct.is c.if-is_atomic.false c.deref.ensures.value
    (ap (some_or NotAnObject) (sym c.in-Some.ensures.value))))
    c.read_struct.ensures
