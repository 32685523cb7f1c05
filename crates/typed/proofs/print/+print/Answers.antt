use Rattle.std.proofs.Common.{◌≡◌, ℕ, ◌+◌, List, drop, ap, ap₂, sym, subst, ◌∙◌, Some, option_map, IfOk, OnOk, string_bytes}
use Rattle.std.proofs.lemmas.List.{drop_all}
use Rattle.serde_json.specs.Data.{object, Members}
use Rattle.serde_json.specs.View.{view, members_view}
use Rattle.pathmap.specs.Contents.{Content}
use Rattle.pathmap.specs.Maps.{content, content_or_nothing}
use Rattle.pathmap.specs.Insides.{inside}
use Rattle.schema.specs.Shape.{struct_of, shape, fields_in}
use Rattle.fieldpath.specs.Elements.{name_text}
use Rattle.typed.specs.Printing.{each_member, keys_in, print, print_item, print_fields, with_member}
use Rattle.typed.proofs.Insides.{child_names, children-inside, heads-names}
use Rattle.schema.proofs.Shapes.{shape-Struct}
use Rattle.typed.proofs.Prints.{at_place, print-nothing, fields_more, items_first, items_more, items_last, members_more, one_inside, rest_inside}
use Rattle.typed.proofs.print.+print.Goals as goal

pub print_keyed-returns : goal.print_keyed-returns
print_keyed-returns t c =
    let made = λ (ms : Members). object (print_item (shape c.args.inner.now) (content c.args.map.now) ms) in
    ap Some (c.from.ensures ∙ ap object c.in_ok-put_item.ensures)
    ∙ ap (option_map made) (sym (ap (option_map (λ m. members_view m.entries)) c.in-Some.is) ∙ c.in_ok-members.ensures)

pub put_fields-loop-name-preserved : goal.put_fields-loop-name-preserved
put_fields-loop-name-preserved t c =
    let name = c.as_str-text.ensures.value in
    let inner = shape c.loop-name-item.result.1 in
    let ms = members_view c.loop-name.members.entries in
    let found = sym (ap (λ o. content_or_nothing (option_map (λ m. m.now) o)) c.in-Some.is) ∙ c.field.ensures.inside ∙ ap (λ s. inside (name_text s) (content c.args.map.now)) name in
    fields_more c.args.fields.now c.loop-name.name-index c.loop-name-item.result c.loop-name-test.true c.loop-name-item.is (content c.args.map.now) ms (members_view c.put_member.new.members.entries)
    (c.in_ok-put_member.ensures ∙ ap₂ (λ s o. with_member s o ms) name (c.in_ok-value.ensures ∙ ap (print inner) found))
    ∙ c.loop-name.invariant

pub print_items-loop-element-init : goal.print_items-loop-element-init
print_items-loop-element-init t c =
    let whole = content c.args.map.now in
    let inner = λ (e : List ℕ). option_map (λ ms. object (print_item (shape c.args.inner.now) (inside e whole) ms)) (keys_in e) in
    let all = c.children-children.result.now in
    (items_first inner whole c.new-items.result.items all c.new-items.ensures.items c.children-children.ensures, children-inside whole all c.children-children.ensures)

pub print_items-loop-element-preserved : goal.print_items-loop-element-preserved
print_items-loop-element-preserved t c =
    let whole = content c.args.map.now in
    let item_at = λ (d : Content). λ (e : List ℕ). option_map (λ ms. object (print_item (shape c.args.inner.now) d ms)) (keys_in e) in
    let inner = λ (e : List ℕ). item_at (inside e whole) e in
    let all = c.children-children.result.now in
    let i = c.loop-element.element-index in
    let e = c.loop-element-item.result in
    let it = drop i all in
    let left = drop (i + 1) all in
    let steps = at_place all i e c.loop-element-test.true c.loop-element-item.is in (
      items_more inner whole it left e c.loop-element.items.items steps c.loop-element.invariant.0 c.in_ok-item.item c.push_item.new.items.items
          (c.in_ok-item.ensures ∙ ap (λ d. item_at d (string_bytes e.0)) (sym (one_inside whole it left e steps c.loop-element.invariant.1))) c.in_ok-push_item.ensures,
      rest_inside whole it left e steps c.loop-element.invariant.1,
    )

pub print_items-returns : goal.print_items-returns
print_items-returns t c =
    let inner = λ (e : List ℕ). option_map (λ ms. object (print_item (shape c.args.inner.now) (inside e (content c.args.map.now)) ms)) (keys_in e) in
    let all = c.children-children.result.now in
    let i = c.loop-element.element-index in
    items_last inner (content c.args.map.now) c.loop-element.items.items (drop i all) (drop_all i all c.loop-element-test.false) c.loop-element.invariant.0

pub put_each-loop-element-init : goal.put_each-loop-element-init
put_each-loop-element-init t c =
    let whole = content c.args.map.now in
    let inner = λ (e : List ℕ). print (shape c.args.inner.now) (inside e whole) in
    let all = c.children-children.result.now in
    (ap (λ hs. each_member inner hs (members_view c.args.members.now.entries)) (sym (heads-names whole all c.children-children.ensures)), children-inside whole all c.children-children.ensures)

pub put_each-loop-element-preserved : goal.put_each-loop-element-preserved
put_each-loop-element-preserved t c =
    let whole = content c.args.map.now in
    let inner = λ (e : List ℕ). print (shape c.args.inner.now) (inside e whole) in
    let all = c.children-children.result.now in
    let i = c.loop-element.element-index in
    let e = c.loop-element-item.result in
    let it = drop i all in
    let left = drop (i + 1) all in
    let steps = at_place all i e c.loop-element-test.true c.loop-element-item.is in
    let below = one_inside whole it left e steps c.loop-element.invariant.1 in (
      members_more inner it left e (option_map view c.in_ok-value.value) (members_view c.loop-element.members.entries) (members_view c.put_named.new.members.entries) steps
          (c.in_ok-value.ensures ∙ ap (print (shape c.args.inner.now)) (sym below)) c.in_ok-put_named.ensures
          ∙ c.loop-element.invariant.0,
      rest_inside whole it left e steps c.loop-element.invariant.1,
    )

pub put_each-returns : goal.put_each-returns
put_each-returns t c =
    let inner = λ (e : List ℕ). print (shape c.args.inner.now) (inside e (content c.args.map.now)) in
    let all = c.children-children.result.now in
    let i = c.loop-element.element-index in
    ap (λ l. each_member inner (child_names l) (members_view c.loop-element.members.entries)) (sym (drop_all i all c.loop-element-test.false)) ∙ c.loop-element.invariant.0

pub put_fields-loop-name-preserved-in_default : goal.put_fields-loop-name-preserved-in_default
put_fields-loop-name-preserved-in_default t c =
    let name = string_bytes c.loop-name-item.result.0 in
    let inner = shape c.loop-name-item.result.1 in
    let ms = members_view c.loop-name.members.entries in
    let whole = content c.args.map.now in
    let bare = ap (λ s. inside (name_text s) whole) (sym c.as_str-text.ensures.value) ∙ sym c.field.ensures.inside ∙ ap (λ o. content_or_nothing (option_map (λ m. m.now) o)) c.in_default.is in
    fields_more c.args.fields.now c.loop-name.name-index c.loop-name-item.result c.loop-name-test.true c.loop-name-item.is whole ms ms
    (sym (ap (λ o. with_member name o ms) (ap (print inner) bare ∙ print-nothing inner)))
    ∙ c.loop-name.invariant

pub put_item-returns-in-Struct : goal.put_item-returns-in-Struct
put_item-returns-in-Struct t c =
    let whole = content c.args.map.now in
    let start = members_view c.args.members.now.entries in
    subst (λ ms. OnOk c.put_fields.result (members_view c.put_fields.new.members.entries ≡ ms))
    (ap (λ fs. print_fields (fields_in fs) whole start) c.deref.ensures.value
    ∙ sym (ap (λ s. print_item (shape s) whole start) c.in-Struct.is ∙ ap (λ s. print_item s whole start) (shape-Struct c.in-Struct.fields c.in-Struct.field-1))) c.put_fields.ensures

pub print_map-returns-in-Struct : goal.print_map-returns-in-Struct
print_map-returns-in-Struct t c =
    let whole = content c.args.map.now in
    subst (λ d. IfOk c.print_struct.result (λ o. option_map view o ≡ d))
    (ap (λ fs. print (struct_of (fields_in fs) c.in-Struct.is_atomic) whole) c.deref.ensures.value
    ∙ sym (ap (λ s. print (shape s) whole) c.in-Struct.is ∙ ap (λ s. print s whole) (shape-Struct c.in-Struct.fields c.in-Struct.is_atomic))) c.print_struct.ensures
