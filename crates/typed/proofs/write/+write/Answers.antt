use Rattle.std.proofs.Common.{◌≡◌, [], ◌∷◌, ◌++◌, ◌+◌, drop, List, ℕ, OnOk, Some, None, ap, ap₂, refl, sym, subst, ◌∙◌, string_bytes, true≢false, option_map}
use Rattle.std.specs.Prelude.{◌&&◌}
use Rattle.std.proofs.lemmas.List.{drop_all}
use Rattle.json.specs.Print.{quoted}
use Rattle.fieldpath.specs.Elements.{name_text}
use Rattle.json_texts.specs.Writing.{with_text}
use Rattle.pathmap.specs.Insides.{heads, inside}
use Rattle.pathmap.specs.Maps.{content, content_or_nothing}
use Rattle.schema.specs.Shape.{fields_in, keyed, kind_of, list_of, map_of, shape, struct_of}
use Rattle.serde_json.specs.Data.{Data, member, no_members, object}
use Rattle.serde_json.specs.Written.{compact_text}
use Rattle.typed.specs.Between.{fields_between, is_above, is_below}
use Rattle.typed.specs.Printing.{print, print_item, value_at}
use Rattle.typed.specs.Rows.{FieldsFit, Fits, HasNoFloat, IsThere, item_of}
use Rattle.typed.specs.Writes.{with_fields, with_pair, with_pairs, with_value, with_items}
use Rattle.typed.proofs.Insides.{child_names, children-inside, heads-names}
use Rattle.typed.proofs.ItemTexts.{ItemFits, all_items, first_left, first_wrote, item_skipped, item_wrote, no_fields_below, none_left, then_wrote}
use Rattle.typed.proofs.ItemTexts as items
use Rattle.schema.proofs.Shapes.{shape-Struct}
use Rattle.typed.proofs.Prints.{at_place, one_inside, rest_inside}
use Rattle.typed.proofs.Rows.{fits_clean, fits_writable, struct_fits, values_fit}
use Rattle.typed.proofs.Wholes.{all_wrote, child_skipped, child_wrote, field_skipped, field_wrote, key_wrote, map_top, no_pair, scalar_top, struct_top, struct_wrote, values_wrote, weaker}
use Rattle.typed.proofs.Writes.{array_wrote, member_within, pair_wrote}
use Rattle.typed.proofs.write.+write.Goals as goal

pub write_list-returns-in-Atomic : goal.write_list-returns-in-Atomic
write_list-returns-in-Atomic t c = λ there.
    let s = list_of (shape c.args.inner.now) (kind_of c.args.kind.now) in
    let whole = content c.args.map.now in
    let top : value_at whole ≡ print s whole = ap (λ k. print (list_of (shape c.args.inner.now) k) whole) (sym (ap kind_of c.in-Atomic.is)) in
    subst (λ o. OnOk c.push_top.result (c.push_top.new.out ≡ with_value o c.args.out.now)) top (c.push_top.ensures (fits_writable s whole top there.0))

pub write_list-returns-in_ok-value-in_default : goal.write_list-returns-in_ok-value-in_default
write_list-returns-in_ok-value-in_default t c = λ there.
    let is = c.in_ok-value-in_default.ensures in
    let clean = subst HasNoFloat (sym is) (fits_clean (list_of (shape c.args.inner.now) (kind_of c.args.kind.now)) (content c.args.map.now) there.0) in
    subst (λ o. OnOk c.push_some.result (c.push_some.new.out ≡ with_value o c.args.out.now)) is (c.push_some.ensures clean)

pub write_keyed-returns : goal.write_keyed-returns
write_keyed-returns t c = λ there.
    let s = shape c.args.inner.now in
    let whole = content c.args.map.now in
    let wrote = c.in_ok-write_items.ensures there.0 ∙ ap (with_items (item_of s whole) (heads whole)) c.in_ok-begin_array.ensures in
    weaker c.end_array.result (λ closed. closed ∙ array_wrote (list_of s (keyed (c.args.name.now ∷ []))) whole there (item_of s whole) (heads whole) c.args.out.now c.write_items.new.out refl wrote) c.end_array.ensures

pub write_items-loop-element-init : goal.write_items-loop-element-init
write_items-loop-element-init t c =
    let n = c.args.name.now in
    let s = shape c.args.inner.now in
    let whole = content c.args.map.now in
    let all = c.children-children.result.now in
    let are = c.children-children.ensures in
    (children-inside whole all are, λ fits. first_wrote (ItemFits n s whole) (item_of s whole) whole all c.args.out.now are (all_items n s whole fits))

pub write_items-loop-element-preserved : goal.write_items-loop-element-preserved
write_items-loop-element-preserved t c =
    let n = c.args.name.now in
    let s = shape c.args.inner.now in
    let whole = content c.args.map.now in
    let all = c.children-children.result.now in
    let i = c.loop-element.element-index in
    let e = c.loop-element-item.result in
    let it = drop i all in
    let left = drop (i + 1) all in
    let steps = at_place all i e c.loop-element-test.true c.loop-element-item.is in
    let start = c.args.out.now in
    let out = c.loop-element.out in
    let has = sym c.keys_json.ensures ∙ ap (option_map (λ k. k.now)) c.in-Some.is in (
      rest_inside whole it left e steps c.loop-element.invariant.0,
      λ fits.
          let before = c.loop-element.invariant.1 fits in
          then_wrote (ItemFits n s whole) (item_of s whole) whole it left e steps start out before c.write_item.new.out
          (item_wrote n s whole (content e.1) (string_bytes e.0) c.in-Some.keys.now out c.write_item.new.out (one_inside whole it left e steps c.loop-element.invariant.0)
          (first_left (ItemFits n s whole) (item_of s whole) whole it left e steps start out before) has c.in_ok-write_item.ensures),
    )

pub write_items-loop-element-preserved-in_default : goal.write_items-loop-element-preserved-in_default
write_items-loop-element-preserved-in_default t c =
    let n = c.args.name.now in
    let s = shape c.args.inner.now in
    let whole = content c.args.map.now in
    let all = c.children-children.result.now in
    let i = c.loop-element.element-index in
    let e = c.loop-element-item.result in
    let it = drop i all in
    let left = drop (i + 1) all in
    let steps = at_place all i e c.loop-element-test.true c.loop-element-item.is in
    let out = c.loop-element.out in
    let has = sym c.keys_json.ensures ∙ ap (option_map (λ k. k.now)) c.in_default.is in (
      rest_inside whole it left e steps c.loop-element.invariant.0,
      λ fits. then_wrote (ItemFits n s whole) (item_of s whole) whole it left e steps c.args.out.now out (c.loop-element.invariant.1 fits) out (item_skipped s whole (string_bytes e.0) out has),
    )

pub write_items-returns : goal.write_items-returns
write_items-returns t c = λ fits.
    let s = shape c.args.inner.now in
    let whole = content c.args.map.now in
    let all = c.children-children.result.now in
    let i = c.loop-element.element-index in
    items.all_wrote (ItemFits c.args.name.now s whole) (item_of s whole) whole (drop i all) c.args.out.now c.loop-element.out (drop_all i all c.loop-element-test.false) (c.loop-element.invariant.1 fits)

pub write_item-returns-in-Struct : goal.write_item-returns-in-Struct
write_item-returns-in-Struct t c =
    let n = c.args.name.now in
    let below = content c.args.below.now in
    let same = ap shape c.in-Struct.is ∙ shape-Struct c.in-Struct.fields c.in-Struct.field-1 ∙ ap (λ fs. struct_of (fields_in fs) c.in-Struct.field-1) (sym c.deref.ensures.value) in
    subst
    (λ s. (d : Data) → c.args.keys.now ≡ compact_text (object (member n d no_members)) → FieldsFit n s below
    → OnOk c.write_object.result (c.write_object.new.out ≡ with_text (compact_text (object (print_item s below (member n d no_members)))) c.args.out.now))
    (sym same) c.write_object.ensures

pub write_object-returns-then-children-eq0 : goal.write_object-returns-then-children-eq0
write_object-returns-then-children-eq0 t c = λ d is fit.
    let below = content c.args.below.now in
    let alone = no_fields_below (fields_in c.args.fields.now) below c.children.result.now (member c.args.name.now d no_members) c.children.ensures (none_left c.children.result.now c.if-children-eq0.true) in
    let whole = is ∙ ap (λ ms. compact_text (object ms)) (sym alone) in
    weaker c.raw.result (λ wrote. wrote ∙ ap (λ t. with_text t c.args.out.now) whole) c.raw.ensures

pub write_object-returns : goal.write_object-returns
write_object-returns t c = λ d is fit.
    let n = c.args.name.now in
    let all = fields_in c.args.fields.now in
    let below = content c.args.below.now in
    let lower = c.in_ok-write_fields.ensures fit.0 ∙ ap (with_fields (fields_between None (Some n) all) below) c.in_ok-begin_object.ensures in
    let within = c.within_braces.ensures (quoted n ++ 58 ∷ compact_text d) (member_within n c.args.keys.now d is) in
    let key = c.in_ok-raw.ensures ∙ ap (λ t. with_text t c.write_fields.new.out) within in
    weaker c.end_object.result
    (λ closed. closed ∙ key_wrote n d all below c.args.out.now c.write_fields.new.out c.raw-2.new.self c.write_fields-2.new.out fit lower key (c.in_ok-write_fields-2.ensures fit.0))
    c.end_object.ensures

pub write_member-returns-then-is_bare : goal.write_member-returns-then-is_bare
write_member-returns-then-is_bare t c = λ fits. no_pair (shape c.args.inner.now) (content c.args.below.now) c.args.name.now c.args.out.now (c.is_bare.ensures.0 c.if-is_bare.true)

pub write_member-returns : goal.write_member-returns
write_member-returns t c = λ fits.
    let s = shape c.args.inner.now in
    let below = content c.args.below.now in
    let there : IsThere s below = (fits, λ bare. true≢false (sym (c.is_bare.ensures.1 bare) ∙ c.if-is_bare.false)) in
    weaker c.write_content.result (λ wrote. wrote ∙ ap (with_value (print s below)) c.in_ok-name.ensures ∙ pair_wrote s below there c.args.name.now c.args.out.now) (c.write_content.ensures there)

pub write_fields-loop-name-preserved : goal.write_fields-loop-name-preserved
write_fields-loop-name-preserved t c =
    let f = c.loop-name-item.result in
    let whole = content c.args.map.now in
    let out = c.loop-name.out in
    let low = option_map (λ b. b.now) c.args.low in
    let high = option_map (λ b. b.now) c.args.high in
    let name = c.as_str-text.ensures.value in
    let between = sym (c.is_between.ensures ∙ ap (λ k. is_above low k && is_below high k) name) ∙ c.if-not-is_between.false in
    let found = sym (ap (λ o. content_or_nothing (option_map (λ m. m.now) o)) c.in-Some.is) ∙ c.field.ensures.inside ∙ ap (λ s. inside (name_text s) whole) name in
    field_wrote low high c.args.fields.now c.loop-name.name-index f c.loop-name-test.true c.loop-name-item.is whole c.args.out.now out c.loop-name.invariant c.write_member.new.out between
    (λ fits. c.in_ok-write_member.ensures (subst (Fits (shape f.1)) (sym found) fits) ∙ ap₂ (λ k d. with_pair k (print (shape f.1) d) out) name found)

pub write_fields-loop-name-preserved-in_default : goal.write_fields-loop-name-preserved-in_default
write_fields-loop-name-preserved-in_default t c =
    let f = c.loop-name-item.result in
    let whole = content c.args.map.now in
    let out = c.loop-name.out in
    let low = option_map (λ b. b.now) c.args.low in
    let high = option_map (λ b. b.now) c.args.high in
    let name = c.as_str-text.ensures.value in
    let between = sym (c.is_between.ensures ∙ ap (λ k. is_above low k && is_below high k) name) ∙ c.if-not-is_between.false in
    let bare = ap (λ s. inside (name_text s) whole) (sym name) ∙ sym c.field.ensures.inside ∙ ap (λ o. content_or_nothing (option_map (λ m. m.now) o)) c.in_default.is in
    field_wrote low high c.args.fields.now c.loop-name.name-index f c.loop-name-test.true c.loop-name-item.is whole c.args.out.now out c.loop-name.invariant out between
    (λ fits. no_pair (shape f.1) (inside (name_text (string_bytes f.0)) whole) (string_bytes f.0) out bare)

pub write_fields-loop-name-preserved-then-not-is_between : goal.write_fields-loop-name-preserved-then-not-is_between
write_fields-loop-name-preserved-then-not-is_between t c =
    let f = c.loop-name-item.result in
    let low = option_map (λ b. b.now) c.args.low in
    let high = option_map (λ b. b.now) c.args.high in
    let past = sym (c.is_between.ensures ∙ ap (λ k. is_above low k && is_below high k) c.as_str-text.ensures.value) ∙ c.if-not-is_between.true in
    field_skipped low high c.args.fields.now c.loop-name.name-index f c.loop-name-test.true c.loop-name-item.is (content c.args.map.now) c.args.out.now c.loop-name.out c.loop-name.invariant past

pub write_fields-returns : goal.write_fields-returns
write_fields-returns t c = λ fit.
    all_wrote (option_map (λ b. b.now) c.args.low) (option_map (λ b. b.now) c.args.high) c.args.fields.now c.loop-name.name-index (content c.args.map.now) c.args.out.now c.loop-name.out c.loop-name-test.false
    c.loop-name.invariant fit

pub write_children-loop-element-init : goal.write_children-loop-element-init
write_children-loop-element-init t c =
    let s = shape c.args.inner.now in
    let whole = content c.args.map.now in
    let all = c.children-children.result.now in
    let are = c.children-children.ensures in
    (children-inside whole all are, λ fits. ap (λ hs. with_pairs (λ e. print s (inside e whole)) hs c.args.out.now) (sym (heads-names whole all are)))

pub write_children-loop-element-preserved : goal.write_children-loop-element-preserved
write_children-loop-element-preserved t c =
    let whole = content c.args.map.now in
    let s = shape c.args.inner.now in
    let inner = λ (e : List ℕ). print s (inside e whole) in
    let all = c.children-children.result.now in
    let i = c.loop-element.element-index in
    let e = c.loop-element-item.result in
    let it = drop i all in
    let left = drop (i + 1) all in
    let steps = at_place all i e c.loop-element-test.true c.loop-element-item.is in
    let out = c.loop-element.out in
    let named = sym c.field_name.ensures ∙ ap (option_map (λ n. n.now)) c.in-Some.is in
    let below = one_inside whole it left e steps c.loop-element.invariant.0 in (
      rest_inside whole it left e steps c.loop-element.invariant.0,
      λ fits. child_wrote inner it left e steps out _ (c.loop-element.invariant.1 fits) c.in-Some.name.now c.write_member.new.out named
          (c.in_ok-write_member.ensures (subst (Fits s) below (fits (string_bytes e.0))) ∙ ap (λ d. with_pair c.in-Some.name.now (print s d) out) (sym below)),
    )

pub write_children-loop-element-preserved-in_default : goal.write_children-loop-element-preserved-in_default
write_children-loop-element-preserved-in_default t c =
    let whole = content c.args.map.now in
    let s = shape c.args.inner.now in
    let inner = λ (e : List ℕ). print s (inside e whole) in
    let all = c.children-children.result.now in
    let i = c.loop-element.element-index in
    let e = c.loop-element-item.result in
    let it = drop i all in
    let left = drop (i + 1) all in
    let steps = at_place all i e c.loop-element-test.true c.loop-element-item.is in
    let named = sym c.field_name.ensures ∙ ap (option_map (λ n. n.now)) c.in_default.is in (
      rest_inside whole it left e steps c.loop-element.invariant.0,
      λ fits. child_skipped inner it left e steps c.loop-element.out _ (c.loop-element.invariant.1 fits) named,
    )

pub write_children-returns : goal.write_children-returns
write_children-returns t c = λ fits.
    let whole = content c.args.map.now in
    let s = shape c.args.inner.now in
    let inner = λ (e : List ℕ). print s (inside e whole) in
    let all = c.children-children.result.now in
    let i = c.loop-element.element-index in
    sym (ap (λ l. with_pairs inner (child_names l) c.loop-element.out) (drop_all i all c.loop-element-test.false)) ∙ c.loop-element.invariant.1 fits

pub write_struct-returns-then-is_atomic : goal.write_struct-returns-then-is_atomic
write_struct-returns-then-is_atomic t c = λ there.
    let all = fields_in c.args.fields.now in
    let whole = content c.args.map.now in
    let top = struct_top all c.args.is_atomic whole c.if-is_atomic.true in
    subst (λ o. OnOk c.push_top.result (c.push_top.new.out ≡ with_value o c.args.out.now)) top (c.push_top.ensures (fits_writable (struct_of all c.args.is_atomic) whole top there.0))

pub write_struct-returns : goal.write_struct-returns
write_struct-returns t c = λ there.
    let all = fields_in c.args.fields.now in
    let whole = content c.args.map.now in
    let wrote = c.in_ok-write_fields.ensures (struct_fits all c.args.is_atomic whole c.if-is_atomic.false there.0) ∙ ap (with_fields (fields_between None None all) whole) c.in_ok-begin_object.ensures in
    weaker c.end_object.result (λ closed. closed ∙ struct_wrote all c.args.is_atomic whole c.args.out.now c.write_fields.new.out c.if-is_atomic.false there wrote) c.end_object.ensures

pub write_map_of-returns-then-is_atomic : goal.write_map_of-returns-then-is_atomic
write_map_of-returns-then-is_atomic t c = λ there.
    let s = shape c.args.inner.now in
    let whole = content c.args.map.now in
    let top = map_top s c.args.is_atomic whole c.if-is_atomic.true in
    subst (λ o. OnOk c.push_top.result (c.push_top.new.out ≡ with_value o c.args.out.now)) top (c.push_top.ensures (fits_writable (map_of s c.args.is_atomic) whole top there.0))

pub write_map_of-returns : goal.write_map_of-returns
write_map_of-returns t c = λ there.
    let s = shape c.args.inner.now in
    let whole = content c.args.map.now in
    let wrote = c.in_ok-write_children.ensures (values_fit s c.args.is_atomic whole c.if-is_atomic.false there.0) ∙ ap (with_pairs (λ e. print s (inside e whole)) (heads whole)) c.in_ok-begin_object.ensures in
    weaker c.end_object.result (λ closed. closed ∙ values_wrote s c.args.is_atomic whole c.args.out.now c.write_children.new.out c.if-is_atomic.false there wrote) c.end_object.ensures

pub write_content-returns-in-Struct : goal.write_content-returns-in-Struct
write_content-returns-in-Struct t c =
    let whole = content c.args.map.now in
    let same = ap shape c.in-Struct.is ∙ shape-Struct c.in-Struct.fields c.in-Struct.is_atomic ∙ ap (λ fs. struct_of (fields_in fs) c.in-Struct.is_atomic) (sym c.deref.ensures.value) in
    subst (λ s. IsThere s whole → OnOk c.write_struct.result (c.write_struct.new.out ≡ with_value (print s whole) c.args.out.now)) (sym same) c.write_struct.ensures

pub write_content-returns-in-Text : goal.write_content-returns-in-Text
write_content-returns-in-Text t c = λ there.
    let whole = content c.args.map.now in
    let top = scalar_top c.args.schema.now whole c.in-Text.is in
    subst (λ o. OnOk c.push_top.result (c.push_top.new.out ≡ with_value o c.args.out.now)) top (c.push_top.ensures (fits_writable (shape c.args.schema.now) whole top there.0))
