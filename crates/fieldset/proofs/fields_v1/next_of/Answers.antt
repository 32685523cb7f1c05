use Rattle.std.proofs.Common.{◌≡◌, false, cond, string_bytes, Ok, None, is_some, option_map, sym, subst, ap, ◌∙◌, refl, true≢false}
use Rattle.fieldpath.specs.Elements.{Element}
use Rattle.fieldpath.specs.Elements as element
use Rattle.fieldpath.specs.ElementViews as elems
use Rattle.fieldpath.proofs.Texts.{read-field}
use Rattle.schema.proofs.Steps.{name_in, name-of}
use Rattle.schema.specs.TypeRefs.{type_ref}
use Rattle.schema.specs.Steps.{TypeRef, map_item, set_item, value_of}
use Rattle.fieldset.specs.FieldsV1.{and_then, element_in, is_key_field}
use Rattle.fieldset.specs.Views.{Returns, next_at, stepped}
use Rattle.fieldset.proofs.fields_v1.next_of.Goals as goal

-- an element that is no field is that of no key field
no_key_field : (s : TypeRef) (e : Element) → name_in (Ok e) ≡ None → is_key_field s e ≡ false
no_key_field (value_of s) e none = refl
no_key_field set_item e none = refl
no_key_field (map_item names all) (element.field f) none = absurd (true≢false (ap is_some none))
no_key_field (map_item names all) (element.key ks) none = refl
no_key_field (map_item names all) (element.value v) none = refl

pub returns-in-Some : goal.returns-in-Some
returns-in-Some c =
    subst (λ r. Returns (option_map type_ref) c.next_field.result (and_then (element_in r) (next_at (type_ref c.args.here)))) (sym (read-field (string_bytes c.args.element.now) c.in-Some.name.now c.in-Some.ensures)) c.next_field.ensures

pub returns-in_ok-elem-in-None : goal.returns-in_ok-elem-in-None
returns-in_ok-elem-in-None c =
    let s = type_ref c.args.here in
    let t = string_bytes c.args.element.now in
    let e = elems.element c.in_ok-elem-in-None.field-0 in
    let read = c.in_ok-elem-in-None.ensures in
    let none = ap name_in (sym read) ∙ sym (name-of t) ∙ sym c.in-None.ensures in
    subst (Returns (option_map type_ref) c.next_elem.result) (sym (ap (λ r. and_then (element_in r) (next_at s)) read ∙ ap (λ b. cond b (Ok None) (stepped s e)) (no_key_field s e none))) c.next_elem.ensures
