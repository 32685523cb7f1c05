use Rattle.std.proofs.Common.{ap, ap₂, sym, ◌∙◌, string_bytes}
use Rattle.std.proofs.lemmas.Result.{on_ok_weaker}
use Rattle.serde_json.specs.Data.{object}
use Rattle.serde_json.specs.Written.{compact_text, members_have_float}
use Rattle.json_texts.specs.Writing.{with_text}
use Rattle.schema.specs.Shape.{shape}
use Rattle.fieldset.specs.Below.{as_item, members_some}
use Rattle.fieldset.proofs.Clean.{under_clean}
use Rattle.fieldset.proofs.Walks.{held_marks, marks_in}
use Rattle.fieldset.proofs.fields_v1.write_by_value.Goals as goal

pub returns : goal.returns
returns c =
    let s = shape c.args.schema.now in
    let k = string_bytes c.args.name.now in
    let whole = marks_in c.args.map.now in
    let old = c.args.out.now in
    let members = c.in_ok-put_as_item.ensures ∙ ap₂ (as_item s) (c.is_some.ensures ∙ sym (held_marks c.args.map.now c.held.result c.held.ensures)) (c.in_ok-all.ensures ∙ ap (λ o. members_some o whole) c.schema_below.ensures) in
    on_ok_weaker c.object.result (λ written. written (ap members_have_float members ∙ under_clean s k whole) ∙ ap (λ ms. with_text (compact_text (object ms)) old) members) c.object.ensures
