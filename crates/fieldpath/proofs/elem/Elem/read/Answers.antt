use Rattle.std.proofs.Common.{option_map, sym, ap, ◌∙◌}
use Rattle.fieldpath.specs.Elements.{field}
use Rattle.std.proofs.Common.{Ok}
use Rattle.fieldpath.proofs.Texts.{read-field, read-key, read-value, read-none, gives-as, not_some}
use Rattle.fieldpath.proofs.elem.Elem.read.Goals as goal

pub returns-in-Some : goal.returns-in-Some
returns-in-Some c =
    read-field c.args.text.now c.in-Some.name.now (ap (option_map (λ s. s.now)) (sym c.in-Some.is) ∙ c.rest_after.ensures)
    ∙ ap (λ s. Ok (field s)) (sym c.in_ok-from_str.ensures.ok)

pub returns-in-Some-rest_after : goal.returns-in-Some-rest_after
returns-in-Some-rest_after c =
    gives-as c.read_key.result _ _
    (read-key c.args.text.now c.in-Some-rest_after.json.now (not_some c.rest_after.result _ c.in_default.not-Some c.rest_after.ensures)
    (ap (option_map (λ s. s.now)) (sym c.in-Some-rest_after.is) ∙ c.rest_after-2.ensures))
    c.read_key.ensures

pub returns-in-Some-rest_after-2 : goal.returns-in-Some-rest_after-2
returns-in-Some-rest_after-2 c =
    gives-as c.read_value.result _ _
    (read-value c.args.text.now c.in-Some-rest_after-2.json.now (not_some c.rest_after.result _ c.in_default.not-Some c.rest_after.ensures)
    (not_some c.rest_after-2.result _ c.in_default-rest_after.not-Some c.rest_after-2.ensures)
    (ap (option_map (λ s. s.now)) (sym c.in-Some-rest_after-2.is) ∙ c.rest_after-3.ensures))
    c.read_value.ensures

pub returns : goal.returns
returns c =
    read-none c.args.text.now (not_some c.rest_after.result _ c.in_default.not-Some c.rest_after.ensures)
    (not_some c.rest_after-2.result _ c.in_default-rest_after.not-Some c.rest_after-2.ensures)
    (not_some c.rest_after-3.result _ c.in_default-rest_after-2.not-Some c.rest_after-3.ensures)
