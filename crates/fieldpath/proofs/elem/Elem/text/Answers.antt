use Rattle.std.proofs.Common.{◌∷◌, sym, ap, ◌∙◌}
use Rattle.fieldpath.specs.Elements.{element_text, name_text, key_text, scalar_text}
use Rattle.fieldpath.specs.ElementViews.{element}
use Rattle.fieldpath.proofs.Texts.{prefixed_as}
use Rattle.fieldpath.proofs.elem.Elem.text.Goals as goal

pub returns-in-Field : goal.returns-in-Field
unfolding name_text
returns-in-Field c = prefixed_as c.prefixed.result _ _ (ap (λ s. 102 ∷ 58 ∷ s) c.as_str.ensures.value ∙ ap (λ e. element_text (element e)) (sym c.in-Field.is)) c.prefixed.ensures

pub returns-in_ok-json-in-Key : goal.returns-in_ok-json-in-Key
unfolding key_text
returns-in_ok-json-in-Key c =
    prefixed_as c.prefixed-in-Key.result _ _ (ap (λ s. 107 ∷ 58 ∷ s) (c.as_str-in-Key.ensures.value ∙ c.in_ok-json-in-Key.ensures) ∙ ap (λ e. element_text (element e)) (sym c.in-Key.is)) c.prefixed-in-Key.ensures

pub returns-in_ok-json-in-Value : goal.returns-in_ok-json-in-Value
unfolding scalar_text
returns-in_ok-json-in-Value c =
    prefixed_as c.prefixed-in-Value.result _ _ (ap (λ s. 118 ∷ 58 ∷ s) (c.as_str-in-Value.ensures.value ∙ c.in_ok-json-in-Value.ensures) ∙ ap (λ e. element_text (element e)) (sym c.in-Value.is)) c.prefixed-in-Value.ensures
