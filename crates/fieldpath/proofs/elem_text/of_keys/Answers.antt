use Rattle.std.proofs.Common.{◌∷◌, string_bytes, subst, sym, ap, ◌∙◌}
use Rattle.serde_json.specs.View.{view}
use Rattle.fieldpath.specs.Elements.{IsElementText}
use Rattle.fieldpath.proofs.ElemTexts.{keys_printed}
use Rattle.fieldpath.proofs.elem_text.of_keys.Goals as goal

pub returns : goal.returns
returns c =
    let printed = keys_printed (view c.args.keys.now) (string_bytes c.in_ok-json.json) c.requires c.in_ok-json.ensures.text c.in_ok-json.ensures.reads_back in
    c.in_ok-text.ensures ∙ ap (λ t. 107 ∷ 58 ∷ t) (c.as_str.ensures.value ∙ printed.0)

pub invariant_of-result : goal.invariant_of-result
invariant_of-result c =
    let printed = keys_printed (view c.args.keys.now) (string_bytes c.in_ok-json.json) c.requires c.in_ok-json.ensures.text c.in_ok-json.ensures.reads_back in
    subst IsElementText (sym (c.in_ok-text.ensures ∙ ap (λ t. 107 ∷ 58 ∷ t) c.as_str.ensures.value)) printed.1
