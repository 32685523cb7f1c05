use Rattle.std.proofs.Common.{ap, ◌∙◌, drop}
use Rattle.fieldpath.specs.Elements.{field, read_element}
use Rattle.fieldpath.proofs.Texts.{field-read}
use Rattle.fieldpath.proofs.elem_text.ElemText.of_field_text.Goals as goal

pub invariant_of-result : goal.invariant_of-result
invariant_of-result c = (field (drop 2 c.args.text.now), ap read_element c.in_ok-from_str.ensures.ok ∙ field-read c.args.text.now c.requires)

pub returns : goal.returns
returns c = (c.in_ok-from_str.ensures.ok, (field (drop 2 c.args.text.now), field-read c.args.text.now c.requires))
