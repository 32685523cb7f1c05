use Rattle.std.proofs.Common.{ap, ◌∙◌}
use Rattle.fieldpath.specs.Elements.{field, name_text, read_element}
use Rattle.fieldpath.proofs.Texts.{name-read}
use Rattle.fieldpath.proofs.elem_text.ElemText.of_field.Goals as goal

pub returns : goal.returns
unfolding name_text
returns c = c.in_ok-prefixed.ensures

pub invariant_of-result : goal.invariant_of-result
unfolding name_text
invariant_of-result c = (field c.args.name.now, ap read_element c.in_ok-prefixed.ensures ∙ name-read c.args.name.now)
