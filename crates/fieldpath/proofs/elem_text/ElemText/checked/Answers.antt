use Rattle.std.proofs.Common.{ap, ◌∙◌}
use Rattle.fieldpath.specs.Elements.{read_element}
use Rattle.fieldpath.specs.ElementViews.{element}
use Rattle.fieldpath.proofs.elem_text.ElemText.checked.Goals as goal

pub invariant_of-result : goal.invariant_of-result
invariant_of-result c = (element c.in_ok-read.field-0, ap read_element c.in_ok-from_str.ensures.ok ∙ c.in_ok-read.ensures)
