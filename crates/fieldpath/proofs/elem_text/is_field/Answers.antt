use Rattle.std.proofs.Common.{◌∙◌, drop}
use Rattle.fieldpath.specs.Elements.{is_field_text}
use Rattle.fieldpath.proofs.Texts.{some-if}
use Rattle.fieldpath.proofs.elem_text.is_field.Goals as goal

pub returns : goal.returns
returns c = c.is_some.ensures ∙ some-if c.rest_after.result (is_field_text c.args.text.now) (drop 2 c.args.text.now) c.rest_after.ensures
