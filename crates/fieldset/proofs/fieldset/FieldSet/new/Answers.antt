use Rattle.std.proofs.Common.{ap, ◌∙◌}
use Rattle.pathmap.specs.Contents.{dom}
use Rattle.pathmap.proofs.Sets.{dom-nothing}
use Rattle.fieldset.proofs.fieldset.FieldSet.new.Goals as goal

pub returns : goal.returns
returns c = ap dom c.empty.ensures ∙ dom-nothing
