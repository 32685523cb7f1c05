use Rattle.std.proofs.Common.{ap, ap₂, ◌∙◌}
use Rattle.std.specs.FinSet as set
use Rattle.pathmap.specs.Contents.{dom}
use Rattle.pathmap.specs.Maps.{content}
use Rattle.pathmap.proofs.Sets.{dom-over}
use Rattle.fieldset.proofs.fieldset.FieldSet.union.Goals as goal

pub returns : goal.returns
returns c = ap dom c.in_ok-put_under.ensures ∙ dom-over (content c.self.inside.map) (content c.other.inside.map) ∙ ap₂ set.union c.self.view_is c.other.view_is
