use Rattle.std.proofs.Common.{ap, sym, ◌∙◌}
use Rattle.pathmap.specs.Contents.{dom}
use Rattle.pathmap.specs.Maps.{content}
use Rattle.pathmap.proofs.Sets.{dom-nothing, dom_empty}
use Rattle.fieldset.proofs.fieldset.FieldSet.is_empty.Goals as goal

pub returns : goal.returns
returns c = (λ t. sym c.self.view_is ∙ ap dom (c.is_bare.ensures.0 t) ∙ dom-nothing, λ e. c.is_bare.ensures.1 (dom_empty (content c.self.inside.map) (c.self.view_is ∙ e)))
