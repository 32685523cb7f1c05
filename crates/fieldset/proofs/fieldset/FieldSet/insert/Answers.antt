use Rattle.std.proofs.Common.{ap, ◌∙◌}
use Rattle.std.specs.FinSet as set
use Rattle.pathmap.specs.Contents.{dom, mark}
use Rattle.pathmap.specs.Maps.{content}
use Rattle.pathmap.proofs.Inserting.{on_ok}
use Rattle.pathmap.proofs.Sets.{dom-insert}
use Rattle.fieldset.proofs.fieldset.FieldSet.insert.Goals as goal

pub returns-clause-ok : goal.returns-clause-ok
returns-clause-ok c =
    on_ok c.insert.result _ _ (λ did. ap dom did ∙ dom-insert (content c.self.inside.map) c.args.path.now mark ∙ ap (λ s. set.insert s c.args.path.now) c.self.view_is) c.insert.ensures.ok
