use Rattle.std.proofs.Common.{[], ap, sym, ◌∙◌}
use Rattle.std.specs.FinMap as fin
use Rattle.pathmap.specs.Maps.{contents_in}
use Rattle.pathmap.proofs.Finding.{held-map}
use Rattle.pathmap.proofs.Levels.{get-level-top}
use Rattle.pathmap.proofs.pathmap.PathMap.held.Goals as goal

pub returns : goal.returns
returns c =
    held-map c.as_ref.result c.self.inside.held c.as_ref.ensures.value ∙ sym (get-level-top c.self.inside.held (contents_in c.self.inside.below.items)) ∙ ap (λ m. fin.get m []) c.self.view_is
