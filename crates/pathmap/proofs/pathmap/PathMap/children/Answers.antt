use Rattle.std.proofs.Common.{map, ap, ◌∙◌}
use Rattle.pathmap.specs.Insides.{heads, inside}
use Rattle.pathmap.specs.Maps.{contents_in}
use Rattle.pathmap.proofs.Children.{children_are}
use Rattle.pathmap.proofs.pathmap.PathMap.children.Goals as goal

pub returns : goal.returns
returns c =
    ap contents_in c.deref.ensures.value ∙ children_are c.self.inside.held (contents_in c.self.inside.below.items) c.self.invariant
    ∙ ap (λ m. map (λ f. (f, inside f m)) (heads m)) c.self.view_is
