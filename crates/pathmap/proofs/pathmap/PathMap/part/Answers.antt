use Rattle.std.proofs.Common.{None, ap, sym, subst, ◌∙◌}
use Rattle.pathmap.specs.Contents.{gather, over}
use Rattle.pathmap.specs.Levels.{at_top, AreChildren}
use Rattle.pathmap.specs.Maps.{contents_in}
use Rattle.pathmap.specs.Parted.{has}
use Rattle.pathmap.proofs.Parting.{part-level, those_children}
use Rattle.pathmap.proofs.pathmap.PathMap.part.Goals as goal

pub invariant_of-result : goal.invariant_of-result
invariant_of-result c = subst AreChildren (sym c.keep_part.ensures) (those_children (has c.args.part c.args.name.now) (contents_in c.self.inside.below.items) c.self.invariant)

pub returns : goal.returns
returns c = ap (λ l. over (at_top None) (gather l)) c.keep_part.ensures ∙ part-level c.args.part c.args.name.now c.self.inside.held (contents_in c.self.inside.below.items) c.args.self c.self.view_is
