use Rattle.std.proofs.Common.{sym, ap, ◌∙◌, subst}
use Rattle.pathmap.specs.Contents.{here, over, gather}
use Rattle.pathmap.specs.Levels.{named, leaf_value, AreChildren, no_children}
use Rattle.pathmap.proofs.Contents.{over-nothing}
use Rattle.pathmap.proofs.pathmap.PathMap.leaf.Goals as goal

pub invariant_of-result : goal.invariant_of-result
invariant_of-result c = subst (λ es. AreChildren (named es)) (sym c.new.ensures.items) no_children

pub returns : goal.returns
returns c = let top = here (leaf_value c.args.held) in ap (λ es. over top (gather (named es))) c.new.ensures.items ∙ over-nothing top
