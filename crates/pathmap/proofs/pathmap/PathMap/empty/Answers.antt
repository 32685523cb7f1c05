use Rattle.std.proofs.Common.{sym, ap, ◌∙◌, subst}
use Rattle.pathmap.specs.Contents.{nothing, over, gather}
use Rattle.pathmap.specs.Levels.{named, AreChildren, no_children}
use Rattle.pathmap.proofs.Contents.{nothing-over}
use Rattle.pathmap.proofs.pathmap.PathMap.empty.Goals as goal

pub invariant_of-result : goal.invariant_of-result
invariant_of-result c = subst (λ es. AreChildren (named es)) (sym c.new.ensures.items) no_children

pub returns : goal.returns
returns c = ap (λ es. over nothing (gather (named es))) c.new.ensures.items ∙ nothing-over nothing
