use Rattle.std.proofs.Common.{drop}
use Rattle.std.specs.List.{AllByRecursion}
use Rattle.pathmap.specs.Insides.{heads}
use Rattle.pathmap.specs.Maps.{content}
use Rattle.typed.specs.Printing.{scalar_in}
use Rattle.typed.specs.Rows.{IsScalarElement}
use Rattle.typed.proofs.ItemTexts.{Wrote}
use Rattle.typed.proofs.write_items.push_scalars.Given as goal

-- what is there with what is left is all
abbrev pub invariant-loop-element : goal.invariant-loop-element
invariant-loop-element l = AllByRecursion IsScalarElement (heads (content l.map)) → Wrote IsScalarElement scalar_in (content l.map) (drop l.element-index l.children) l.fn.out l.out
