use Rattle.std.proofs.Common.{drop}
use Rattle.pathmap.specs.Maps.{content}
use Rattle.typed.specs.Printing.{scalar_in}
use Rattle.typed.proofs.Prints.{AllItems}
use Rattle.typed.proofs.print.print_set.Given as goal

-- what is there and what is left give all
abbrev pub invariant-loop-element : goal.invariant-loop-element
invariant-loop-element l = AllItems scalar_in (content l.map) l.items.items (drop l.element-index l.children)
