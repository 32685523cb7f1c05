use Rattle.std.proofs.Common.{◌≡◌, map, take}
use Rattle.fieldpath.specs.ElementViews.{element}
use Rattle.fieldpath.proofs.path.copy_elems.Given as goal

abbrev pub invariant-loop-elem : goal.invariant-loop-elem
invariant-loop-elem l = map element l.copy.items ≡ map element (take l.elem-index l.elems)
