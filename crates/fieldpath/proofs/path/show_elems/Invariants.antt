use Rattle.std.proofs.Common.{◌≡◌, flat_map, take, string_bytes}
use Rattle.fieldpath.specs.Elements.{shown_element}
use Rattle.fieldpath.specs.ElementViews.{element}
use Rattle.fieldpath.proofs.path.show_elems.Given as goal

abbrev pub invariant-loop-elem : goal.invariant-loop-elem
invariant-loop-elem l = string_bytes l.shown ≡ flat_map (λ e. shown_element (element e)) (take l.elem-index l.elems)
