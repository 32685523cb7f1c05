use Rattle.std.proofs.Common.{Ok, map, string_bytes, sym, ap, ◌∙◌}
use Rattle.fieldpath.specs.Elements.{read_element}
use Rattle.fieldpath.specs.ElementViews.{element}
use Rattle.fieldpath.proofs.path.Path.try_copy.Goals as goal

pub invariant_of-result : goal.invariant_of-result
invariant_of-result c =
    ap (map Ok) (c.in_ok-copy_elems.ensures ∙ ap (map element) c.deref.ensures.value) ∙ c.self.invariant
    ∙ sym (ap (map read_element) (c.in_ok-copy_texts.ensures ∙ ap (map string_bytes) c.deref-2.ensures.value))
