use Rattle.std.proofs.Common.{flat_map, map, string_bytes, ap, ◌∙◌}
use Rattle.fieldpath.specs.Elements.{shown, shown_element}
use Rattle.fieldpath.specs.ElementViews.{element}
use Rattle.fieldpath.proofs.Shown.{shown-elems}
use Rattle.fieldpath.proofs.Texts.{prefixed_as}
use Rattle.fieldpath.proofs.path.Path.shown.Goals as goal

pub returns : goal.returns
returns c =
    prefixed_as c.show_elems.result _ _
    (ap (flat_map (λ e. shown_element (element e))) c.deref.ensures.value ∙ shown-elems c.self.inside.elems.items (map string_bytes c.self.inside.texts.items) c.self.invariant ∙ ap shown c.self.view_is)
    c.show_elems.ensures
