use Rattle.std.proofs.Common.{Some, true, false, sym, ap, ◌∙◌, refl}
use Rattle.pathmap.specs.Maps.{contents_in}
use Rattle.fieldpath.specs.Elements.{name_text}
use Rattle.pathmap.proofs.Halving.{from_none, well_typed}
use Rattle.pathmap.proofs.Putting.{absent, child_get}
use Rattle.pathmap.proofs.fields.field_named.Goals as goal

pub returns-then-field_is_at : goal.returns-then-field_is_at
returns-then-field_is_at c = λ rises.
    let f = name_text c.args.name.now in
    let xs = c.args.below.now in
    ap (λ y. Some y.1) (sym c.index-below-place.is) ∙ sym (child_get f xs 0 c.place_of_field-place.result c.index-below-place.result ((well_typed f xs xs xs c.place_of_field-place.result c.field_is_at.result true refl refl rises c.place_of_field-place.ensures.count c.field_is_at.ensures.index c.if-field_is_at.true).0 ∙ ap (λ n. Some n) (from_none c.place_of_field-place.result)) c.index-below-place.is)

pub returns : goal.returns
returns c = λ rises.
    let f = name_text c.args.name.now in
    let xs = c.args.below.now in
    sym (absent 0 f (contents_in xs) (well_typed f xs xs xs c.place_of_field-place.result c.field_is_at.result false refl refl rises c.place_of_field-place.ensures.count c.field_is_at.ensures.index c.if-field_is_at.false).0).0
