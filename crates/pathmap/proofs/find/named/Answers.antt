use Rattle.std.proofs.Common.{Some, true, false, string_bytes, sym, ap, ◌∙◌, refl}
use Rattle.pathmap.specs.Maps.{contents_in}
use Rattle.pathmap.proofs.Halving.{from_none, well_typed}
use Rattle.pathmap.proofs.Putting.{absent, child_get}
use Rattle.pathmap.proofs.find.named.Goals as goal

pub returns-then-is_at : goal.returns-then-is_at
returns-then-is_at c = λ rises.
    let f = string_bytes c.args.name.now in
    let xs = c.args.below.now in
    ap (λ y. Some y.1) (sym c.index-below-place.is) ∙ sym (child_get f xs 0 c.place_of-place.result c.index-below-place.result ((well_typed f xs xs xs c.place_of-place.result c.is_at.result true refl refl rises c.place_of-place.ensures.count c.is_at.ensures.index c.if-is_at.true).0 ∙ ap (λ n. Some n) (from_none c.place_of-place.result)) c.index-below-place.is)

pub returns : goal.returns
returns c = λ rises.
    let f = string_bytes c.args.name.now in
    let xs = c.args.below.now in
    sym (absent 0 f (contents_in xs) (well_typed f xs xs xs c.place_of-place.result c.is_at.result false refl refl rises c.place_of-place.ensures.count c.is_at.ensures.index c.if-is_at.false).0).0
