use Rattle.std.proofs.Common.{true, false, not, is_some, string_bytes, sym, ap, ◌∙◌, refl}
use Rattle.pathmap.specs.Maps.{contents_in}
use Rattle.pathmap.proofs.Halving.{well_typed}
use Rattle.pathmap.proofs.Putting.{absent, present, put_new}
use Rattle.pathmap.proofs.place.put_child.Goals as goal

pub returns-then-is_at-clause-added : goal.returns-then-is_at-clause-added
returns-then-is_at-clause-added c = λ rises.
    let f = string_bytes c.args.name in
    let xs = c.args.children.now.items in
    let place = c.place_of-place.result in
    sym (ap not (present 0 f (contents_in xs) place
    (well_typed f c.deref.result.now c.deref-2.result.now xs place c.is_at.result true c.deref.ensures.value c.deref-2.ensures.value rises c.place_of-place.ensures.count c.is_at.ensures.index c.if-is_at.true).0))

pub returns-clause-added : goal.returns-clause-added
returns-clause-added c = λ rises.
    let f = string_bytes c.args.name in
    let xs = c.args.children.now.items in
    sym (ap (λ o. not (is_some o)) (absent 0 f (contents_in xs)
    (well_typed f c.deref.result.now c.deref-2.result.now xs c.place_of-place.result c.is_at.result false c.deref.ensures.value c.deref-2.ensures.value rises c.place_of-place.ensures.count c.is_at.ensures.index c.if-is_at.false).0).0)

pub returns-clause-put : goal.returns-clause-put
returns-clause-put c = λ rises.
    let f = string_bytes c.args.name in
    let xs = c.args.children.now.items in
    let place = well_typed f c.deref.result.now c.deref-2.result.now xs c.place_of-place.result c.is_at.result false c.deref.ensures.value c.deref-2.ensures.value rises c.place_of-place.ensures.count c.is_at.ensures.index c.if-is_at.false in
    ap contents_in c.in_ok-insert.ensures.items ∙ put_new f xs c.place_of-place.result c.args.name c.args.map place.0 place.1 refl
