use Rattle.std.proofs.Common.{ap, sym, subst, ◌∙◌}
use Rattle.pathmap.specs.Contents.{gather, over}
use Rattle.pathmap.specs.Levels.{IsRising}
use Rattle.pathmap.specs.Maps.{contents_in}
use Rattle.pathmap.specs.Parted.{AreFree, children_outside, part_of}
use Rattle.pathmap.proofs.Parting.{beside-level, part_free}
use Rattle.pathmap.proofs.pathmap.PathMap.part_beside.Goals as goal

pub returns : goal.returns
returns c =
    let part = c.args.part in
    let name = c.args.name.now in
    let mine = part_of part name c.args.self in
    let theirs = c.deref.result.now in
    let ts = contents_in c.other.inside.below.items in
    let free = subst (λ m. AreFree part name m (contents_in theirs)) (sym c.part-map.ensures) (part_free part name c.args.self (contents_in theirs)) in
    let rises = subst (λ l. IsRising (contents_in l)) (sym c.deref.ensures.value) c.other.invariant.0 in
    let put = c.in_ok-put_all_outside.ensures rises free in
    beside-level part name c.args.self c.args.other.now c.in_ok-map-inside.field-0 c.other.inside.held c.map.inside.held (contents_in c.map.inside.below.items) ts c.other.view_is c.in_ok-map-inside.ensures
    (c.map.view_is ∙ put ∙ ap (λ m. over m (gather (children_outside part name (contents_in theirs)))) c.part-map.ensures ∙ ap (λ l. over mine (gather (children_outside part name (contents_in l)))) c.deref.ensures.value)
