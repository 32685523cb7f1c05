use Rattle.std.proofs.Common.{◌≡◌, ◌+◌, ◌∷◌, drop, refl, string_bytes, sym, ap, ◌∙◌, subst, arith}
use Rattle.pathmap.specs.Contents.{gather, over}
use Rattle.pathmap.specs.Levels.{IsRising}
use Rattle.pathmap.specs.Maps.{contents_in}
use Rattle.pathmap.specs.Parted.{AreFree, children_outside}
use Rattle.pathmap.proofs.Contents.{over-nothing}
use Rattle.pathmap.proofs.Prefixes.{drop_next, drop-whole, rising_drop}
use Rattle.pathmap.proofs.Parting.{next}
use Rattle.pathmap.proofs.parts.put_all_outside.Goals as goal

pub loop-child-init : goal.loop-child-init
loop-child-init c = λ rises free. (free, refl)

pub loop-child-preserved : goal.loop-child-preserved
loop-child-preserved c = λ rises free.
    let part = c.args.part in
    let name = c.args.name.now in
    let xs = c.args.children.now in
    let i = c.loop-child.child-index in
    let e = c.child-item.result in
    let old = c.loop-child.map in
    let whole = over c.args.map.now (gather (children_outside part name (contents_in xs))) in
    let steps : drop i xs ≡ e ∷ drop (i + 1) xs = drop_next xs i e c.loop-child-test.true c.child-item.is in
    next part name old c.put_outside.new.map whole (string_bytes e.0, e.1) (contents_in (drop (i + 1) xs)) (subst (λ l. IsRising (contents_in l)) steps (rising_drop i xs rises)) c.in_ok-put_outside.ensures
    (subst (λ l. AreFree part name old (contents_in l) × (over old (gather (children_outside part name (contents_in l))) ≡ whole)) steps (c.loop-child.invariant rises free))

pub returns : goal.returns
returns c = λ rises free.
    let i = c.loop-child.child-index in
    let past = c.loop-child-test.false in
    sym (ap (λ l. over c.loop-child.map (gather (children_outside c.args.part c.args.name.now (contents_in l)))) (drop-whole i c.args.children.now (omega (arith, past))) ∙ over-nothing c.loop-child.map)
    ∙ (c.loop-child.invariant rises free).1
