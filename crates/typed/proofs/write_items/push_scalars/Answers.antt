use Rattle.std.proofs.Common.{◌+◌, drop}
use Rattle.std.proofs.lemmas.List.{drop_all}
use Rattle.pathmap.specs.Maps.{content}
use Rattle.typed.specs.Printing.{scalar_in}
use Rattle.typed.specs.Rows.{IsScalarElement}
use Rattle.typed.proofs.ItemTexts.{all_wrote, first_left, first_wrote, then_wrote}
use Rattle.typed.proofs.Prints.{at_place}
use Rattle.typed.proofs.write_items.push_scalars.Goals as goal

pub loop-element-init : goal.loop-element-init
loop-element-init c = λ each. first_wrote IsScalarElement scalar_in (content c.args.map.now) c.children-children.result.now c.args.out.now c.children-children.ensures each

pub loop-element-preserved : goal.loop-element-preserved
loop-element-preserved c = λ each.
    let whole = content c.args.map.now in
    let all = c.children-children.result.now in
    let i = c.loop-element.element-index in
    let e = c.loop-element-item.result in
    let it = drop i all in
    let left = drop (i + 1) all in
    let steps = at_place all i e c.loop-element-test.true c.loop-element-item.is in
    let start = c.args.out.now in
    let out = c.loop-element.out in
    let before = c.loop-element.invariant each in
    then_wrote IsScalarElement scalar_in whole it left e steps start out before c.push_scalar.new.out (c.in_ok-push_scalar.ensures (first_left IsScalarElement scalar_in whole it left e steps start out before))

pub returns : goal.returns
returns c = λ each.
    let all = c.children-children.result.now in
    let i = c.loop-element.element-index in
    all_wrote IsScalarElement scalar_in (content c.args.map.now) (drop i all) c.args.out.now c.loop-element.out (drop_all i all c.loop-element-test.false) (c.loop-element.invariant each)
