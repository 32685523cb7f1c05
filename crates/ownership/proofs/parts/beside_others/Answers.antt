use Rattle.std.proofs.Common.{◌≡◌, IfOk, sym, ap, ap₂, subst, ◌∙◌}
use Rattle.pathmap.specs.Contents.{over}
use Rattle.ownership.specs.Sides.{beside_others}
use Rattle.ownership.proofs.Sides.{beside_all, beside_nothing, other_is, own_is}
use Rattle.ownership.proofs.parts.beside_others.Goals as goal

pub returns-then-is_apart : goal.returns-then-is_apart
returns-then-is_apart c =
    let x = c.args.subresource in
    let new = c.args.new in
    let live = c.args.live.now in
    let part = c.part_written.result in
    let field = c.text-field.result.now in
    subst (λ t. IfOk c.part_beside.result (λ s. s ≡ t))
    (ap₂ over (own_is x part field c.text-field.ensures c.part_written.ensures new) (other_is x part field c.text-field.ensures c.part_written.ensures live)
    ∙ ap (λ b. beside_others b x new live) (sym c.if-is_apart.true)) c.part_beside.ensures

pub returns-in-Main : goal.returns-in-Main
returns-in-Main c =
    let new = c.args.new in
    let live = c.args.live.now in
    sym (ap₂ (λ b x. beside_others b x new live) c.if-is_apart.false c.in-Main.is ∙ beside_nothing new live)

pub returns-in-Status : goal.returns-in-Status
returns-in-Status c =
    let new = c.args.new in
    let live = c.args.live.now in
    subst (λ t. IfOk c.try_copy.result (λ s. s ≡ t)) (sym (ap₂ (λ b x. beside_others b x new live) c.if-is_apart.false c.in-Status.is ∙ beside_all new live)) c.try_copy.ensures
