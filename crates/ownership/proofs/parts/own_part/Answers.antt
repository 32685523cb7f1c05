use Rattle.std.proofs.Common.{sym, ap, ap₂, ◌∙◌}
use Rattle.ownership.specs.Sides.{own_part}
use Rattle.ownership.proofs.Sides.{own_all, own_is, own_nothing}
use Rattle.ownership.proofs.parts.own_part.Goals as goal

pub returns-then-is_apart : goal.returns-then-is_apart
returns-then-is_apart c =
    let x = c.args.subresource in
    let content = c.args.content in
    c.part.ensures ∙ own_is x c.part_written.result c.text.result.now c.text.ensures c.part_written.ensures content ∙ ap (λ b. own_part b x content) (sym c.if-is_apart.true)

pub returns-in-Main : goal.returns-in-Main
returns-in-Main c = sym (ap₂ (λ b x. own_part b x c.args.content) c.if-is_apart.false c.in-Main.is ∙ own_all c.args.content)

pub returns-in-Status : goal.returns-in-Status
returns-in-Status c = c.empty.ensures ∙ sym (ap₂ (λ b x. own_part b x c.args.content) c.if-is_apart.false c.in-Status.is ∙ own_nothing c.args.content)
