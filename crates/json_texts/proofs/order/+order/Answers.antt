use Rattle.std.proofs.Common.{◌≡◌, ◌&&◌, true, false, sym, ap, ◌∙◌}
use Rattle.json.specs.Json.{object}
use Rattle.json.specs.Value.{members_view, value_view}
use Rattle.json.proofs.Trees.{view-Object}
use Rattle.fieldpath.specs.Scalars.{ascend}
use Rattle.json_texts.specs.InOrder.{is_ordered, members_are_ordered, names}
use Rattle.json_texts.proofs.order.+order.Goals as goal

pub is_ordered-returns-then-names_ascend : goal.is_ordered-returns-then-names_ascend
is_ordered-returns-then-names_ascend t c =
    let ms = c.in-Object.members.items in
    let seen : value_view c.args.value.now ≡ object (members_view ms) = ap value_view c.in-Object.is ∙ view-Object c.in-Object.members in
    let up : ascend (names (members_view ms)) ≡ true =
    sym (ap (λ l. ascend (names (members_view l))) c.deref-in-Object.ensures.value) ∙ sym c.names_ascend.ensures ∙ c.if-names_ascend.true in
    c.members_are_ordered.ensures ∙ ap (λ l. members_are_ordered (members_view l)) c.deref-then-names_ascend.ensures.value
    ∙ sym (ap is_ordered seen ∙ ap (λ b. b && members_are_ordered (members_view ms)) up)

pub is_ordered-returns-else-names_ascend : goal.is_ordered-returns-else-names_ascend
is_ordered-returns-else-names_ascend t c =
    let ms = c.in-Object.members.items in
    let seen : value_view c.args.value.now ≡ object (members_view ms) = ap value_view c.in-Object.is ∙ view-Object c.in-Object.members in
    let up : ascend (names (members_view ms)) ≡ false =
    sym (ap (λ l. ascend (names (members_view l))) c.deref-in-Object.ensures.value) ∙ sym c.names_ascend.ensures ∙ c.if-names_ascend.false in
    c.if-names_ascend.false ∙ sym (ap is_ordered seen ∙ ap (λ b. b && members_are_ordered (members_view ms)) up)
