use Rattle.std.proofs.Common.{◌≡◌, drop}
use Rattle.json.specs.Value.{items_view, members_view}
use Rattle.json_texts.specs.InOrder.{items_are_ordered, members_are_ordered}
use Rattle.json_texts.proofs.order.+order.Given as goal

-- what is left is in order where all is
abbrev pub invariant-items_are_ordered-loop-item : goal.invariant-items_are_ordered-loop-item
invariant-items_are_ordered-loop-item l = items_are_ordered (items_view (drop l.item-index l.items)) ≡ items_are_ordered (items_view l.items)

abbrev pub invariant-members_are_ordered-loop-member :
    goal.invariant-members_are_ordered-loop-member
invariant-members_are_ordered-loop-member l = members_are_ordered (members_view (drop l.member-index l.members)) ≡ members_are_ordered (members_view l.members)
