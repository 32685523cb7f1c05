use Rattle.std.proofs.Common.{◌≡◌, drop}
use Rattle.serde_json.specs.View.{items_view, members_view}
use Rattle.json_patch.specs.Equality.{have_members, same_items}
use Rattle.json_patch.proofs.equality.+equality.Given as goal

-- what is left is equal where all is
abbrev pub invariant-same_items-loop-place : goal.invariant-same_items-loop-place
invariant-same_items-loop-place l = same_items (items_view (drop l.place l.xs)) (items_view (drop l.place l.ys)) ≡ same_items (items_view l.xs) (items_view l.ys)

abbrev pub invariant-same_members-loop-name : goal.invariant-same_members-loop-name
invariant-same_members-loop-name l = have_members (members_view l.name-iterator) (members_view l.ys.entries) ≡ have_members (members_view l.xs.entries) (members_view l.ys.entries)
