use Rattle.std.proofs.Common.{◌≡◌, drop, leb}
use Rattle.serde_json.specs.Data.{items_depth, members_depth}
use Rattle.serde_json.specs.View.{items_view, members_view}
use Rattle.json_patch.proofs.nesting.+nesting.Given as goal

-- what is left nests no deeper where all does
abbrev pub invariant-items_nest-loop-item : goal.invariant-items_nest-loop-item
invariant-items_nest-loop-item l = leb (items_depth (items_view (drop l.item-index l.items))) l.levels ≡ leb (items_depth (items_view l.items)) l.levels

abbrev pub invariant-members_nest-loop-member : goal.invariant-members_nest-loop-member
invariant-members_nest-loop-member l = leb (members_depth (members_view l.member-iterator)) l.levels ≡ leb (members_depth (members_view l.members.entries)) l.levels
