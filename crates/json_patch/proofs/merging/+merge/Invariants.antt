use Rattle.std.proofs.Common.{◌≡◌}
use Rattle.serde_json.specs.View.{members_view}
use Rattle.json_patch.specs.MergePatch.{merge_members}
use Rattle.json_patch.proofs.merging.+merge.Given as goal

-- what is left of the patch leads from what is merged so far to the same members
abbrev pub invariant-merge_members-loop-name : goal.invariant-merge_members-loop-name
invariant-merge_members-loop-name l = merge_members (members_view l.merged.entries) (members_view l.name-iterator) ≡ merge_members (members_view l.fn.target.entries) (members_view l.patch.entries)
