use Rattle.std.proofs.Common.{string_bytes, sym, ap, ◌∙◌}
use Rattle.serde_json.specs.View.{view, members_view}
use Rattle.serde_json.proofs.Views.{members_view-insert_entry}
use Rattle.json_patch.specs.MergePatch.{merge_members}
use Rattle.json_patch.proofs.MergeSteps.{null_merged, value_merged}
use Rattle.json_patch.proofs.merging.+merge.Goals as goal

pub merge_members-loop-name-preserved-then-is_null :
    goal.merge_members-loop-name-preserved-then-is_null
merge_members-loop-name-preserved-then-is_null t c =
    null_merged (merge_members (members_view c.args.target.entries) (members_view c.args.patch.now.entries)) (members_view c.loop-name.merged.entries) c.loop-name.name-iterator
    (c.in-Some.name.now, c.in-Some.value.now) c.next.new.self c.in-Some.ensures.steps c.loop-name.invariant
    (members_view c.take.new.members.entries) c.as_str.result.now (sym c.is_null.ensures ∙ c.if-is_null.true) c.as_str.ensures.value c.take.ensures.left

pub merge_members-loop-name-preserved : goal.merge_members-loop-name-preserved
merge_members-loop-name-preserved t c =
    value_merged (merge_members (members_view c.args.target.entries) (members_view c.args.patch.now.entries)) (members_view c.loop-name.merged.entries) c.loop-name.name-iterator
    (c.in-Some.name.now, c.in-Some.value.now) c.next.new.self c.in-Some.ensures.steps c.loop-name.invariant
    (members_view c.take_value-old.new.members.entries) (members_view c.insert.new.self.entries) c.as_str-in-loop-name.result.now (string_bytes c.in_ok-clone.field-0)
    (view c.take_value-old.result) (view c.in_ok-new.new) (sym c.is_null.ensures ∙ c.if-is_null.false) c.as_str-in-loop-name.ensures.value c.in_ok-clone.ensures.cases
    c.take_value-old.ensures.value c.take_value-old.ensures.left c.in_ok-new.ensures
    (ap members_view c.in_ok-insert.ensures.entries ∙ members_view-insert_entry c.take_value-old.new.members.entries c.in_ok-clone.field-0 c.in_ok-new.new)
