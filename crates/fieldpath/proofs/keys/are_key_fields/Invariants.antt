use Rattle.std.proofs.Common.{◌≡◌, is_some}
use Rattle.serde_json.specs.View.{members_view}
use Rattle.fieldpath.specs.Elements.{keys_of_members, some_keys}
use Rattle.fieldpath.proofs.ElemTexts.{are_with}
use Rattle.fieldpath.proofs.keys.are_key_fields.Given as goal

abbrev pub invariant-loop-value : goal.invariant-loop-value
invariant-loop-value l = are_with l.is_some (keys_of_members (members_view l.value-iterator)) ≡ is_some (some_keys (keys_of_members (members_view l.members.entries)))
