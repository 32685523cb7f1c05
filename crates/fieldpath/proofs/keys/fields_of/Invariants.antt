use Rattle.std.proofs.Common.{string_cmp}
use Rattle.std.specs.List.Sorted.{IsStrictlySortedBy}
use Rattle.std.specs.Map.{keys_of}
use Rattle.serde_json.specs.View.{members_view}
use Rattle.fieldpath.specs.Elements.{keys_of_members}
use Rattle.fieldpath.specs.Scalars.{key_fields}
use Rattle.fieldpath.proofs.KeyFields.{AreReadSoFar}
use Rattle.fieldpath.proofs.keys.fields_of.Given as goal

abbrev pub invariant-loop-name : goal.invariant-loop-name
invariant-loop-name l = AreReadSoFar (keys_of_members (members_view l.members.entries)) (key_fields l.fields.items) l.name-iterator
    × IsStrictlySortedBy string_cmp (keys_of l.members.entries)
