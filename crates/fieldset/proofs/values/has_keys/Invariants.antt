use Rattle.std.proofs.Common.{◌≡◌, drop, map, string_bytes}
use Rattle.serde_json.specs.View.{members_view}
use Rattle.schema.specs.KeyNames.{names_in}
use Rattle.fieldset.specs.FieldsV1.{has_keys}
use Rattle.fieldset.proofs.values.has_keys.Given as goal

-- what is found of the names that are left is what is found of all, in order
abbrev pub invariant-loop-name : goal.invariant-loop-name
invariant-loop-name l = has_keys (map string_bytes (drop l.name-index l.names)) (members_view l.members.entries) ≡ has_keys (names_in l.names) (members_view l.members.entries)
