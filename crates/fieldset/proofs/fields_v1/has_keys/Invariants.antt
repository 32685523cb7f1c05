use Rattle.std.proofs.Common.{◌≡◌, drop, map, string_bytes}
use Rattle.json.specs.Value.{members_view}
use Rattle.json_texts.specs.InOrder.{members_data}
use Rattle.schema.specs.KeyNames.{names_in}
use Rattle.fieldset.specs.FieldsV1.{has_keys}
use Rattle.fieldset.proofs.fields_v1.has_keys.Given as goal

-- what is found of the names that are left is what is found of all, in order
abbrev pub invariant-loop-name : goal.invariant-loop-name
invariant-loop-name l = has_keys (map string_bytes (drop l.name-index l.names)) (members_data (members_view l.members)) ≡ has_keys (names_in l.names) (members_data (members_view l.members))
