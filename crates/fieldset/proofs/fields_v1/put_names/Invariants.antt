use Rattle.std.proofs.Common.{◌≡◌, drop, map, string_bytes}
use Rattle.serde_json.specs.View.{members_view}
use Rattle.schema.specs.KeyNames.{names_in}
use Rattle.fieldset.specs.FieldsV1.{put_names}
use Rattle.fieldset.proofs.fields_v1.put_names.Given as goal

-- what is left is still to be put
abbrev pub invariant-loop-name : goal.invariant-loop-name
invariant-loop-name l = put_names (map string_bytes (drop l.name-index l.names)) (members_view l.members.entries) ≡ put_names (names_in l.names) (members_view l.fn.members.entries)
