use Rattle.std.proofs.Common.{◌≡◌, drop, map, string_bytes}
use Rattle.json.specs.Value.{members_view as members_in}
use Rattle.json_texts.specs.InOrder.{members_data}
use Rattle.schema.specs.KeyNames.{names_in}
use Rattle.typed.specs.Reading.{have_keys}
use Rattle.typed.proofs.borrowed_items.has_keys.Given as goal

-- what is found of the names that are left is what is found of all, in order
abbrev pub invariant-loop-name : goal.invariant-loop-name
invariant-loop-name l = have_keys (map string_bytes (drop l.name-index l.names)) (members_data (members_in l.members)) ≡ have_keys (names_in l.names) (members_data (members_in l.members))
