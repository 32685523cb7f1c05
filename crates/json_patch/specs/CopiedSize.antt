-- How much a copied value counts: the bytes of its compact text, with null in place of a float, which has no one text.
use Rattle.std.specs.Prelude.{ℕ, ◌-◌, nat_le, length, Option, Some, None, if◌then◌else◌}
use Rattle.serde_json.specs.Data.{Data, null, boolean, number, string, array, object, Items, no_items, item, Members, no_members, member}
use Rattle.serde_json.specs.Find.{is_float}
use Rattle.serde_json.specs.Written.{compact_text}

abbrev mutual
  pub without_floats : Data → Data
  without_floats null = null
  without_floats (boolean b) = boolean b
  without_floats (number n) = if is_float n then null else number n
  without_floats (string s) = string s
  without_floats (array ds) = array (items_without_floats ds)
  without_floats (object ms) = object (members_without_floats ms)

  pub items_without_floats : Items → Items
  items_without_floats no_items = no_items
  items_without_floats (item d ds) = item (without_floats d) (items_without_floats ds)

  pub members_without_floats : Members → Members
  members_without_floats no_members = no_members
  members_without_floats (member k d ms) = member k (without_floats d) (members_without_floats ms)

abbrev pub copied_size : Data → ℕ
copied_size d = length (compact_text (without_floats d))

-- all that one patch may copy
abbrev pub copied_limit : ℕ
copied_limit = 1_048_576

-- what is left of so much room; none where the size is more
abbrev pub left_of : ℕ → ℕ → Option ℕ
left_of room size = if nat_le size room then Some (room - size) else None
