-- The values that JSON texts spell, as a fact with one proof at most.
use mathlib.Core.Bool.{Bool-set}
use mathlib.Core.HLevel.{×_prop, Unit-prop}
use denote.Struct.Props as logic
use Rattle.std.specs.Prelude.{◌≤◌, pos, negsuc, Option, Some, None}
use Rattle.serde_json.specs.Data.{unsigned, negative, float, Num, Data, null, boolean, number, string, array, object, Items, no_items, item, Members, no_members, member, depth}
use Rattle.serde_json.specs.Read.{max_depth}
use Rattle.fieldpath.specs.Encodable.{IsEncodable, AreEncodable, MembersAreEncodable, IsEncodableNumber}

-- a value that a JSON text spells
abbrev pub IsJson : Data → Type 0
IsJson d = IsEncodable d × (depth d ≤ max_depth)

-- the body, if there is one, is such a value
abbrev pub IsJsonBody : Option Data → Type 0
IsJsonBody None = Unit {0}
IsJsonBody (Some d) = IsJson d

-- ---- one proof at most

IsEncodableNumber-prop : (n : Num) → IsProp (IsEncodableNumber n)
IsEncodableNumber-prop (unsigned n) = Prim.hlevel logic.props
IsEncodableNumber-prop (negative (pos n)) = Prim.hlevel logic.props
IsEncodableNumber-prop (negative (negsuc n)) = Prim.hlevel logic.props
IsEncodableNumber-prop (float x) = Unit-prop

mutual
  IsEncodable-prop : (d : Data) → IsProp (IsEncodable d)
  IsEncodable-prop null = Unit-prop
  IsEncodable-prop (boolean b) = Unit-prop
  IsEncodable-prop (number n) = IsEncodableNumber-prop n
  IsEncodable-prop (string s) = Unit-prop
  IsEncodable-prop (array ds) = AreEncodable-prop ds
  IsEncodable-prop (object ms) = ×_prop (Bool-set _ _) (MembersAreEncodable-prop ms)

  AreEncodable-prop : (ds : Items) → IsProp (AreEncodable ds)
  AreEncodable-prop no_items = Unit-prop
  AreEncodable-prop (item d ds) = ×_prop (IsEncodable-prop d) (AreEncodable-prop ds)

  MembersAreEncodable-prop : (ms : Members) → IsProp (MembersAreEncodable ms)
  MembersAreEncodable-prop no_members = Unit-prop
  MembersAreEncodable-prop (member k d ms) = ×_prop (IsEncodable-prop d) (MembersAreEncodable-prop ms)

depth-prop : (d : Data) → IsProp (depth d ≤ max_depth)
depth-prop d = Prim.hlevel logic.props

pub IsJson-prop : (d : Data) → IsProp (IsJson d)
IsJson-prop d = ×_prop (IsEncodable-prop d) (depth-prop d)
