-- The values that JSON texts spell (RFC 8259), as `read` gives them, and the law that their compact texts spell them.
use Rattle.std.specs.Prelude.{◌≡◌, ◌<◌, ◌≤◌, ◌^◌, ℕ, pos, negsuc, List, [], ◌∷◌, true, false, Some, ⊤}
use Rattle.serde_json.specs.Data.{Num, unsigned, negative, float, Data, null, boolean, number, string, array, object, Items, no_items, item, Members, no_members, member, depth}
use Rattle.serde_json.specs.Read.{read, max_depth}
use Rattle.serde_json.specs.Written.{has_float, compact_text}
use Rattle.fieldpath.specs.Scalars.{ascend}

-- a whole number is within 64 bits, and a negative one is below 0
abbrev pub IsEncodableNumber : Num → Type 0
IsEncodableNumber (unsigned n) = n < 2 ^ 64
IsEncodableNumber (negative (pos n)) = ⊥
IsEncodableNumber (negative (negsuc n)) = n < 2 ^ 63
IsEncodableNumber (float x) = ⊤

abbrev pub member_names : Members → List (List ℕ)
member_names no_members = []
member_names (member k d ms) = k ∷ member_names ms

-- each object has its members in byte order of their names, each name once
abbrev mutual
  pub IsEncodable : Data → Type 0
  IsEncodable null = ⊤
  IsEncodable (boolean b) = ⊤
  IsEncodable (number n) = IsEncodableNumber n
  IsEncodable (string s) = ⊤
  IsEncodable (array ds) = AreEncodable ds
  IsEncodable (object ms) = (ascend (member_names ms) ≡ true) × MembersAreEncodable ms

  pub AreEncodable : Items → Type 0
  AreEncodable no_items = ⊤
  AreEncodable (item d ds) = IsEncodable d × AreEncodable ds

  pub MembersAreEncodable : Members → Type 0
  MembersAreEncodable no_members = ⊤
  MembersAreEncodable (member k d ms) = IsEncodable d × MembersAreEncodable ms

-- what a text is read as is encodable, and nests no deeper than a reader follows
abbrev pub ReadingsAreEncodable : Type 0
ReadingsAreEncodable = (text : List ℕ) (d : Data) → read text ≡ Some d → IsEncodable d × (depth d ≤ max_depth)

-- the compact text of a encodable value without floats is read as it
abbrev pub CompactTextsReadBack : Type 0
CompactTextsReadBack = (d : Data) → IsEncodable d → has_float d ≡ false → depth d ≤ max_depth → read (compact_text d) ≡ Some d
