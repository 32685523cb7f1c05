-- Each set of well-typed paths has one FieldsV1 value, and each such value is that of one set.
use Rattle.std.specs.Prelude.{◌≡◌, true, is_some, ⊤}
use Rattle.std.specs.declared.result.Result.TheVariants.{Ok}
use Rattle.std.specs.FinSet as set
use Rattle.serde_json.specs.Data.{Data, object, Members, no_members, member}
use Rattle.fieldpath.specs.Paths.{PathTexts}
use Rattle.fieldpath.specs.Scalars.{ascend}
use Rattle.fieldpath.specs.Encodable.{member_names}
use Rattle.pathmap.specs.Contents.{PathSet}
use Rattle.schema.specs.Shape.{Shape}
use Rattle.schema.specs.Lawful.{is_type_shape}
use Rattle.schema.specs.Place.{place_of}
use Rattle.fieldset.specs.FieldsV1.{fields_v1_of, read_fields_v1}

-- each path of a set has a place
abbrev pub HavePlaces : Shape → PathSet → Type 0
HavePlaces s paths = (p : PathTexts) → set.contains paths p ≡ true → is_some (place_of s p) ≡ true

-- what is written of a set of well-typed paths reads as this set
abbrev pub WrittenIsRead : Type 0
WrittenIsRead = (s : Shape) (paths : PathSet) → is_type_shape s ≡ true → HavePlaces s paths → read_fields_v1 s (fields_v1_of s paths) ≡ Ok paths

-- each object in objects has its members in byte order of their names, each name once
abbrev mutual
  pub IsInOrder : Data → Type 0
  IsInOrder (object ms) = (ascend (member_names ms) ≡ true) × AreInOrder ms
  IsInOrder _ = ⊤

  pub AreInOrder : Members → Type 0
  AreInOrder no_members = ⊤
  AreInOrder (member k d ms) = IsInOrder d × AreInOrder ms

-- what a value reads as is written as this value, if its members stand in byte order, each name once
abbrev pub ReadIsWritten : Type 0
ReadIsWritten = (s : Shape) (d : Data) (paths : PathSet) → is_type_shape s ≡ true → IsInOrder d → read_fields_v1 s d ≡ Ok paths → fields_v1_of s paths ≡ d

-- what a value reads as has places
abbrev pub ReadHavePlaces : Type 0
ReadHavePlaces = (s : Shape) (d : Data) (paths : PathSet) → read_fields_v1 s d ≡ Ok paths → HavePlaces s paths
