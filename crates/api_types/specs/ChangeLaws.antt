-- What lawful changes of types keep.
use Rattle.std.specs.Prelude.{◌≡◌, ℕ, true, false, List, is_some}
use Rattle.std.specs.declared.result.Result.TheVariants.{Ok}
use Rattle.serde_json.specs.Data.{Data}
use Rattle.schema.specs.Becoming.{may_become}
use Rattle.api_types.specs.Retyping.{types_may_become}
use Rattle.schema.specs.ObjectShape.{field_of}
use Rattle.schema.specs.Shape.{Shape}
use Rattle.api_types.specs.Discovered.{are_discovered, declared_after}
use Rattle.api_types.specs.TypesFile.{ServedShape, declared_types, type_number}
use Rattle.api_types.specs.declared.profile.Profile.TheVariants.{Plain}

-- types may stay as they are
abbrev pub SameIsLawful : Type 0
SameIsLawful = (types : List ServedShape) → types_may_become types types ≡ true

-- each type keeps its number
abbrev pub NumbersStay : Type 0
NumbersStay = (types others : List ServedShape) → types_may_become types others ≡ true → (group version plural : List ℕ) → type_number group version plural others ≡ type_number group version plural types

-- a schema keeps the fields at its top
abbrev pub FieldsStay : Type 0
FieldsStay = (s t : Shape) → may_become s t ≡ true → (f : List ℕ) → is_some (field_of f t) ≡ is_some (field_of f s)

-- it stays whether they are discovered
abbrev pub MarksStay : Type 0
MarksStay = (types others : List ServedShape) → types_may_become types others ≡ true → are_discovered others ≡ are_discovered types

-- a types file marks none as discovered, ..
abbrev pub FilesMarkNone : Type 0
FilesMarkNone = (file : Data) (types : List ServedShape) → declared_types Plain file ≡ Ok types → are_discovered types ≡ false

-- .. and what it declares to follow types that aren't is what it declares
abbrev pub NoneFollowsNone : Type 0
NoneFollowsNone = (types : List ServedShape) (file : Data) → are_discovered types ≡ false → declared_after types file ≡ declared_types Plain file
