-- Which contents a shape has, and what printing owes them.
-- Server-Side Apply, "Merge strategy": the cases are those of `place_of`, each path with a value that fits its place.
use Rattle.std.specs.Prelude.{◌≡◌, ◌<◌, ◌≤◌, ◌^◌, ℕ, ℤ, pos, negsuc, Bool, true, false, ◌⊎◌, List, [], ◌∷◌, Option, Some, None, is_some}
use Rattle.std.specs.declared.result.Result.TheVariants.{Ok}
use Rattle.std.specs.FinMap as fin
use Rattle.std.specs.List.{list_any}
use Rattle.std.specs.Str.{bytes_eq}
use Rattle.serde_json.specs.Data.{Data, depth}
use Rattle.serde_json.specs.Read.{read, max_depth}
use Rattle.serde_json.specs.Written.{compact_text, has_float}
use Rattle.fieldpath.specs.Elements.{Scalar, KeyFields, is_field_text, read_element, name_text}
use Rattle.fieldpath.specs.Elements as element
use Rattle.fieldpath.specs.Paths.{PathTexts}
use Rattle.fieldpath.specs.Encodable.{IsEncodable}
use Rattle.pathmap.specs.Contents.{Content, nothing, here}
use Rattle.pathmap.specs.Contents as leaf_value
use Rattle.pathmap.specs.Insides.{inside}
use Rattle.schema.specs.Lawful.{is_well_formed, names_of}
use Rattle.schema.specs.Place.{fits, fit_keys, place_of}
use Rattle.schema.specs.Shape.{atomic, set, keyed, Shape, text, whole, truth, struct_of, map_of, list_of, Fields, no_fields, field}
use Rattle.typed.specs.Printing.{print}
use Rattle.typed.specs.Reading.{is_null, plain_of, leaf, content_of}

abbrev pub When : Bool → Type 0 → Type 0 → Type 0
When true P Q = P
When false P Q = Q

-- a whole value, which reads without fault and has no null member, and which its compact JSON spells; `{}` and `[]` are absence
abbrev pub IsAtomic : Shape → Content → Type 0
IsAtomic s c = (c ≡ nothing) ⊎ (d : Data) × (plain_of s d ≡ Ok d) × (read (compact_text d) ≡ Some d) × (c ≡ leaf d)

-- nothing stands at the top, nor below any element but these
abbrev pub IsBelow : (List ℕ → Bool) → Content → Type 0
IsBelow among c = (fin.get c [] ≡ None) × ((e : List ℕ) (q : PathTexts) → among e ≡ false → fin.get c (e ∷ q) ≡ None)

abbrev pub is_field : Fields → List ℕ → Bool
is_field all e = list_any (λ f. bytes_eq e (name_text f)) (names_of all)

-- an item of a set: its scalar is of the type due, and its mark stands there
abbrev pub IsSetItem : Shape → List ℕ → Content → Type 0
IsSetItem s e c = (v : Scalar) × (read_element e ≡ Ok (element.value v)) × (fits s v ≡ true) × (c ≡ here leaf_value.mark)

-- an item of a map list: its key fields are those due, its mark stands there, and nothing stands below them
abbrev pub HasKeys : List (List ℕ) → Fields → List ℕ → Content → Type 0
HasKeys names all e c =
    (ks : KeyFields) × (read_element e ≡ Ok (element.key ks)) × (fit_keys names all ks ≡ true) × (fin.get c [] ≡ Some leaf_value.mark)
    × ((g : List ℕ) (q : PathTexts) → is_field all g ≡ false → fin.get c (g ∷ q) ≡ None) × ((f : List ℕ) → list_any (bytes_eq f) names ≡ true → inside (name_text f) c ≡ nothing)

-- within 64 bits signed
abbrev pub IsWithin : ℤ → Type 0
IsWithin (pos n) = n < 2 ^ 63
IsWithin (negsuc n) = n < 2 ^ 63

abbrev mutual
  pub IsWellTyped : Shape → Content → Type 0
  IsWellTyped text c = (c ≡ nothing) ⊎ (s : List ℕ) × (c ≡ here (leaf_value.text s))
  IsWellTyped whole c = (c ≡ nothing) ⊎ (n : ℤ) × IsWithin n × (c ≡ here (leaf_value.whole n))
  IsWellTyped truth c = (c ≡ nothing) ⊎ (b : Bool) × (c ≡ here (leaf_value.truth b))
  IsWellTyped (struct_of all is_atomic) c = When is_atomic (IsAtomic (struct_of all is_atomic) c) (IsBelow (is_field all) c × AreWellTyped all c)
  IsWellTyped (map_of s is_atomic) c = When is_atomic (IsAtomic (map_of s is_atomic) c) (IsBelow is_field_text c × ((e : List ℕ) → IsWellTyped s (inside e c)))
  IsWellTyped (list_of s atomic) c = IsAtomic (list_of s atomic) c
  IsWellTyped (list_of s set) c = (fin.get c [] ≡ None) × ((e : List ℕ) → (inside e c ≡ nothing) ⊎ IsSetItem s e (inside e c))
  IsWellTyped (list_of s (keyed names)) c = (fin.get c [] ≡ None) × ((e : List ℕ) → (inside e c ≡ nothing) ⊎ IsItem names s e (inside e c))

  pub IsItem : List (List ℕ) → Shape → List ℕ → Content → Type 0
  IsItem names (struct_of all is_atomic) e c = HasKeys names all e c × AreWellTyped all c
  IsItem names _ e c = ⊥

  pub AreWellTyped : Fields → Content → Type 0
  AreWellTyped no_fields c = Unit {0}
  AreWellTyped (field f s more) c = IsWellTyped s (inside (name_text f) c) × AreWellTyped more c

-- what is printed reads back; where nothing is printed, nothing stands
abbrev pub ReadsBack : Shape → Option Data → Content → Type 0
ReadsBack s None c = c ≡ nothing
ReadsBack s (Some d) c = (is_null d ≡ false) × (content_of s d ≡ Ok c)

abbrev pub RoundTrip : Type 0
RoundTrip = (s : Shape) (c : Content) → is_well_formed s ≡ true → IsWellTyped s c → ReadsBack s (print s c) c

-- each path of such a content has a place
abbrev pub HavePlaces : Type 0
HavePlaces = (s : Shape) (c : Content) → IsWellTyped s c → (p : PathTexts) → is_some (fin.get c p) ≡ true → is_some (place_of s p) ≡ true

-- what reading gives of a value that a JSON text spells is a content that the shape has
abbrev pub ReadingsAreWellTyped : Type 0
ReadingsAreWellTyped = (s : Shape) (d : Data) (c : Content) → is_well_formed s ≡ true → IsEncodable d → depth d ≤ max_depth → content_of s d ≡ Ok c → IsWellTyped s c

-- no number that is printed of such a content is a float
abbrev pub PrintedHasNoFloat : Type 0
PrintedHasNoFloat = (s : Shape) (c : Content) (d : Data) → is_well_formed s ≡ true → IsWellTyped s c → print s c ≡ Some d → has_float d ≡ false
