-- What a content is, path by path: each value fits its path, and with a path every item above it is there.
-- Server-Side Apply, "Merge strategy": scalars and atomic values are leaves, items of sets and map lists have a mark.
use Rattle.std.specs.Prelude.{◌≡◌, ◌≤◌, ◌↔◌, ℕ, ℤ, Bool, true, false, List, [], ◌∷◌, ◌++◌, Some, is_some}
use Rattle.std.specs.declared.result.Result.TheVariants.{Ok}
use Rattle.std.specs.FinMap as fin
use Rattle.std.specs.List.{list_any}
use Rattle.std.specs.Str.{bytes_eq}
use Rattle.serde_json.specs.Data.{Data, depth}
use Rattle.serde_json.specs.Read.{read, max_depth}
use Rattle.serde_json.specs.Written.{compact_text, has_float}
use Rattle.fieldpath.specs.Elements.{Scalar, KeyFields, read_element, name_text}
use Rattle.fieldpath.specs.Elements as element
use Rattle.fieldpath.specs.Paths.{PathTexts}
use Rattle.fieldpath.specs.Encodable.{IsEncodable}
use Rattle.pathmap.specs.Contents.{LeafValue, Content, PathSet, here, over}
use Rattle.pathmap.specs.Contents as leaf_value
use Rattle.pathmap.specs.Beside.{without}
use Rattle.schema.specs.Lawful.{is_well_formed, is_lawful}
use Rattle.schema.specs.Place.{fits, fit_keys}
use Rattle.schema.specs.Shape.{atomic, set, keyed, Shape, text, whole, truth, struct_of, map_of, list_of, Fields, no_fields, field}
use Rattle.typed.specs.WellTyped.{When, IsWithin, IsWellTyped}
use Rattle.typed.specs.Printing.{print}
use Rattle.typed.specs.Reading.{plain_of, leaf, content_of}

-- a whole value, which reads without fault and has no null member, and which its compact JSON spells; neither `{}` nor `[]`
abbrev pub IsWholeValue : Shape → LeafValue → Type 0
IsWholeValue s v = (d : Data) × (plain_of s d ≡ Ok d) × (read (compact_text d) ≡ Some d) × (leaf d ≡ here v)

abbrev pub AtEnd : PathTexts → Type 0 → Type 0
AtEnd [] P = P
AtEnd (e ∷ q) P = ⊥

abbrev pub Below : (List ℕ → PathTexts → Type 0) → PathTexts → Type 0
Below inner [] = ⊥
Below inner (e ∷ q) = inner e q

-- an item's own path has its mark
abbrev pub MarkOrBelow : LeafValue → (List ℕ → PathTexts → Type 0) → PathTexts → Type 0
MarkOrBelow v inner [] = v ≡ leaf_value.mark
MarkOrBelow v inner (e ∷ q) = inner e q

-- whether a value may stand at a path
abbrev mutual
  pub FitsAt : Shape → PathTexts → LeafValue → Type 0
  FitsAt text p v = AtEnd p ((s : List ℕ) × (v ≡ leaf_value.text s))
  FitsAt whole p v = AtEnd p ((n : ℤ) × IsWithin n × (v ≡ leaf_value.whole n))
  FitsAt truth p v = AtEnd p ((b : Bool) × (v ≡ leaf_value.truth b))
  FitsAt (struct_of all is_atomic) p v =
      When is_atomic (AtEnd p (IsWholeValue (struct_of all is_atomic) v)) (Below (λ e q. (f : List ℕ) × (e ≡ name_text f) × FitsField all f q v) p)
  FitsAt (map_of s is_atomic) p v = When is_atomic (AtEnd p (IsWholeValue (map_of s is_atomic) v)) (Below (λ e q. (f : List ℕ) × (e ≡ name_text f) × FitsAt s q v) p)
  FitsAt (list_of s atomic) p v = AtEnd p (IsWholeValue (list_of s atomic) v)
  FitsAt (list_of s set) p v = Below (λ e q. (x : Scalar) × (read_element e ≡ Ok (element.value x)) × (fits s x ≡ true) × AtEnd q (v ≡ leaf_value.mark)) p
  FitsAt (list_of s (keyed names)) p v = Below (λ e q. FitsItem names s e q v) p

  -- in an item of a map list: its mark, and its fields but for the key fields
  pub FitsItem : List (List ℕ) → Shape → List ℕ → PathTexts → LeafValue → Type 0
  FitsItem names (struct_of all is_atomic) e q v =
      (ks : KeyFields) × (read_element e ≡ Ok (element.key ks)) × (fit_keys names all ks ≡ true)
      × MarkOrBelow v (λ g r. (f : List ℕ) × (g ≡ name_text f) × (list_any (bytes_eq f) names ≡ false) × FitsField all f r v) q
  FitsItem names _ e q v = ⊥

  pub FitsField : Fields → List ℕ → PathTexts → LeafValue → Type 0
  FitsField no_fields f q v = ⊥
  FitsField (field known s more) f q v = When (bytes_eq known f) (FitsAt s q v) (FitsField more f q v)

abbrev pub IsPresent : Content → PathTexts → Type 0
IsPresent c p = is_some (fin.get c p) ≡ true

-- the path of an item is there as soon as one below it is
abbrev pub IsClosed : Shape → Content → Type 0
IsClosed s c = (p q : PathTexts) → FitsAt s p leaf_value.mark → IsPresent c (p ++ q) → IsPresent c p

abbrev pub FitsAll : Shape → Content → Type 0
FitsAll s c = (p : PathTexts) (v : LeafValue) → fin.get c p ≡ Some v → FitsAt s p v

-- a content of a shape
abbrev pub IsContent : Shape → Content → Type 0
IsContent s c = FitsAll s c × IsClosed s c

-- the same, level by level
abbrev pub ContentsAreWellTyped : Type 0
ContentsAreWellTyped = (s : Shape) (c : Content) → is_well_formed s ≡ true → IsContent s c ↔ IsWellTyped s c

-- what reading gives of a value that a JSON text spells
abbrev pub ReadingsAreContents : Type 0
ReadingsAreContents = (s : Shape) (d : Data) (c : Content) → is_well_formed s ≡ true → IsEncodable d → depth d ≤ max_depth → content_of s d ≡ Ok c → IsContent s c

-- one over another, and what is left of one
abbrev pub OversAreContents : Type 0
OversAreContents = (s : Shape) (c d : Content) → IsContent s c → IsContent s d → IsContent s (over c d)

abbrev pub RemainsAreContents : Type 0
RemainsAreContents = (s : Shape) (c : Content) (paths : PathSet) → IsContent s c → IsContent s (without c paths)

-- a value that its compact text spells
abbrev pub IsTextual : Data → Type 0
IsTextual d = IsEncodable d × (has_float d ≡ false) × (depth d ≤ max_depth) × (read (compact_text d) ≡ Some d)

-- what is printed of a content
abbrev pub PrintedIsTextual : Type 0
PrintedIsTextual = (s : Shape) (c : Content) (d : Data) → is_lawful s ≡ true → IsContent s c → print s c ≡ Some d → IsTextual d
