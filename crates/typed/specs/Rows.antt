-- For private clauses: what is printed, member by member in byte order of their names, and what fits a shape.
use Rattle.std.specs.Prelude.{◌≡◌, ℕ, List, true, false, Option, Some, None, option_and_then, option_map}
use Rattle.std.specs.declared.result.Result.TheVariants.{Ok}
use Rattle.serde_json.specs.Data.{Data, Members, no_members, object}
use Rattle.serde_json.specs.Read.{read}
use Rattle.serde_json.specs.Written.{compact_text, has_float}
use Rattle.fieldpath.specs.Elements.{Scalar, name_text, read_element}
use Rattle.fieldpath.specs.Elements as element
use Rattle.fieldpath.specs.Scalars.{ascend}
use Rattle.pathmap.specs.Contents.{LeafValue, Content, nothing}
use Rattle.pathmap.specs.Contents as leaf_value
use Rattle.pathmap.specs.Insides.{inside}
use Rattle.schema.specs.Lawful.{is_well_formed, names_of}
use Rattle.schema.specs.Shape.{Shape, struct_of, Fields, no_fields, field}
use Rattle.typed.specs.Between.{then_fields, then_member}
use Rattle.typed.specs.WellTyped.{IsWellTyped}
use Rattle.typed.specs.Printing.{keys_in, print_item, value_of}

abbrev pub HasNoFloat : Option Data → Type 0
HasNoFloat None = Unit {0}
HasNoFloat (Some d) = has_float d ≡ false

-- an atomic value is the compact text of what it spells
abbrev pub IsCompact : Option LeafValue → Type 0
IsCompact (Some (leaf_value.plain s)) = (d : Data) × (read s ≡ Some d) × (s ≡ compact_text d)
IsCompact _ = Unit {0}

-- what can be written as it stands
abbrev pub IsWritable : Option LeafValue → Type 0
IsWritable v = HasNoFloat (option_and_then value_of v) × IsCompact v

-- a content of the shape
abbrev pub Fits : Shape → Content → Type 0
Fits s c = (is_well_formed s ≡ true) × IsWellTyped s c

-- something of the shape
abbrev pub IsThere : Shape → Content → Type 0
IsThere s c = Fits s c × (c ≡ nothing → ⊥)

abbrev pub AllFit : Fields → Content → Type 0
AllFit no_fields c = Unit {0}
AllFit (field f s more) c = Fits s (inside (name_text f) c) × AllFit more c

abbrev pub EachFits : Shape → Content → Type 0
EachFits s c = (e : List ℕ) → Fits s (inside e c)

abbrev pub then_named : Option (List ℕ) → Option Data → Members → Members
then_named None d ms = ms
then_named (Some k) d ms = then_member k d ms

-- a member for each field
abbrev pub row_of_fields : Fields → Content → Members
row_of_fields all c = then_fields all c no_members

-- the element of a set's item
abbrev pub IsScalarElement : List ℕ → Type 0
IsScalarElement e = (v : Scalar) × (read_element e ≡ Ok (element.value v))

-- fields in order, of which that of the key's name holds nothing
abbrev pub FitBesideKey : List ℕ → Fields → Content → Type 0
FitBesideKey n all c = AllFit all c × (ascend (names_of all) ≡ true) × (inside (name_text n) c ≡ nothing)

-- of an item of a map list of one key field, what its fields are
abbrev pub FieldsFit : List ℕ → Shape → Content → Type 0
FieldsFit n (struct_of all is_atomic) c = FitBesideKey n all c
FieldsFit n _ c = Unit {0}

-- what is printed of the item of a map list that has this element
abbrev pub item_of : Shape → Content → List ℕ → Option Data
item_of s c = λ e. option_map (λ ms. object (print_item s (inside e c) ms)) (keys_in e)
