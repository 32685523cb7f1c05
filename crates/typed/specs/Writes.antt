-- For private clauses: what is written of a content behind what is written already (RFC 8259).
use Rattle.std.specs.Prelude.{ℕ, List, [], ◌∷◌, Option, Some, None}
use Rattle.serde_json.specs.Data.{Data}
use Rattle.serde_json.specs.Written.{compact_text}
use Rattle.fieldpath.specs.Elements.{field_name, name_text}
use Rattle.json_texts.specs.Writing.{Writing, with_name, with_text}
use Rattle.pathmap.specs.Contents.{Content}
use Rattle.pathmap.specs.Insides.{inside}
use Rattle.schema.specs.Shape.{Fields, no_fields, field}
use Rattle.typed.specs.Printing.{print}

-- a value, if there is one
abbrev pub with_value : Option Data → Writing → Writing
with_value None w = w
with_value (Some d) w = with_text (compact_text d) w

-- a member of this name, if there is a value
abbrev pub with_pair : List ℕ → Option Data → Writing → Writing
with_pair k None w = w
with_pair k (Some d) w = with_text (compact_text d) (with_name k w)

-- a member by the element of its name
abbrev pub with_named_pair : Option (List ℕ) → Option Data → Writing → Writing
with_named_pair None o w = w
with_named_pair (Some k) o w = with_pair k o w

-- a member for each element
abbrev pub with_pairs : (List ℕ → Option Data) → List (List ℕ) → Writing → Writing
with_pairs inner [] w = w
with_pairs inner (e ∷ es) w = with_pairs inner es (with_named_pair (field_name e) (inner e) w)

-- an item for each element
abbrev pub with_items : (List ℕ → Option Data) → List (List ℕ) → Writing → Writing
with_items inner [] w = w
with_items inner (e ∷ es) w = with_items inner es (with_value (inner e) w)

-- a member for each field
abbrev pub with_fields : Fields → Content → Writing → Writing
with_fields no_fields c w = w
with_fields (field f s more) c w = with_fields more c (with_pair f (print s (inside (name_text f) c)) w)
