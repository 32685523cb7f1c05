-- Which shapes keep the rules of a types file.
use Rattle.std.specs.Prelude.{ℕ, suc, max, nat_le, Bool, true, false, not, ◌&&◌, if◌then◌else◌, List, [], ◌∷◌, Option, Some, None}
use Rattle.std.specs.List.{list_all}
use Rattle.fieldpath.specs.Scalars.{ascend}
use Rattle.schema.specs.Shape.{Kind, atomic, set, keyed, Shape, text, whole, truth, struct_of, map_of, list_of, Fields, no_fields, field, shape_at}

abbrev pub max_depth : ℕ
max_depth = 16

abbrev pub is_scalar : Shape → Bool
is_scalar text = true
is_scalar whole = true
is_scalar truth = true
is_scalar (struct_of all is_atomic) = false
is_scalar (map_of s is_atomic) = false
is_scalar (list_of s kind) = false

abbrev pub is_some_scalar : Option Shape → Bool
is_some_scalar None = false
is_some_scalar (Some s) = is_scalar s

abbrev pub names_of : Fields → List (List ℕ)
names_of no_fields = []
names_of (field f s more) = f ∷ names_of more

-- a granular struct that has each key field, as a scalar
abbrev pub has_keys : List (List ℕ) → Shape → Bool
has_keys names (struct_of all is_atomic) = not is_atomic && list_all (λ n. is_some_scalar (shape_at n all)) names
has_keys names _ = false

abbrev pub is_some_name : List (List ℕ) → Bool
is_some_name [] = false
is_some_name (n ∷ ns) = true

abbrev pub item_is_lawful : Kind → Shape → Bool
item_is_lawful atomic s = true
item_is_lawful set s = is_scalar s
item_is_lawful (keyed names) s = is_some_name names && ascend names && has_keys names s

-- a type's schema is a granular struct; what is no granular struct can only be a part of one
abbrev pub depth_limit : Shape → ℕ
depth_limit (struct_of all is_atomic) = if is_atomic then 15 else max_depth
depth_limit _ = 15

abbrev mutual
  pub depth_of : Shape → ℕ
  depth_of text = 1
  depth_of whole = 1
  depth_of truth = 1
  depth_of (struct_of all is_atomic) = suc (fields_depth all)
  depth_of (map_of s is_atomic) = suc (depth_of s)
  depth_of (list_of s kind) = suc (depth_of s)

  pub fields_depth : Fields → ℕ
  fields_depth no_fields = 0
  fields_depth (field f s more) = max (depth_of s) (fields_depth more)

-- fields in byte order of their names; items as their list wants them
abbrev mutual
  pub is_well_formed : Shape → Bool
  is_well_formed text = true
  is_well_formed whole = true
  is_well_formed truth = true
  is_well_formed (struct_of all is_atomic) = ascend (names_of all) && are_well_formed all
  is_well_formed (map_of s is_atomic) = is_well_formed s
  is_well_formed (list_of s kind) = item_is_lawful kind s && is_well_formed s

  pub are_well_formed : Fields → Bool
  are_well_formed no_fields = true
  are_well_formed (field f s more) = is_well_formed s && are_well_formed more

-- a type's schema, or a part of one
abbrev pub is_lawful : Shape → Bool
is_lawful s = is_well_formed s && nat_le (depth_of s) (depth_limit s)

abbrev pub is_granular_struct : Shape → Bool
is_granular_struct (struct_of all is_atomic) = not is_atomic
is_granular_struct _ = false

-- a type's schema, and no mere part of one
abbrev pub is_type_shape : Shape → Bool
is_type_shape s = is_granular_struct s && is_lawful s
