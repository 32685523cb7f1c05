-- The shape that a schema stands for.
-- Structural schemas: Kubernetes docs, "Extend the Kubernetes API with CustomResourceDefinitions", "Specifying a structural schema";
-- list and map types: "Server-Side Apply", "Merge strategy".
use Rattle.std.specs.Prelude.{ℕ, Bool, List, [], ◌∷◌, map, Option, Some, None, if◌then◌else◌, String, string_bytes}
use Rattle.std.specs.Str.{bytes_eq}
use Rattle.std.specs.declared.alloc.Global.{Global}
use Rattle.schema.specs.KeyNames.{names_in}
use Rattle.schema.specs.declared.schema.ListKind.{ListKind}
use Rattle.schema.specs.declared.schema.ListKind.TheVariants as kinds
use Rattle.schema.specs.declared.schema.Schema.{Schema, fold-Schema}
use Rattle.schema.specs.declared.schema.Schema.TheOpen.{Schema-F}

-- how a list merges: as a whole, as a set of scalars, or by its key fields (in byte order)
pub data Kind : Type 0 where
  atomic : Kind
  set : Kind
  keyed : List (List ℕ) → Kind

-- the truth value says whether a struct or map is atomic
mutual
  pub data Shape : Type 0 where
    text : Shape
    whole : Shape
    truth : Shape
    struct_of : Fields → Bool → Shape
    map_of : Shape → Bool → Shape
    list_of : Shape → Kind → Shape

  -- a struct's fields, by name
  pub data Fields : Type 0 where
    no_fields : Fields
    field : List ℕ → Shape → Fields → Fields

-- the shape of a field, if there is one of the name
abbrev pub shape_at : List ℕ → Fields → Option Shape
shape_at f no_fields = None
shape_at f (field known s more) = if bytes_eq known f then Some s else shape_at f more

-- ---- the shape of a `Schema`

abbrev pub kind_of : ListKind → Kind
kind_of kinds.Atomic = atomic
kind_of kinds.Set = set
kind_of (kinds.Keyed names) = keyed (names_in names.items)

abbrev pub fields_of : List (String Global × Shape) → Fields
fields_of [] = no_fields
fields_of (f ∷ fs) = field (string_bytes f.0) f.1 (fields_of fs)

-- one level, with each schema inside already seen as its shape
abbrev pub shape_step : Schema-F Shape → Shape
shape_step Schema-F.Text = text
shape_step Schema-F.Whole = whole
shape_step Schema-F.Truth = truth
shape_step (Schema-F.Struct fields is_atomic) = struct_of (fields_of fields.items) is_atomic
shape_step (Schema-F.MapOf inner is_atomic) = map_of inner.value is_atomic
shape_step (Schema-F.List inner kind) = list_of inner.value (kind_of kind)

abbrev pub shape : Schema → Shape
shape = fold-Schema Shape shape_step

abbrev pub fields_in : List (String Global × Schema) → Fields
fields_in fs = fields_of (map (λ f. (f.0, shape f.1)) fs)
