-- Which shapes are those of objects.
-- Objects' own fields: Kubernetes docs, "Kubernetes API Concepts".
use Rattle.std.specs.Prelude.{◌≡◌, ℕ, true, false, List, [], ◌∷◌, Option, Some, None, is_none, codes}
use Rattle.std.specs.List.{list_all}
use Rattle.schema.specs.Lawful.{is_granular_struct, is_lawful}
use Rattle.schema.specs.Shape.{Shape, text, struct_of, map_of, no_fields, field, shape_at}

-- the least struct that a type has beside its own fields: `labels` and `annotations`, granular maps of texts
abbrev pub metadata : Shape
metadata = struct_of (field (codes "annotations") (map_of text false) (field (codes "labels") (map_of text false) no_fields)) false

-- the shape of a struct's field
abbrev pub field_of : List ℕ → Shape → Option Shape
field_of f (struct_of all is_atomic) = shape_at f all
field_of f _ = None

-- what the system says itself in an object's `metadata`, by its names; no field has one of them
abbrev pub system_names : List (List ℕ)
system_names =
    codes "name" ∷ codes "namespace" ∷ codes "resourceVersion" ∷ codes "managedFields" ∷ codes "uid" ∷ codes "generation" ∷ codes "creationTimestamp"
    ∷ codes "deletionTimestamp" ∷ codes "deletionGracePeriodSeconds" ∷ []

-- a type's `metadata`: a granular struct with labels and annotations, granular maps of texts, beside which it may have other fields
pub record IsMetadata (s : Shape) : Type 0 where
  pub granular : is_granular_struct s ≡ true
  pub labels : field_of (codes "labels") s ≡ Some (map_of text false)
  pub annotations : field_of (codes "annotations") s ≡ Some (map_of text false)
  pub others : list_all (λ k. is_none (field_of k s)) system_names ≡ true

abbrev pub HasMetadata : Shape → Type 0
HasMetadata s = (m : Shape) × (field_of (codes "metadata") s ≡ Some m) × IsMetadata m

-- a type's schema: a granular struct that keeps the rules, with a type's `metadata`, and no field that stands in each object's text beside what its type declares
abbrev pub IsObjectShape : Shape → Type 0
IsObjectShape s =
    (is_granular_struct s ≡ true) × (is_lawful s ≡ true) × HasMetadata s × (field_of (codes "apiVersion") s ≡ None) × (field_of (codes "kind") s ≡ None)
