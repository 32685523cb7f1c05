-- For private clauses: whether a key field is one of those named.
use Rattle.std.specs.Prelude.{ℕ, Bool, ◌&&◌, List}
use Rattle.std.specs.List.{list_any}
use Rattle.std.specs.Str.{bytes_eq}
use Rattle.fieldpath.specs.Elements.{Scalar}
use Rattle.schema.specs.Place.{fits_some}
use Rattle.schema.specs.Shape.{Fields, shape_at}

-- among the names, and of its field's type
abbrev pub fits_key : List (List ℕ) → Fields → List ℕ × Scalar → Bool
fits_key names all k = list_any (bytes_eq k.0) names && fits_some (shape_at k.0 all) k.1
