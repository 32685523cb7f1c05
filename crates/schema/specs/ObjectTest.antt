-- For private clauses: whether a shape is an object's, as a test.
use Rattle.std.specs.Prelude.{Bool, true, false, not, ◌&&◌, Option, Some, None, is_none, codes}
use Rattle.std.specs.List.{list_all}
use Rattle.schema.specs.Lawful.{is_granular_struct, is_lawful}
use Rattle.schema.specs.ObjectShape.{field_of, system_names}
use Rattle.schema.specs.Shape.{Shape, text, map_of}

abbrev pub is_text : Shape → Bool
is_text text = true
is_text _ = false

-- a granular map of texts
abbrev pub is_texts : Shape → Bool
is_texts (map_of s is_atomic) = not is_atomic && is_text s
is_texts _ = false

abbrev pub is_some_texts : Option Shape → Bool
is_some_texts None = false
is_some_texts (Some s) = is_texts s

abbrev pub is_metadata : Shape → Bool
is_metadata s =
    is_granular_struct s
    && (is_some_texts (field_of (codes "labels") s) && (is_some_texts (field_of (codes "annotations") s) && list_all (λ k. is_none (field_of k s)) system_names))

abbrev pub is_some_metadata : Option Shape → Bool
is_some_metadata None = false
is_some_metadata (Some s) = is_metadata s

abbrev pub is_object_shape : Shape → Bool
is_object_shape s = is_granular_struct s && (is_lawful s && (is_some_metadata (field_of (codes "metadata") s) && (is_none (field_of (codes "apiVersion") s) && is_none (field_of (codes "kind") s))))
