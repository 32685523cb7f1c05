-- Which subresources the objects of a type have (Kubernetes docs, "Custom Resources", "Status subresource").
use Rattle.std.specs.Prelude.{Bool, true, Option, Some, None, is_some, codes}
use Rattle.schema.specs.ObjectShape.{field_of}
use Rattle.api_types.specs.TypesFile.{ServedShape}

-- whether they have a status: the type's schema has that property
abbrev pub has_status : ServedShape → Bool
has_status t = is_some (field_of (codes "status") t.shape)

-- whether a field of that name is written by the subresource `status` alone, whatever the schema; else it is a field as others
unfoldable pub is_apart : ServedShape → Bool
is_apart t = true

-- of the type that is served, if one is
abbrev pub is_apart_in : Option ServedShape → Bool
is_apart_in None = true
is_apart_in (Some t) = is_apart t
