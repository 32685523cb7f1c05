-- Groups, versions and kinds of types, in the order of their types file
-- (Kubernetes docs, "Kubernetes API Concepts", "API groups and versioning").
use Rattle.std.specs.Prelude.{ℕ, Bool, ◌&&◌, List, [], ◌∷◌, ◌++◌, codes, if◌then◌else◌}
use Rattle.std.specs.List.{fold, list_any}
use Rattle.std.specs.Str.{bytes_eq}
use Rattle.api_types.specs.TypesFile.{ServedShape}
use Rattle.discovery.specs.declared.likeness.Likeness.{Likeness}
use Rattle.discovery.specs.declared.likeness.Likeness.TheVariants.{Group, Version, Kind}

-- as it stands in `apiVersion`
abbrev pub group_version : ServedShape → List ℕ
group_version t = t.group ++ (codes "/" ++ t.version)

-- whether types have the same group, the same version of it, or the same kind of that
abbrev pub is_like : Likeness → ServedShape → ServedShape → Bool
is_like Group t u = bytes_eq t.group u.group
is_like Version t u = bytes_eq t.group u.group && bytes_eq t.version u.version
is_like Kind t u = bytes_eq t.group u.group && bytes_eq t.version u.version && bytes_eq t.kind u.kind

-- types, and one more unless one of them is like it
abbrev pub with_first : Likeness → List ServedShape → ServedShape → List ServedShape
with_first likeness found t = if list_any (is_like likeness t) found then found else found ++ t ∷ []

-- of types that are alike the first, in their order
abbrev pub firsts : Likeness → List ServedShape → List ServedShape
firsts likeness types = fold (with_first likeness) [] types
