-- Which types may take the place of others while their objects stand: the same types, but that some sets, map lists and granular maps have become atomic.
-- Server-Side Apply, "Compatibility across topology changes".
use Rattle.std.specs.Prelude.{Bool, true, false, ◌&&◌, List, [], ◌∷◌}
use Rattle.std.specs.Str.{bytes_eq}
use Rattle.schema.specs.Becoming.{may_become}
use Rattle.api_types.specs.Profiles.{is_same}
use Rattle.api_types.specs.TypesFile.{ServedShape}

-- a type keeps its names and its profile, and its schema may become the other
abbrev pub type_may_become : ServedShape → ServedShape → Bool
type_may_become t u = is_same t.profile u.profile && (bytes_eq t.group u.group && (bytes_eq t.version u.version && (bytes_eq t.kind u.kind && (bytes_eq t.plural u.plural && may_become t.shape u.shape))))

-- type by type, in the order of the file
abbrev pub types_may_become : List ServedShape → List ServedShape → Bool
types_may_become [] [] = true
types_may_become [] (u ∷ us) = false
types_may_become (t ∷ ts) [] = false
types_may_become (t ∷ ts) (u ∷ us) = type_may_become t u && types_may_become ts us

-- the same as one fact, for what keeps it; unfoldable, so that no search looks into it
unfoldable pub is_lawful_change : List ServedShape → List ServedShape → Bool
is_lawful_change = types_may_become
