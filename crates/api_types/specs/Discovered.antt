-- Of which types documents tell clients: of all that a server has, or of none, by the profile that they follow.
use Rattle.std.specs.Prelude.{Bool, List, [], ◌∷◌}
use Rattle.std.specs.declared.result.Result.{Result}
use Rattle.std.specs.List.{list_any}
use Rattle.serde_json.specs.Data.{Data}
use Rattle.api_types.specs.Profiles.{is_discovered}
use Rattle.api_types.specs.Refusals.{Refusal}
use Rattle.api_types.specs.TypesFile.{ServedShape, declared_types}
use Rattle.api_types.specs.declared.profile.Profile.{Profile}
use Rattle.api_types.specs.declared.profile.Profile.TheVariants.{Plain, Discovered}

-- the type, of which they tell
abbrev pub discovered : ServedShape → ServedShape
discovered t = record t { profile = Discovered }

-- whether they tell of these types
abbrev pub are_discovered : List ServedShape → Bool
are_discovered types = list_any (λ t. is_discovered t.profile) types

-- the profile that types follow, all the same one
abbrev pub profile_of : List ServedShape → Profile
profile_of [] = Plain
profile_of (t ∷ ts) = t.profile

-- the types that a file declares to follow these
abbrev pub declared_after : List ServedShape → Data → Result (List ServedShape) Refusal
declared_after types file = declared_types (profile_of types) file
