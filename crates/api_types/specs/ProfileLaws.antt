-- What laws promise of types that are read for a profile.
use Rattle.std.specs.Prelude.{◌≡◌, List, map}
use Rattle.std.specs.declared.result.Result.TheVariants.{Ok}
use Rattle.std.specs.List.{All}
use Rattle.serde_json.specs.Data.{Data}
use Rattle.api_types.specs.Discovered.{discovered}
use Rattle.api_types.specs.Refusals.{and_then}
use Rattle.api_types.specs.TypesFile.{ServedShape, declared_types}
use Rattle.api_types.specs.Views.{FailsWith}
use Rattle.api_types.specs.declared.fault.TypesFault.{TypesFault}
use Rattle.api_types.specs.declared.profile.Profile.{Profile}
use Rattle.api_types.specs.declared.profile.Profile.TheVariants.{Plain, Discovered}

-- the types that a file declares follow the profile that it is read for
abbrev pub AllFollow : Type 0
AllFollow = (profile : Profile) (file : Data) (types : List ServedShape) → declared_types profile file ≡ Ok types → All (λ t. t.profile ≡ profile) types

-- discovered types are those of which no document tells, but for that mark
abbrev pub DiscoveryIsAMark : Type 0
DiscoveryIsAMark = (file : Data) → declared_types Discovered file ≡ and_then (declared_types Plain file) (λ types. Ok (map discovered types))

-- a file is refused for one fault, whatever the profile
abbrev pub AreRefusedAlike : Type 0
AreRefusedAlike = (profile other : Profile) (file : Data) (fault : TypesFault) → FailsWith fault (declared_types profile file) → FailsWith fault (declared_types other file)
