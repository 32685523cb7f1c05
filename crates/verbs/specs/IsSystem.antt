-- What may stand in an object's system metadata: an invariant of the machine's texts (Kubernetes API conventions, "Metadata").
use Rattle.std.specs.Prelude.{◌≡◌, ◌≤◌, ℕ, IfSome, List, Option, None}
use Rattle.api_types.specs.TypesFile.{ServedShape}
use Rattle.api_types.specs.declared.profile.Profile.{Profile}
use Rattle.api_types.specs.declared.profile.Profile.TheVariants.{Plain, Discovered, Kubernetes}
use Rattle.objects.specs.SystemMetadata.{System}
use Rattle.system_metadata.specs.Moments.{moment_text}
use Rattle.system_metadata.specs.Uids.{uid}

-- the text of a second
abbrev pub IsMomentText : List ℕ → Type 0
IsMomentText text = (second : ℕ) × (text ≡ moment_text second)

-- the uid is that of a revision up to this one, each generation is of a revision of its own, and moments are moments
pub record IsSystem (epoch revision : ℕ) (s : System) : Type 0 where
  pub creation : (r : ℕ) × (r ≤ revision) × (s.uid ≡ uid epoch r)
  pub created : IsMomentText s.created
  pub generation : (1 ≤ s.generation) × (s.generation ≤ revision)
  pub deleted : IfSome s.deleted IsMomentText

-- of objects of a plain or a discovered type it says nothing
abbrev pub IsSystemBy : Profile → ℕ → Option System → Type 0
IsSystemBy Plain revision system = system ≡ None
IsSystemBy Discovered revision system = system ≡ None
IsSystemBy (Kubernetes epoch) revision system = IfSome system (IsSystem epoch revision)

abbrev pub IsSystemOf : ServedShape → ℕ → Option System → Type 0
IsSystemOf t revision system = IsSystemBy t.profile revision system
