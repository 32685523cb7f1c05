-- Which revision a list is of, by the version that it names and how that is to match (Kubernetes docs, "Kubernetes API Concepts", "Resource versions").
use Rattle.std.specs.Prelude.{ℕ, Bool, true, false, ◌==◌, if◌then◌else◌, nat_le, nat_lt, Option, Some, None}
use Rattle.std.specs.declared.result.Result.{Result}
use Rattle.std.specs.declared.result.Result.TheVariants.{Ok, Err}
use Rattle.params.specs.declared.params.VersionMatch.{VersionMatch}
use Rattle.params.specs.declared.params.VersionMatch.TheVariants.{Exact, NotOlderThan}
use Rattle.params.specs.Values.{Token, Values}
use Rattle.lists.specs.declared.refusal.Refusal.{Refusal}
use Rattle.lists.specs.declared.refusal.Refusal.TheVariants.{Expired, TooLarge}

-- the revision that stands, if it is not below this one; or exactly this one
pub data WantedRevision : Type 0 where
  not_older_than : ℕ → WantedRevision
  exactly : ℕ → WantedRevision

-- without a match, a version is exact where the list is cut into pages
abbrev pub is_exact : Option VersionMatch → ℕ → Bool
is_exact None limit = nat_lt 0 limit
is_exact (Some Exact) limit = true
is_exact (Some NotOlderThan) limit = false

-- version 0 is any version
abbrev pub wanted_by_version : Option ℕ → Option VersionMatch → ℕ → WantedRevision
wanted_by_version None match limit = not_older_than 0
wanted_by_version (Some v) match limit = if v == 0 then not_older_than 0 else (if is_exact match limit then exactly v else not_older_than v)

-- a list that goes on is of its token's revision
abbrev pub wanted_by : Option Token → Values → WantedRevision
wanted_by (Some token) values = exactly token.revision
wanted_by None values = wanted_by_version values.version values.version_match values.limit

-- the revision itself, where the current and the compacted number are these
abbrev pub revision_by : ℕ → ℕ → WantedRevision → Result ℕ Refusal
revision_by current compacted (not_older_than v) = if nat_le v current then Ok current else Err (TooLarge v current)
revision_by current compacted (exactly v) =
    if nat_lt v compacted then Err (Expired v compacted)
    else (if nat_le v current then Ok v else Err (TooLarge v current))

abbrev pub revision_of : ℕ → ℕ → Values → Result ℕ Refusal
revision_of current compacted values = revision_by current compacted (wanted_by values.token values)
