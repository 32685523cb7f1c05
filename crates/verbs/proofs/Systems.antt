-- What the system may say of an object.
use Rattle.std.proofs.Common.{◌≤◌, ℕ, Option, Some, None, arith, refl}
use Rattle.api_types.specs.TypesFile.{ServedShape}
use Rattle.api_types.specs.declared.profile.Profile.{Profile}
use Rattle.api_types.specs.declared.profile.Profile.TheVariants.{Plain, Discovered, Kubernetes}
use Rattle.objects.specs.SystemMetadata.{System}
use Rattle.verbs.specs.IsSystem.{IsSystem, IsSystemBy, IsSystemOf}

-- it may say nothing
nothing_by : (p : Profile) (revision : ℕ) → IsSystemBy p revision None
nothing_by Plain revision = refl
nothing_by Discovered revision = refl
nothing_by (Kubernetes epoch) revision = tt

pub nothing_said : (t : ServedShape) (revision : ℕ) → IsSystemOf t revision None
nothing_said t revision = nothing_by t.profile revision

-- what it may say at a revision it may say at a later one
later_one : (epoch r q : ℕ) (s : System) → r ≤ q → IsSystem epoch r s → IsSystem epoch q s
later_one epoch r q s later is =
    let created : is.creation.0 ≤ r = is.creation.1 in
    let counted : s.generation ≤ r = is.generation.1 in
    record {
      creation = (is.creation.0, omega (arith, created, later), is.creation.2);
      created = is.created;
      generation = (is.generation.0, omega (arith, counted, later));
      deleted = is.deleted;
    }

pub later_by : (p : Profile) (r q : ℕ) (system : Option System) → r ≤ q → IsSystemBy p r system → IsSystemBy p q system
later_by Plain r q system later is = is
later_by Discovered r q system later is = is
later_by (Kubernetes epoch) r q None later is = tt
later_by (Kubernetes epoch) r q (Some s) later is = later_one epoch r q s later is
