-- What a write starts from: the object that stands, and what its text says.
use Rattle.std.specs.Prelude.{◌≡◌, Option, option_map}
use Rattle.api_types.specs.TypesFile.{ServedShape}
use Rattle.objects.specs.WellTyped.{IsWellTypedState}
use Rattle.objects.specs.Views.{state_of, system_of}
use Rattle.history.specs.History.{Object}
use Rattle.verbs.specs.Machine.{state_of_existing, system_of_existing}
use Rattle.verbs.specs.Views.{object_of}
use Rattle.verbs.specs.declared.existing.Existing.{Existing}

abbrev pub object_in : Existing → Option Object
object_in existing = option_map object_of existing.object

-- the state is the one that the object's text says under the type, or nothing where no object stands
abbrev pub IsDecoded : ServedShape → Existing → Type 0
IsDecoded t existing = state_of existing.state ≡ state_of_existing t (object_in existing)

-- so is what the system says of it
abbrev pub HasItsSystem : ServedShape → Existing → Type 0
HasItsSystem t existing = option_map system_of existing.system ≡ system_of_existing t (object_in existing)

-- both are what the text says, and the state is well-typed: a content of the type, with owners of its paths
pub record IsWellDecoded (t : ServedShape) (existing : Existing) : Type 0 where
  pub state : IsDecoded t existing
  pub well_typed : IsWellTypedState t.shape (state_of existing.state)
  pub system : HasItsSystem t existing
