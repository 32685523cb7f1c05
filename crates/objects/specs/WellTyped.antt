-- When a state is well-typed: a content of its schema, and owners of its paths.
use Rattle.std.specs.Prelude.{◌≡◌, true}
use Rattle.std.specs.FinSet as set
use Rattle.fieldpath.specs.Paths.{PathTexts}
use Rattle.schema.specs.Shape.{Shape}
use Rattle.typed.specs.Fitting.{IsContent}
pub use Rattle.typed.specs.Fitting.{IsPresent}
use Rattle.objects.specs.Owners.{Manager, HavePaths, owned_by}
use Rattle.objects.specs.State.{State}

abbrev pub Owns : State → Manager → PathTexts → Type 0
Owns state k p = set.contains (owned_by state.owners k) p ≡ true

-- each owned path is in the content
abbrev pub OwnedArePresent : State → Type 0
OwnedArePresent state = (k : Manager) (p : PathTexts) → Owns state k p → IsPresent state.content p

-- each manager with an entry owns a path, and each owned path is in the content
abbrev pub OwnersWithin : State → Type 0
OwnersWithin state = HavePaths state.owners × OwnedArePresent state

-- a content of the schema, and owners of its paths
abbrev pub IsWellTypedState : Shape → State → Type 0
IsWellTypedState s state = IsContent s state.content × OwnersWithin state
