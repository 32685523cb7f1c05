-- What becomes of an object whose type has another schema from here on.
-- Server-Side Apply, "Compatibility across topology changes".
use Rattle.std.specs.Prelude.{◌≡◌, ◌⊎◌, Bool, true, ◌++◌}
use Rattle.std.specs.FinSet as set
use Rattle.fieldpath.specs.Paths.{PathTexts}
use Rattle.pathmap.specs.Contents.{Content, PathSet, dom}
use Rattle.schema.specs.Place.{place_of}
use Rattle.schema.specs.Shape.{Shape}
use Rattle.typed.specs.Carried.{IsCarried, IsNewLeaf, carried}
use Rattle.objects.specs.Carried.{carried_owners}
use Rattle.objects.specs.Owners.{Manager}
use Rattle.objects.specs.WellTyped.{IsWellTypedState, Owns, IsPresent}
use Rattle.objects.specs.State.{State}
use Rattle.ownership.specs.Keeping.{StoodUnowned, is_end}
use Rattle.ownership.specs.Sides.{OwnSides}

-- the leaves that were made of what stood at or below them
abbrev pub made : Content → Content → PathSet
made old new = set.difference (dom new) (dom old)

-- with this content; each manager owns those of its paths that still stand, and each new leaf at or below which it owned one
abbrev pub with_content : State → Content → State
with_content old content = record { content = content; owners = carried_owners (dom content) (made old.content content) old.owners }

-- the object under the new shape
unfoldable pub carried_state : Shape → Shape → State → State
carried_state s t old = with_content old (carried s t old.content)

-- who owned a path at or below a new leaf owns it
abbrev pub LeavesPass : Shape → Shape → State → State → Type 0
LeavesPass s t old new = (k : Manager) (p q : PathTexts) → IsNewLeaf s t p → Owns old k (p ++ q) → Owns new k p

-- all other owned paths stay
abbrev pub OthersStay : Shape → Shape → State → State → Type 0
OthersStay s t old new = (k : Manager) (p : PathTexts) → Owns old k p → ((above rest : PathTexts) → IsNewLeaf s t above → p ≡ above ++ rest → ⊥) → Owns new k p

-- nobody owned this path or one below it
abbrev pub NobodyOwned : State → PathTexts → Type 0
NobodyOwned old p = (k : Manager) (q : PathTexts) → ¬ (Owns old k (p ++ q))

-- each leaf and each set item has an owner, unless it stood before, with this value, without one, or is a new leaf that was made of items inside
-- which nobody owned anything
abbrev pub LeavesOwnedStill : Shape → Shape → State → State → Type 0
LeavesOwnedStill s t old new =
    (p : PathTexts) → IsPresent new.content p → is_end (place_of t p) ≡ true → ((k : Manager) × Owns new k p) ⊎ StoodUnowned old new p ⊎ IsNewLeaf s t p × NobodyOwned old p

-- what a carry promises
pub record Carries (s t : Shape) (old new : State) : Type 0 where
  pub is : new ≡ carried_state s t old
  pub content : IsCarried s t old.content new.content
  pub well_typed : IsWellTypedState t new
  pub leaves : LeavesPass s t old new
  pub others : OthersStay s t old new
  pub sides : (is_apart : Bool) → OwnSides is_apart old → OwnSides is_apart new
  pub owned : LeavesOwnedStill s t old new
