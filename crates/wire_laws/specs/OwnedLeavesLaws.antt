-- Where each leaf and each set item of an object has an owner, what writes and changes of types leave of that.
-- Server-Side Apply, "Field management" and "Compatibility across topology changes".
use Rattle.std.specs.Prelude.{◌≡◌, ◌⊎◌, true}
use Rattle.fieldpath.specs.Paths.{PathTexts}
use Rattle.schema.specs.Lawful.{is_well_formed}
use Rattle.schema.specs.Place.{place_of}
use Rattle.schema.specs.Shape.{Shape}
use Rattle.typed.specs.Carried.{IsNewLeaf}
use Rattle.objects.specs.Owners.{Manager}
use Rattle.objects.specs.WellTyped.{IsPresent, IsWellTypedState, Owns}
use Rattle.objects.specs.State.{State}
use Rattle.ownership.specs.Carry.{LeavesOwnedStill, NobodyOwned}
use Rattle.ownership.specs.Keeping.{LeavesOwned, is_end}

-- each leaf and each set item of the content has an owner
abbrev pub AllLeavesOwned : Shape → State → Type 0
AllLeavesOwned s state = (p : PathTexts) → IsPresent state.content p → is_end (place_of s p) ≡ true → (k : Manager) × Owns state k p

-- each leaf and each set item has an owner, but a new leaf that was made of items inside which nobody owned anything
abbrev pub AllButNewLeavesOwned : Shape → Shape → State → State → Type 0
AllButNewLeavesOwned s t old new =
    (p : PathTexts) → IsPresent new.content p → is_end (place_of t p) ≡ true → ((k : Manager) × Owns new k p) ⊎ IsNewLeaf s t p × NobodyOwned old p

-- where each has one, what an apply and an update promise (`LeavesOwned`) leaves none without
abbrev pub WritesKeepOwners : Type 0
WritesKeepOwners = (s : Shape) (old new : State) → LeavesOwned s old new → AllLeavesOwned s old → AllLeavesOwned s new

-- where each has one, what a carry promises (`LeavesOwnedStill`) leaves none without but such new leaves
abbrev pub CarriesKeepOwners : Type 0
CarriesKeepOwners =
    (s t : Shape) (old new : State) → is_well_formed s ≡ true → IsWellTypedState s old → LeavesOwnedStill s t old new → AllLeavesOwned s old → AllButNewLeavesOwned s t old new
