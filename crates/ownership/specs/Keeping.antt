-- What an apply keeps (Server-Side Apply, "Field management", "Conflicts", "Transferring ownership").
use Rattle.std.specs.Prelude.{◌≡◌, ◌⊎◌, Bool, true, false, [], Option, Some, None, is_some}
use Rattle.std.specs.FinMap as fin
use Rattle.fieldpath.specs.Paths.{PathTexts}
use Rattle.pathmap.specs.Contents.{Content}
use Rattle.schema.specs.Place.{place_of}
use Rattle.schema.specs.Shape.{Shape}
use Rattle.schema.specs.declared.place.Place.{Place}
use Rattle.schema.specs.declared.place.Place.TheVariants.{Leaf, SetItem, MapItem}
use Rattle.objects.specs.Owners.{Manager}
use Rattle.objects.specs.WellTyped.{IsPresent, Owns}
use Rattle.objects.specs.State.{State}
use Rattle.ownership.specs.Apply.{conflicts, applied}

-- every path that another manager owned keeps its value and its owner
abbrev pub OthersKeep : State → State → Manager → Type 0
OthersKeep old new m = (k : Manager) (p : PathTexts) → ¬ (k ≡ m) → Owns old k p → (fin.get new.content p ≡ fin.get old.content p) × Owns new k p

-- each path of the content has a place in the schema
abbrev pub HasPlaces : Shape → Content → Type 0
HasPlaces s c = (p : PathTexts) → IsPresent c p → is_some (place_of s p) ≡ true

-- leaves and set items, below which nothing has a place
abbrev pub is_end : Option Place → Bool
is_end None = false
is_end (Some Leaf) = true
is_end (Some SetItem) = true
is_end (Some MapItem) = false

-- it stood before, with this value, and nobody owned it
abbrev pub StoodUnowned : State → State → PathTexts → Type 0
StoodUnowned old new p = (fin.get new.content p ≡ fin.get old.content p) × ((k : Manager) → ¬ (Owns old k p))

-- each leaf and each set item of the new content has an owner, unless it stood before, with this value, without one
abbrev pub LeavesOwned : Shape → State → State → Type 0
LeavesOwned s old new = (p : PathTexts) → IsPresent new.content p → is_end (place_of s p) ≡ true → ((k : Manager) × Owns new k p) ⊎ StoodUnowned old new p

-- the same apply, with or without force, finds no conflict and changes nothing
abbrev pub IsSettled : State → Content → Manager → Type 0
IsSettled state body m = (conflicts state body m ≡ []) × (applied state body m ≡ state)
