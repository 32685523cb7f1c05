-- What an object's text says: of one type and key, it is the text of one version and what else the system says, one content and its owners.
use Rattle.std.specs.Prelude.{◌≡◌, ◌≤◌, ◌<◌, ◌^◌, ℕ, List, Option, IfSome}
use Rattle.std.specs.declared.result.Result.{Result}
use Rattle.std.specs.declared.result.Result.TheVariants.{Ok, Err}
use Rattle.schema.specs.ObjectShape.{IsObjectShape}
use Rattle.schema.specs.Shape.{Shape}
use Rattle.objects.specs.State.{State}
use Rattle.objects.specs.SystemMetadata.{Stamp, System}
use Rattle.objects.specs.WellTyped.{IsWellTypedState}
use Rattle.objects.specs.ObjectText.{Identity, object_text}
use Rattle.objects.specs.Views.{state_of, stored_stamp}
use Rattle.objects.specs.declared.fault.ObjectFault.{ObjectFault}
use Rattle.objects.specs.declared.fault.ObjectFault.TheVariants.{NotCanonical, Memory}
use Rattle.objects.specs.declared.system.Stored.{Stored}

-- the highest version
abbrev pub max_version : ℕ
max_version = 9223372036854775807

-- a generation is a whole number of 64 bits
abbrev pub IsCounted : Option System → Type 0
IsCounted system = IfSome system (λ said. said.generation < 2 ^ 64)

-- the text of an object of which the system says this: a content of the type's schema, and owners of its paths
pub record IsObjectText (s : Shape) (of : Identity) (stamp : Stamp) (state : State) (text : List ℕ) : Type 0 where
  pub well_typed : IsWellTypedState s state
  pub numbered : stamp.version ≤ max_version
  pub counted : IsCounted stamp.system
  pub is_text : text ≡ object_text s of stamp state

-- an answer is what the text says; refused, the text is no object's of this type and key
abbrev pub IsReadBack : Shape → Identity → List ℕ → Result Stored ObjectFault → Type 0
IsReadBack s of text (Ok o) = IsObjectText s of (stored_stamp o) (state_of o.owned) text
IsReadBack s of text (Err NotCanonical) = (stamp : Stamp) (state : State) → ¬ IsObjectText s of stamp state text
IsReadBack s of text (Err Memory) = Unit {0}

-- a text says one stamp and one state
abbrev pub OneForOne : Type 0
OneForOne = (s : Shape) (of : Identity) (v w : Stamp) (a b : State) (text : List ℕ) → IsObjectShape s → IsObjectText s of v a text → IsObjectText s of w b text → (v ≡ w) × (a ≡ b)
