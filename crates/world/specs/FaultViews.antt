-- Why a run ends before its last event.
use Rattle.std.specs.Prelude.{◌≡◌, ℕ, Option, Some, None, ⊤}
use Rattle.std.specs.declared.result.Result.{Result}
use Rattle.std.specs.declared.result.Result.TheVariants.{Ok, Err}
use Rattle.world.specs.declared.fault.RunFault.{RunFault}
use Rattle.world.specs.declared.fault.RunFault.TheVariants as stop
use Rattle.world.specs.declared.fault.WorldFault.{WorldFault}
use Rattle.world.specs.declared.fault.WorldFault.TheVariants.{Memory, Store, Settings, Link}

abbrev pub world_fault_of : RunFault → WorldFault
world_fault_of stop.Memory = Memory
world_fault_of stop.Store = Store
world_fault_of stop.Link = Link

-- a call with settings of this fault, or of none: it refuses them by just this number, and does all else only where there is none; that
-- memory is out says nothing of them
abbrev pub Answers : {A : Type 0} → Option ℕ → Result A WorldFault → Type 0
Answers fault (Ok x) = fault ≡ None
Answers fault (Err Memory) = ⊤
Answers fault (Err Store) = fault ≡ None
Answers fault (Err (Settings n)) = fault ≡ Some n
Answers fault (Err Link) = fault ≡ None

-- the same of a call that does nothing else
abbrev pub Refuses : {A : Type 0} → Option ℕ → Result A WorldFault → Type 0
Refuses fault (Ok x) = fault ≡ None
Refuses fault (Err Memory) = ⊤
Refuses fault (Err Store) = ⊥
Refuses fault (Err (Settings n)) = fault ≡ Some n
Refuses fault (Err Link) = ⊥
