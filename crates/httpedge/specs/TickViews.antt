-- Connections at a tick, one after the other. Words of private clauses, step by step as the code goes; what a tick makes of the hub is said
-- without them.
use Rattle.std.specs.Prelude.{◌≡◌, ℕ, Bool, true, false, List, [], ◌∷◌, ◌++◌, Option, Some, None, Vec, option_map, unwrap_or}
use Rattle.std.specs.declared.alloc.Global.{Global}
use Rattle.std.specs.List.{filter}
use Rattle.std.specs.List.Sorted.{IsStrictlySortedBy}
use Rattle.std.specs.Ordering.{nat_cmp}
use Rattle.std.specs.FinMap as fin
use Rattle.api_types.specs.TypesFile.{ServedShape}
use Rattle.httpedge.specs.declared.shared.Shared.{Shared}
use Rattle.httpedge.specs.declared.connection.Connection as conns
use Rattle.httpedge.specs.declared.connections.Connections.{Connections as TheConnections}
use Rattle.httpedge.specs.declared.effect.Change.{Change}
use Rattle.httpedge.specs.Connections.{Connection, Connections, each}
use Rattle.httpedge.specs.ConnectionViews.{ConnectionRepresentsAt, PartsRepresent}
use Rattle.httpedge.specs.Effects.{change_between, change_in, ids_in, if_something, lines_by, tells}
use Rattle.httpedge.specs.Steps.{State, killed_or_ticked, with_tick, with_turn, writes_at}
use Rattle.httpedge.specs.Watches.{ticked}

-- the code holds these connections
abbrev pub ConnectionsRepresent : List ServedShape → (ℕ → Option conns.Connection) → Connections → Type 0
ConnectionsRepresent types held all = (q : ℕ) → ConnectionRepresentsAt types (held q) (fin.get all q)

-- the turn of a connection writes something
abbrev pub due_on : ℕ → Connections → ℕ → Bool
due_on ms all id = unwrap_or (option_map (λ c. writes_at ms c.phase) (fin.get all id)) false

abbrev pub put_where : Option Connection → (Connection → Connection) → Connections → ℕ → Connections
put_where None f all id = all
put_where (Some c) f all id = fin.insert all id (f c)

-- the connection of an id had its turn, or found no memory
abbrev pub ticked_at : List ServedShape → ℕ → Bool → Connections → ℕ → Connections
ticked_at types ms ran_out all id = put_where (fin.get all id) (killed_or_ticked types ms ran_out) all id

-- it found none only where its turn writes something
abbrev pub TicksAt : List ServedShape → ℕ → ℕ → Connections → (ℕ → Option conns.Connection) → Bool → Type 0
TicksAt types ms id before held ran_out = ConnectionsRepresent types held (ticked_at types ms ran_out before id) × (ran_out ≡ true → due_on ms before id ≡ true)

-- ---- what the turns did

-- what a connection's turn does to it, if there is one
abbrev pub lines_if : List ServedShape → ℕ → Option Connection → ℕ
lines_if types ms o = unwrap_or (option_map (λ c. lines_by (ticked types ms) c.phase) o) 0

abbrev pub ticked_change : List ServedShape → ℕ → Option Connection → Change
ticked_change types ms o = change_between o (option_map (with_turn (ticked types ms)) o) (lines_if types ms o) None

-- the turn of the connection of an id is told after these, if it does something, unless it found no memory
abbrev pub TellsAt : List ServedShape → ℕ → ℕ → Connections → List (ℕ × Change) → List (ℕ × Change) → Bool → Type 0
TellsAt types ms id before old new ran_out = ran_out ≡ false → new ≡ old ++ filter tells ((id, ticked_change types ms (fin.get before id)) ∷ [])

-- these tell of each turn that does something, and of no other, by ids that rise
pub record TellAll (types : List ServedShape) (ms : ℕ) (before : Connections) (told : List (ℕ × Change)) : Type 0 where
  pub rises : IsStrictlySortedBy nat_cmp (ids_in told)
  pub says : (q : ℕ) → change_in told q ≡ if_something (ticked_change types ms (fin.get before q))

-- ---- all of them

-- each had its turn, or found no memory
abbrev pub ticked_all : List ServedShape → ℕ → (ℕ → Bool) → Connections → Connections
ticked_all types ms which before = each (λ q c. killed_or_ticked types ms (which q) c) before

-- one of these found none, where its turn writes something
abbrev pub SomeRanOutOfMemory : ℕ → (ℕ → Bool) → Connections → Type 0
SomeRanOutOfMemory ms which before = (q : ℕ) × (which q ≡ true) × (due_on ms before q ≡ true)

-- what they did is told, unless one of them found none
abbrev pub Told : List ServedShape → ℕ → (ℕ → Bool) → Connections → Option (Vec (ℕ × Change) Global) → Type 0
Told types ms which before None = SomeRanOutOfMemory ms which before
Told types ms which before (Some told) = ((q : ℕ) → which q ≡ false) × TellAll types ms before told.items

abbrev pub TicksAll : List ServedShape → ℕ → Connections → (ℕ → Option conns.Connection) → Option (Vec (ℕ × Change) Global) → Type 0
TicksAll types ms before held told = (which : ℕ → Bool) × ConnectionsRepresent types held (ticked_all types ms which before) × Told types ms which before told

-- the same of the connections of a hub
abbrev pub TicksIn : Shared → ℕ → State → TheConnections → Option (Vec (ℕ × Change) Global) → Type 0
TicksIn shared ms s k told =
    (which : ℕ → Bool) × PartsRepresent shared k (with_tick s ms (ticked_all s.types ms which s.connections)) × Told s.types ms which s.connections told
