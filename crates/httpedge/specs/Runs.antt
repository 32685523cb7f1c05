-- Events in turn: what the bytes of each ask, and the state after all of them.
use Rattle.std.specs.Prelude.{◌≡◌, ◌≢◌, ◌≤◌, ℕ, Bool, true, false, List, [], ◌∷◌, ◌++◌, map, Option, Some, None, option_and_then, ⊤}
use Rattle.std.specs.FinMap as fin
use Rattle.schema.specs.Shape.{text}
use Rattle.api_types.specs.Subresources.{has_status}
use Rattle.api_types.specs.TypesFile.{ServedShape}
use Rattle.history.specs.History.{Change}
use Rattle.history.specs.Whole.{IsGapless}
use Rattle.requests.specs.Asks.{CallDecision, Asks}
use Rattle.httpedge.specs.Connections.{Phase, waiting}
use Rattle.requests.specs.Decision.{undecided}
use Rattle.httpedge.specs.Steps.{State, Event, opens, comes, goes, pumps, ticks, compacts, retypes, stepped, RunsOutOfMemory, with_bytes_taken}

-- ---- what an event asks

-- the bytes that came before on a connection that waits, and these
abbrev pub all_bytes : Phase → List ℕ → Option (List ℕ)
all_bytes (waiting prefix) bytes = Some (prefix ++ bytes)
all_bytes _ bytes = None

-- all the bytes of the connection on which an event brings some, where it waits for them
abbrev pub bytes_at : State → Event → Option (List ℕ)
bytes_at s (comes id bytes) = option_and_then (λ c. all_bytes c.phase bytes) (fin.get s.connections id)
bytes_at s _ = None

-- what bytes ask; where none came nothing is decided
abbrev pub AsksIf : State → Option (List ℕ) → CallDecision → Type 0
AsksIf s None decision = decision ≡ undecided
AsksIf s (Some bytes) decision = Asks s.types bytes decision

-- ---- one event

-- the event leads to this state
abbrev pub Steps : State → Event → State → Type 0
Steps s e t = (decision : CallDecision) × AsksIf s (bytes_at s e) decision × (t ≡ stepped s e decision)

-- ---- events in turn

-- what happens to a hub: an event; one that finds no memory, at a tick on these connections; the next n bytes of a connection are taken
pub data Action : Type 0 where
  happens : Event → Action
  runs_out_of_memory : Event → (ℕ → Bool) → Action
  takes : ℕ → ℕ → Action

abbrev pub Follows : State → Action → State → Type 0
Follows s (happens e) t = Steps s e t
Follows s (runs_out_of_memory e ran_out_on) t = RunsOutOfMemory s e ran_out_on t
Follows s (takes id n) t = t ≡ with_bytes_taken s id n

abbrev pub Runs : State → List Action → State → Type 0
Runs s [] t = t ≡ s
Runs s (h ∷ hs) t = (mid : State) × Follows s h mid × Runs mid hs t

-- ---- where it happens, and what comes

-- the connections that it is of: one, all, or none
pub data Subject : Type 0 where
  connection : ℕ → Subject
  all_connections : Subject
  no_connection : Subject

abbrev pub subject : Event → Subject
subject (opens id) = connection id
subject (comes id bytes) = connection id
subject (goes id) = connection id
subject (pumps id max) = connection id
subject (ticks ms) = all_connections
subject (compacts c) = no_connection
subject (retypes file) = no_connection

-- the bytes that it brings
abbrev pub bytes_of : Event → List ℕ
bytes_of (comes id bytes) = bytes
bytes_of _ = []

-- the same of what happens
abbrev pub happens_on : Action → Subject
happens_on (happens e) = subject e
happens_on (runs_out_of_memory e ran_out_on) = subject e
happens_on (takes id n) = connection id

abbrev pub came : Action → List ℕ
came (happens e) = bytes_of e
came (runs_out_of_memory e ran_out_on) = bytes_of e
came (takes id n) = []

-- it is not of this connection
abbrev pub IsElsewhere : Subject → ℕ → Type 0
IsElsewhere (connection id) other = other ≢ id
IsElsewhere all_connections other = ⊥
IsElsewhere no_connection other = ⊤

abbrev pub HappensElsewhere : Action → ℕ → Type 0
HappensElsewhere h other = IsElsewhere (happens_on h) other

-- ---- what is out of a connection

-- no bytes are taken of this connection, and its peer doesn't go
abbrev pub KeepsOutput : Action → ℕ → Type 0
KeepsOutput (happens e) q = e ≢ goes q
KeepsOutput (runs_out_of_memory e ran_out_on) q = ⊤
KeepsOutput (takes id n) q = q ≢ id

-- a peer goes
abbrev pub peer_goes : Event → Bool
peer_goes (goes id) = true
peer_goes _ = false

-- ---- what it adds

-- what stays of a type that is served, whatever becomes of its lists and maps: its names, its profile, and whether it has a status
abbrev pub lasting : ServedShape → ServedShape × Bool
lasting t = (record t { shape = text }, has_status t)

-- t is a later state of the hub: its types have stayed but for lists and maps that have become atomic, changes were added, each of the next
-- revision, none is lost, and neither number went down
pub record HasGrown (s t : State) : Type 0 where
  pub types : map lasting t.types ≡ map lasting s.types
  pub changes : (more : List Change) × (t.machine.changes ≡ s.machine.changes ++ more) × IsGapless s.machine.current more t.machine.current
  pub current : s.machine.current ≤ t.machine.current
  pub compacted : s.machine.compacted ≤ t.machine.compacted
