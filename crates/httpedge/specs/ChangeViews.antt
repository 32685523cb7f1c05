-- What an event makes of the connection that it is of: words of private clauses, since what it makes of the hub is said without them.
use Rattle.std.specs.Prelude.{◌≡◌, ℕ, Bool, true, false, ◌++◌, List, Some, None}
use Rattle.std.specs.declared.result.Result.{Result}
use Rattle.std.specs.declared.result.Result.TheVariants.{Ok, Err}
use Rattle.api_types.specs.TypesFile.{ServedShape}
use Rattle.history.specs.History.{History}
use Rattle.httpedge.specs.declared.shared.Shared.{Shared}
use Rattle.httpedge.specs.SharedViews.{SharedRepresents}
use Rattle.requests.specs.Asks.{CallDecision, Asks}
use Rattle.httpedge.specs.declared.connection.Connection as conns
use Rattle.httpedge.specs.declared.connections.Connections.{Connections as TheConnections}
use Rattle.httpedge.specs.declared.effect.Done.{Done}
use Rattle.httpedge.specs.declared.effect.Effect.{Effect}
use Rattle.httpedge.specs.declared.event.ConnectionInput as changes
use Rattle.httpedge.specs.declared.event.ConnectionInput.TheVariants as change
use Rattle.httpedge.specs.Connections.{Connection, Phase, waiting, ended, gone, has_ended, is_open, is_waiting, is_watching, with_phase}
use Rattle.httpedge.specs.ConnectionViews.{BecomesAt, ConnectionRepresents, Receiving}
use Rattle.httpedge.specs.declared.fault.HubFault.{HubFault}
use Rattle.httpedge.specs.Effects.{change_between, effect_on, lines_by, no_change, unasked}
use Rattle.httpedge.specs.Steps.{Event, comes, goes, pumps, connection_after, machine_after, with_turn}
use Rattle.httpedge.specs.Watches.{pumped}

-- the event that changes the connection of an id so
abbrev pub event_on : ℕ → changes.ConnectionInput → Event
event_on id (change.Bytes bytes) = comes id bytes.now
event_on id (change.Lines max) = pumps id max
event_on id change.Gone = goes id

-- bytes make of a connection that waited what all its bytes ask, and what is shared then stands for the machine that they lead to
abbrev pub Receives : List ServedShape → History → ℕ → Connection → Phase → List ℕ → Connection → Done → Shared → Type 0
Receives types m last_tick c (waiting prefix) bytes c' did shared =
    (decision : CallDecision) × Asks types (prefix ++ bytes) decision × (c' ≡ connection_after types m last_tick c (prefix ++ bytes) decision)
    × Receiving types m last_tick c (prefix ++ bytes) decision did × SharedRepresents shared types (machine_after types m last_tick decision)
Receives types m last_tick c _ bytes c' did shared = (c' ≡ c) × (did ≡ unasked no_change) × SharedRepresents shared types m

-- the change makes this connection of one, and did this to it
abbrev pub Makes : List ServedShape → History → ℕ → changes.ConnectionInput → Connection → Connection → Done → Shared → Type 0
Makes types m last_tick (change.Bytes bytes) c c' did shared = Receives types m last_tick c c.phase bytes.now c' did shared
Makes types m last_tick (change.Lines max) c c' did shared =
    (c' ≡ with_turn (pumped m max) c) × (did ≡ unasked (change_between (Some c) (Some (with_turn (pumped m max) c)) (lines_by (pumped m max) c.phase) None)) × SharedRepresents shared types m
Makes types m last_tick change.Gone c c' did shared = (c' ≡ with_phase c (gone (has_ended c.phase))) × (did ≡ unasked no_change) × SharedRepresents shared types m

-- the same, where the code then holds it so
abbrev pub MakesRepresented : List ServedShape → History → ℕ → changes.ConnectionInput → Connection → conns.Connection → Done → Shared → Type 0
MakesRepresented types m last_tick what c d did shared = (c' : Connection) × Makes types m last_tick what c c' did shared × ConnectionRepresents types d c'

-- it takes memory for one that stands so
abbrev pub takes_memory_on : changes.ConnectionInput → Phase → Bool
takes_memory_on (change.Bytes bytes) st = is_waiting st
takes_memory_on (change.Lines max) st = is_watching st
takes_memory_on change.Gone st = false

-- the same among all connections, by what the call answers: what it did, or that it found no memory
abbrev pub Changes : List ServedShape → History → ℕ → changes.ConnectionInput → ℕ → Connection → TheConnections → TheConnections → Shared → Result Effect HubFault → Type 0
Changes types m last_tick what id c old new shared (Ok effect) =
    (c' : Connection) × (did : Done) × Makes types m last_tick what c c' did shared × (effect ≡ effect_on id did) × BecomesAt types (is_open c'.phase) c' id old new
Changes types m last_tick what id c old new shared (Err fault) =
    (takes_memory_on what c.phase ≡ true) × SharedRepresents shared types m × BecomesAt types false (with_phase c ended) id old new
