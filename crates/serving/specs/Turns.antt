-- The turn of a connection (RFC 9112, section 9): what came on it, and what its stream was given.
use Rattle.std.specs.Prelude.{◌≡◌, ◌≢◌, ℕ, Bool, true, false, ◌==◌, if◌then◌else◌, List, [], ◌++◌, length, Option, Some, None}
use Rattle.std.specs.FinMap as fin
use Rattle.std.specs.List.{flat_map}
use Rattle.httpedge.specs.Connections.{Connection}
use Rattle.httpedge.specs.Runs.{Action, Runs, Subject, connection, all_connections, no_connection, came, happens_on}
use Rattle.httpedge.specs.Steps.{State}

-- something of these connections is of this one
abbrev pub is_on : Subject → ℕ → Bool
is_on (connection k) id = k == id
is_on all_connections id = true
is_on no_connection id = false

-- the bytes that come on a connection
abbrev pub came_on : ℕ → Action → List ℕ
came_on id h = if is_on (happens_on h) id then came h else []

-- these bytes, a prefix of what was written on the connection, are those that were taken of it; of an unknown one there are none
abbrev pub IsGiven : List ℕ → Option Connection → Type 0
IsGiven given None = given ≡ []
IsGiven given (Some c) = (c.taken ≡ length given) × ((rest : List ℕ) × (c.written ≡ given ++ rest))

-- events in turn in which the bytes received come on the connection, and those sent are taken of it after the ones that its stream
-- was given before; every other connection stays as it is
abbrev pub Turns : ℕ → State → List ℕ → List ℕ → State → Type 0
Turns id s received sent_bytes t =
    (hs : List Action) × Runs s hs t × (flat_map (came_on id) hs ≡ received)
    × ((given : List ℕ) → IsGiven given (fin.get s.connections id) → IsGiven (given ++ sent_bytes) (fin.get t.connections id))
    × ((other : ℕ) → other ≢ id → fin.get t.connections other ≡ fin.get s.connections other)
