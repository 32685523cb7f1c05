-- What a server's calls make of its hub.
use Rattle.std.specs.Prelude.{◌≡◌, ℕ, false, List, [], Option, Result, Ok, Err, OnOk}
use Rattle.std.specs.Io.KnownBytes.{Appends, Consumes}
use Rattle.httpedge.specs.Connections.{open_on, out_on}
use Rattle.httpedge.specs.HubViews.{HubRepresents}
use Rattle.httpedge.specs.Runs.{Action, Runs}
use Rattle.httpedge.specs.Steps.{State, pumps}
use Rattle.httpedge.specs.StreamViews.{MovesBy, Hands}
use Rattle.httpedge.specs.declared.hub.Hub.{Hub}
use Rattle.serving.specs.declared.server.Limits.{Limits}
use Rattle.serving.specs.Rounds.{Rounds}
use Rattle.serving.specs.Turns.{Turns}

-- the hub before and after a turn of the connection, by the bytes received and sent
abbrev pub HasTurns : ℕ → Hub → List ℕ → List ℕ → Hub → Type 0
HasTurns id old received sent_bytes new = (s : State) → HubRepresents old s → (t : State) × Turns id s received sent_bytes t × HubRepresents new t

-- the same of no bytes, after which the connection isn't open
abbrev pub Goes : ℕ → Hub → Hub → Type 0
Goes id old new = (s : State) → HubRepresents old s → (t : State) × Turns id s [] [] t × (open_on t.connections id ≡ false) × HubRepresents new t

-- the hub before and after such a turn, after which, where it ends well, all that was written on the connection was taken
abbrev pub ServesAll : {A E : Type 0} → Result A E → ℕ → Hub → List ℕ → List ℕ → Hub → Type 0
ServesAll result id old received sent_bytes new =
    (s : State) → HubRepresents old s → (t : State) × Turns id s received sent_bytes t × OnOk result (out_on t.connections id ≡ []) × HubRepresents new t

-- all that was written on the connection was taken; after an error it isn't open
abbrev pub IsLeft : {A E : Type 0} → Result A E → ℕ → State → Type 0
IsLeft (Ok a) id t = out_on t.connections id ≡ []
IsLeft (Err e) id t = open_on t.connections id ≡ false

-- the turn of a watch that may write so many lines, and ends so
abbrev pub IsPumped : {A E : Type 0} → Result A E → ℕ → ℕ → List ℕ → State → State → Type 0
IsPumped result id lines sent_bytes s t = (mid : State) × Hands (pumps id lines) s mid × Turns id mid [] sent_bytes t × IsLeft result id t

-- a turn that ends so
abbrev pub HasTurn : {A E : Type 0} → Result A E → ℕ → Hub → List ℕ → List ℕ → Hub → Type 0
HasTurn result id old received sent_bytes new = (s : State) → HubRepresents old s → (t : State) × Turns id s received sent_bytes t × IsLeft result id t × HubRepresents new t

-- a connection was served: what left the reader came on it, and what the writer, which held these bytes, got was taken of it
abbrev pub Served : ℕ → Option (List ℕ) → Option (List ℕ) → Option (List ℕ) → Hub → Hub → Type 0
Served id unread left held old new =
    (holds : Option (List ℕ)) × (received : List ℕ) × (sent_bytes : List ℕ) × Consumes unread left received × Appends held holds sent_bytes × HasTurns id old received sent_bytes new

-- a turn of a connection
abbrev pub ServesOne : Hub → Hub → Type 0
ServesOne old new = (id : ℕ) × (received : List ℕ) × (sent_bytes : List ℕ) × HasTurns id old received sent_bytes new

-- so many of them, each with what is done after it
abbrev pub DoesRounds : Limits → Hub → Hub → Type 0
DoesRounds limits old new = (n : ℕ) × MovesBy (Rounds limits.keep limits.lines n) old new

-- events in turn lead from the hub before to the hub after
abbrev pub Reaches : Hub → Hub → Type 0
Reaches old new = (s : State) → HubRepresents old s → (hs : List Action) × (t : State) × Runs s hs t × HubRepresents new t
