-- What happens to a hub while its connections are served (RFC 9112, section 9): events, and bytes that are taken, in turn.
use Rattle.std.specs.Prelude.{◌≡◌, ◌≢◌, ℕ, List, [], ◌∷◌, ◌++◌, Option, Some, ⊤}
use Rattle.std.specs.Io.KnownBytes.{Appends, Consumes}
use Rattle.std.specs.List.{flat_map}
use Rattle.httpedge.specs.Connections.{out_on}
use Rattle.std.specs.declared.result.Result.{Result}
use Rattle.httpedge.specs.HubViews.{IsActionOf, HubRepresents, ReportsOutcome as SendsWhy, ReportsFile, outcome_of}
use Rattle.httpedge.specs.Runs.{Follows, Action, HappensElsewhere, Runs, came, takes}
use Rattle.httpedge.specs.Steps.{Event, State, comes}
use Rattle.httpedge.specs.StreamViews.{event_in}
use Rattle.httpedge.specs.declared.fault.HubFault.{HubFault}
use Rattle.httpedge.specs.declared.hub.Hub.{Hub}

-- each of them is so
abbrev pub Each : (Action → Type 0) → List Action → Type 0
Each P [] = ⊤
Each P (h ∷ hs) = P h × Each P hs

-- what happens in turn, each of it so, leads from the hub before to the hub after
abbrev pub ReachesBy : (Action → Type 0) → Hub → Hub → Type 0
ReachesBy P old new = (s : State) → HubRepresents old s → (hs : List Action) × (t : State) × Runs s hs t × Each P hs × HubRepresents new t

abbrev pub IsAny : Action → Type 0
IsAny h = ⊤

abbrev pub Reaches : Hub → Hub → Type 0
Reaches old new = ReachesBy IsAny old new

-- the same, where no bytes come on any connection
abbrev pub BringsNone : Action → Type 0
BringsNone h = came h ≡ []

abbrev pub ReachesUnasked : Hub → Hub → Type 0
ReachesUnasked old new = ReachesBy BringsNone old new

-- ---- one event, and what comes after it

-- the answer is what the hub says of this event at this state: that it is refused, and why, or that it isn't; it leads to another
-- state, and from there, where others may happen in turn, to the hub after
abbrev pub AnswersAt : {A : Type 0} → Event → Result A HubFault → State → Hub → Type 0
AnswersAt e answer s new =
    SendsWhy s e (outcome_of answer) × (h : Action) × (between : State) × IsActionOf e (outcome_of answer) h × Follows s h between
    × (hs : List Action) × (t : State) × Runs between hs t × HubRepresents new t

-- the same at each state of the hub before; where the event brings a file that declares no types, its own fault is told
abbrev pub Answers : {A : Type 0} → Event → Result A HubFault → Hub → Hub → Type 0
Answers e answer old new = ReportsFile e answer × ((s : State) → HubRepresents old s → AnswersAt e answer s new)

-- ---- on one connection

-- on every other it happens elsewhere
abbrev pub IsOn : ℕ → Action → Type 0
IsOn id h = (other : ℕ) → other ≢ id → HappensElsewhere h other

-- the same, where no bytes come
abbrev pub IsUnaskedOn : ℕ → Action → Type 0
IsUnaskedOn id h = IsOn id h × BringsNone h

abbrev pub ReachesUnaskedOn : ℕ → Hub → Hub → Type 0
ReachesUnaskedOn id old new = ReachesBy (IsUnaskedOn id) old new

-- ---- bytes that come

-- some come on this connection, also where no memory is found
abbrev pub IsComing : ℕ → Action → Type 0
IsComing id h = (bytes : List ℕ) × (event_in h ≡ Some (comes id bytes))

-- these bytes come on the connection in order, and nothing else happens
abbrev pub Receives : ℕ → List ℕ → Hub → Hub → Type 0
Receives id received old new =
    (s : State) → HubRepresents old s → (hs : List Action) × (t : State) × Runs s hs t × Each (IsComing id) hs × (flat_map came hs ≡ received) × HubRepresents new t

-- ---- bytes that are taken

abbrev pub IsTaking : ℕ → Action → Type 0
IsTaking id h = (n : ℕ) × (h ≡ takes id n)

-- these bytes, the first of those that were out on the connection, are taken of it, the others are out still, and nothing else happens
abbrev pub SendsBytes : ℕ → List ℕ → Hub → Hub → Type 0
SendsBytes id sent_bytes old new =
    (s : State) → HubRepresents old s
    → (hs : List Action) × (t : State) × Runs s hs t × Each (IsTaking id) hs × (out_on s.connections id ≡ sent_bytes ++ out_on t.connections id) × HubRepresents new t

-- ---- a turn

-- the bytes that left a reader came on the connection, then those that a writer got were taken of it, and nothing else happened
pub record Talks (id : ℕ) (unread left held holds : Option (List ℕ)) (old new : Hub) : Type 0 where
  pub received : List ℕ
  pub sent_bytes : List ℕ
  pub between : Hub
  pub reads : Consumes unread left received
  pub receives : Receives id received old between
  pub writes : Appends held holds sent_bytes
  pub sends : SendsBytes id sent_bytes between new
