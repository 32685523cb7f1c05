-- What a server of streams makes of its hub.
use Rattle.std.specs.Prelude.{◌≡◌, ◌-◌, ℕ, Bool, true, false, nat_lt, Option, Some, None}
use Rattle.httpedge.specs.HubViews.{HubRepresents}
use Rattle.httpedge.specs.Runs.{Follows, Action, Steps, happens, runs_out_of_memory, takes}
use Rattle.httpedge.specs.Steps.{Event, State, compacts, refusal}
use Rattle.httpedge.specs.declared.hub.Hub.{Hub}

-- each state of the hub before and one of the hub after stand in this relation
abbrev pub MovesBy : (State → State → Type 0) → Hub → Hub → Type 0
MovesBy R old new = (s : State) → HubRepresents old s → (t : State) × R s t × HubRepresents new t

abbrev pub event_in : Action → Option Event
event_in (happens e) = Some e
event_in (runs_out_of_memory e ran_out_on) = Some e
event_in (takes id n) = None

-- the event, also where it finds no memory
abbrev pub Hands : Event → State → State → Type 0
Hands e s t = (h : Action) × (event_in h ≡ Some e) × Follows s h t

-- the event, which isn't refused and finds memory
abbrev pub IsDone : Event → State → State → Type 0
IsDone e s t = (refusal s e ≡ None) × Steps s e t

abbrev pub HandsIf : Bool → Event → State → State → Type 0
HandsIf true e s t = Hands e s t
HandsIf false e s t = t ≡ s

-- so many revisions before the current one are kept, where that raises the compacted number
abbrev pub Compacts : ℕ → State → State → Type 0
Compacts keep s t = HandsIf (nat_lt s.machine.compacted (s.machine.current - keep)) (compacts (s.machine.current - keep)) s t
