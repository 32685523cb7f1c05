-- What a hub and its events stand for.
use Rattle.std.specs.Prelude.{◌≡◌, ℕ, Bool, true, false, Option, Some, None, IfErr, IfSome}
use Rattle.std.specs.declared.result.Result.{Result}
use Rattle.std.specs.declared.result.Result.TheVariants.{Ok, Err}
use Rattle.serde_json.specs.View.{view}
use Rattle.api_types.specs.declared.fault.TypesFault.{TypesFault}
use Rattle.verbs.specs.Retyping.{not_types, not_lawful, too_few_revisions}
use Rattle.verbs.specs.Views.{IsFileFault}
use Rattle.httpedge.specs.declared.effect.Effect.{Effect}
use Rattle.httpedge.specs.declared.event.Event as events
use Rattle.httpedge.specs.declared.event.Event.TheVariants as event
use Rattle.httpedge.specs.declared.fault.HubFault as faults
use Rattle.httpedge.specs.declared.fault.HubFault.TheVariants as fault
use Rattle.httpedge.specs.declared.fault.HubRefusal as refusals
use Rattle.httpedge.specs.declared.fault.HubRefusal.TheVariants as hub_refusal
use Rattle.httpedge.specs.declared.hub.Hub as hubs
use Rattle.httpedge.specs.ConnectionViews.{PartsRepresent}
use Rattle.httpedge.specs.Effects.{Does}
use Rattle.httpedge.specs.Runs.{Action, Steps, happens, runs_out_of_memory}
use Rattle.httpedge.specs.Steps.{Event, Refusal, RunsOutOfMemory, State, early_refusal, refusal, opens, comes, goes, pumps, ticks, compacts, retypes, id_not_above, unknown_id, no_lines, tick_back, compaction_refused, types_refused}

abbrev pub event_of : events.Event → Event
event_of (event.Open id) = opens id
event_of (event.In id bytes) = comes id bytes.items
event_of (event.Gone id) = goes id
event_of (event.Pump id max) = pumps id max
event_of (event.Tick ms) = ticks ms
event_of (event.Compact c) = compacts c
event_of (event.Retype file) = retypes (view file)

-- the hub is in this state
abbrev pub HubRepresents : hubs.Hub → State → Type 0
HubRepresents hub s = PartsRepresent hub.shared hub.connections s × (hub.last_tick ≡ s.last_tick)

-- which events ask the store: bytes, which may be a call, a pump, a compaction, other types
abbrev pub asks_store : Event → Bool
asks_store (opens id) = false
asks_store (comes id bytes) = true
asks_store (goes id) = false
asks_store (pumps id max) = true
asks_store (ticks ms) = false
asks_store (compacts c) = true
asks_store (retypes file) = true

-- how a call of the hub ends: the event was not refused; it was; no memory was found, or the store failed
pub data Outcome : Type 0 where
  done : Outcome
  refused : Refusal → Outcome
  out_of_memory : Outcome

abbrev pub refusal_of : refusals.HubRefusal → Refusal
refusal_of hub_refusal.IdNotAbove = id_not_above
refusal_of hub_refusal.UnknownId = unknown_id
refusal_of hub_refusal.NoLines = no_lines
refusal_of hub_refusal.TickBack = tick_back
refusal_of hub_refusal.CompactionRefused = compaction_refused
refusal_of (hub_refusal.NotTypes file) = types_refused not_types
refusal_of hub_refusal.NotLawful = types_refused not_lawful
refusal_of hub_refusal.TooFewRevisions = types_refused too_few_revisions

abbrev pub outcome_of : {A : Type 0} → Result A faults.HubFault → Outcome
outcome_of (Ok a) = done
outcome_of (Err (fault.Refused which)) = refused (refusal_of which)
outcome_of (Err (fault.Failed what)) = out_of_memory

-- which fault of a types file is reported
abbrev pub reported_fault : faults.HubFault → Option TypesFault
reported_fault (fault.Refused (hub_refusal.NotTypes which)) = Some which
reported_fault _ = None

-- where a file is reported to be no types file, the fault is the file's own
abbrev pub ReportsFile : {A : Type 0} → Event → Result A faults.HubFault → Type 0
ReportsFile (retypes file) r = IfErr r (λ e. IfSome (reported_fault e) (IsFileFault file))
ReportsFile e r = Unit {0}

abbrev pub refusal_in : Outcome → Option Refusal
refusal_in done = None
refusal_in (refused why) = Some why
refusal_in out_of_memory = None

-- the call reports why the event is refused, and that it isn't; without memory a refusal may not be found
abbrev pub ReportsOutcome : State → Event → Outcome → Type 0
ReportsOutcome s e done = refusal s e ≡ None
ReportsOutcome s e (refused why) = refusal s e ≡ Some why
ReportsOutcome s e out_of_memory = early_refusal s e ≡ None

-- what happened, by the event and how the call of it ended: the event, refused or not, or one that found no memory, at a tick on some
-- connections
abbrev pub IsActionOf : Event → Outcome → Action → Type 0
IsActionOf e done h = h ≡ happens e
IsActionOf e (refused why) h = h ≡ happens e
IsActionOf e out_of_memory h = (which : ℕ → Bool) × (h ≡ runs_out_of_memory e which)

-- a call of the hub with this event, by how it ended: what the definition says of the event came of it
abbrev pub StepsOrRefuses : hubs.Hub → Event → Outcome → hubs.Hub → Type 0
StepsOrRefuses old e done new = (s : State) → HubRepresents old s → (refusal s e ≡ None) × (t : State) × Steps s e t × HubRepresents new t
StepsOrRefuses old e (refused why) new = (new ≡ old) × ((s : State) → HubRepresents old s → refusal s e ≡ Some why)
StepsOrRefuses old e out_of_memory new = (s : State) → HubRepresents old s → (which : ℕ → Bool) × (t : State) × RunsOutOfMemory s e which t × HubRepresents new t

-- the same by what the call answers: what the event did, or why it failed
abbrev pub Handles : hubs.Hub → Event → Result Effect faults.HubFault → hubs.Hub → Type 0
Handles old e (Ok effect) new = (s : State) → HubRepresents old s → (refusal s e ≡ None) × (t : State) × Does s e t effect × HubRepresents new t
Handles old e (Err fault) new = StepsOrRefuses old e (outcome_of {A = Effect} (Err fault)) new
