-- A hub of which nothing was taken, and what was written on each connection whose peer has gone.
use Rattle.std.specs.Prelude.{◌≡◌, ℕ, Bool, true, false, List, Option, Some, None, Err, ⊤, option_map}
use Rattle.std.specs.BTreeMap.{get}
use Rattle.std.specs.FinMap as fin
use Rattle.std.specs.Ordering.{nat_cmp}
use Rattle.httpedge.specs.Connections.{Connection, IsUntaken, has_gone}
use Rattle.httpedge.specs.Effects.{Does}
use Rattle.httpedge.specs.HubViews as hubs
use Rattle.httpedge.specs.HubViews.{HubRepresents, refusal_of}
use Rattle.httpedge.specs.Runs.{Steps}
use Rattle.httpedge.specs.Steps.{Event, State, refusal}
use Rattle.httpedge.specs.declared.effect.Effect.{Effect}
use Rattle.httpedge.specs.declared.fault.HubFault.TheVariants as fault
use Rattle.httpedge.specs.declared.fault.HubRefusal.{HubRefusal}
use Rattle.world.specs.declared.recording.Handled.{Handled}
use Rattle.world.specs.declared.recording.Handled.TheVariants as handled
use Rattle.world.specs.declared.recording.Recording.{Recording}

-- the peer has gone, and these bytes were written
abbrev pub HasGone : List ℕ → Option Connection → Type 0
HasGone bytes None = ⊥
HasGone bytes (Some c) = (has_gone c.phase ≡ true) × (c.written ≡ bytes)

-- what was written on a connection is kept, or else it is all out
abbrev pub IsKept : Option (List ℕ) → Option Connection → Type 0
IsKept None o = IsUntaken o
IsKept (Some bytes) o = HasGone bytes o

abbrev pub kept_on : Recording → ℕ → Option (List ℕ)
kept_on recording id = option_map (λ v. v.items) (get nat_cmp recording.gone id)

abbrev pub Records : Recording → State → Type 0
Records recording s = HubRepresents recording.hub s × ((id : ℕ) → IsKept (kept_on recording id) (fin.get s.connections id))

-- a value that is there stays; else it is this one where it is put
abbrev pub kept_after : {V : Type 0} → Option V → Bool → V → Option V
kept_after (Some v) is_put value = Some v
kept_after None true value = Some value
kept_after None false value = None

-- ---- events

-- the event led to this state: by what it did, or refused, for this reason
abbrev pub HandledBy : State → Event → Handled → State → Type 0
HandledBy s e (handled.Done effect) t = (refusal s e ≡ None) × Does s e t effect
HandledBy s e (handled.Refused why) t = (refusal s e ≡ Some (refusal_of why)) × Steps s e t

-- the reason for which an event was refused is the definition's, and there is none where it wasn't
abbrev pub ReportsRefusal : State → Event → Option HubRefusal → Type 0
ReportsRefusal s e why = option_map refusal_of why ≡ refusal s e

-- where other types are refused as no types file, the fault is the file's own
abbrev pub ReportsFile : Event → Option HubRefusal → Type 0
ReportsFile e None = ⊤
ReportsFile e (Some why) = hubs.ReportsFile {A = Effect} e (Err (fault.Refused why))

-- the same of what became of the event
abbrev pub ReportsFileOf : Event → Handled → Type 0
ReportsFileOf e (handled.Done effect) = ⊤
ReportsFileOf e (handled.Refused why) = ReportsFile e (Some why)
