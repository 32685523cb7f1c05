-- What an event does to a hub, by how the call of it ended.
use Rattle.std.proofs.Common.{◌≡◌, ◌≢◌, ℕ, cond, List, [], ◌∷◌, ◌++◌, Option, Some, None, Result, Ok, Err, refl, sym, ap, subst}
use Rattle.std.specs.Prelude.{is_some, IfOk}
use Rattle.std.specs.FinMap as fin
use Rattle.httpedge.specs.declared.hub.Hub.{Hub}
use Rattle.httpedge.specs.Connections.{Connection}
use Rattle.httpedge.specs.declared.effect.Effect.{Effect}
use Rattle.httpedge.specs.declared.fault.HubFault.{HubFault}
use Rattle.httpedge.specs.declared.fault.HubFault.TheVariants as fault
use Rattle.httpedge.specs.Effects.{Does}
use Rattle.httpedge.specs.HubViews.{Handles, StepsOrRefuses, IsActionOf, HubRepresents, Outcome, ReportsOutcome, done, refused, out_of_memory, outcome_of, refusal_in}
use Rattle.httpedge.specs.Runs.{Follows, Action, Runs, Steps, happens, runs_out_of_memory}
use Rattle.httpedge.specs.Steps.{Event, Refusal, State, opens, comes, goes, pumps, ticks, compacts, retypes, applied_event, refusal, unknown_id, unless_refused}
use Rattle.requests.specs.Decision.{undecided}
use Rattle.httpedge.proofs.Outcomes.{ComesBy}

-- ---- a refused event

comes_refused : (s : State) (id : ℕ) (bytes : List ℕ) (o : Option Connection) (why : Refusal) → fin.get s.connections id ≡ o → cond (is_some o) None (Some unknown_id) ≡ Some why → Steps s (comes id bytes) s
comes_refused s id bytes None why got is = subst (λ (o : Option Connection). ComesBy s id o bytes s) (sym got) (undecided, refl, refl)
comes_refused s id bytes (Some c) why got is = absurd cc

-- by the bytes that it doesn't bring
stays_by : (s : State) (e : Event) (why : Refusal) → refusal s e ≡ Some why → s ≡ unless_refused (refusal s e) s (applied_event s e undecided)
stays_by s e why is = sym (ap (λ (o : Option Refusal). unless_refused o s (applied_event s e undecided)) is)

refused_stays : (s : State) (e : Event) (why : Refusal) → refusal s e ≡ Some why → Steps s e s
refused_stays s (opens id) why is = (undecided, refl, stays_by s (opens id) why is)
refused_stays s (comes id bytes) why is = comes_refused s id bytes (fin.get s.connections id) why refl is
refused_stays s (goes id) why is = (undecided, refl, stays_by s (goes id) why is)
refused_stays s (pumps id max) why is = (undecided, refl, stays_by s (pumps id max) why is)
refused_stays s (ticks ms) why is = (undecided, refl, stays_by s (ticks ms) why is)
refused_stays s (compacts c) why is = (undecided, refl, stays_by s (compacts c) why is)
refused_stays s (retypes file) why is = (undecided, refl, stays_by s (retypes file) why is)

-- ---- events in turn

pub runs_on : (r s t : State) (before : List Action) (h : Action) → Runs r before s → Follows s h t → Runs r (before ++ h ∷ []) t
runs_on r s t [] h start follows = (t, subst (λ (x : State). Follows x h t) start follows, refl)
runs_on r s t (g ∷ before) h (mid, first, rest) follows = (mid, first, runs_on mid s t before h rest follows)

-- ---- what an event does to a hub in a state

-- what happened, and the state after it
abbrev pub FollowsIn : Outcome → State → Event → Hub → Type 0
FollowsIn o s e new = (h : Action) × (t : State) × IsActionOf e o h × Follows s h t × HubRepresents new t

pub follows_in : (old new : Hub) (e : Event) (o : Outcome) → StepsOrRefuses old e o new → (s : State) → HubRepresents old s → FollowsIn o s e new
follows_in old new e done handles s is =
    let stepped = handles s is in
    (happens e, stepped.1, refl, stepped.2, stepped.3)
follows_in old new e (refused why) handles s is =
    (happens e, s, refl, refused_stays s e why (handles.1 s is), subst (λ (h : Hub). HubRepresents h s) (sym handles.0) is)
follows_in old new e out_of_memory handles s is =
    let found = handles s is in
    (runs_out_of_memory e found.0, found.1, (found.0, refl), found.2, found.3)

pub runs_in : (old new : Hub) (e : Event) (o : Outcome) → StepsOrRefuses old e o new → (r s : State) (before : List Action) → Runs r before s → HubRepresents old s
    → (h : Action) × (t : State) × IsActionOf e o h × Runs r (before ++ h ∷ []) t × HubRepresents new t
runs_in old new e o handles r s before ran is =
    let one = follows_in old new e o handles s is in
    (one.0, one.1, one.2, runs_on r s one.1 before one.0 ran one.3, one.4)

pub sent_in : (old new : Hub) (e : Event) (o : Outcome) → StepsOrRefuses old e o new → (s : State) → HubRepresents old s → ReportsOutcome s e o
sent_in old new e done handles s is = (handles s is).0
sent_in old new e (refused why) handles s is = handles.1 s is
sent_in old new e out_of_memory handles s is = (handles s is).2.0

pub unchanged_in : (old new : Hub) (e : Event) (o : Outcome) → StepsOrRefuses old e o new → refusal_in o ≢ None → new ≡ old
unchanged_in old new e done handles denied = absurd (denied refl)
unchanged_in old new e (refused why) handles denied = handles.0
unchanged_in old new e out_of_memory handles denied = absurd (denied refl)

-- ---- with what it did

-- without what it did
steps_in : (s t : State) (e : Event) (x : Effect) → Does s e t x → Steps s e t
steps_in s t e x (decision, asks, is, effect) = (decision, asks, is)

pub handles_steps : (old new : Hub) (e : Event) (r : Result Effect HubFault) → Handles old e r new → StepsOrRefuses old e (outcome_of r) new
handles_steps old new e (Ok x) handles = λ s is.
    let done = handles s is in
    (done.0, done.1, steps_in s done.1 e x done.2, done.3)
handles_steps old new e (Err f) handles = handles

pub does_in : (old new : Hub) (e : Event) (r : Result Effect HubFault) → Handles old e r new → (s : State) → HubRepresents old s
    → (h : Action) × (t : State) × IsActionOf e (outcome_of r) h × Follows s h t × IfOk r (Does s e t) × HubRepresents new t
does_in old new e (Ok x) handles s is =
    let done = handles s is in
    (happens e, done.1, refl, steps_in s done.1 e x done.2, done.2, done.3)
does_in old new e (Err f) handles s is =
    let followed = follows_in old new e (outcome_of {A = Effect} (Err f)) handles s is in
    (followed.0, followed.1, followed.2, followed.3, tt, followed.4)

-- ---- the call that says nothing of what it did

pub same_fault : (A B : Type 0) (f : HubFault) → outcome_of {A = A} (Err f) ≡ outcome_of {A = B} (Err f)
same_fault A B (fault.Refused why) = refl
same_fault A B (fault.Failed what) = refl
