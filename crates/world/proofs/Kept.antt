-- What is kept of connections whose peers have gone.
use Rattle.std.proofs.Common.{◌⊎◌, inl, inr, Vec, Global, ◌≡◌, ◌≢◌, ◌∙◌, ℕ, Bool, true, false, cond, List, [], Option, Some, None, option_map, refl, sym, ap, subst}
use Rattle.std.specs.Prelude.{is_none, is_some, unwrap_or}
use Rattle.std.specs.Cmp.{nat_cmp_is, nat_cmp_total}
use Rattle.std.specs.FinMap as fin
use Rattle.std.specs.Ordering.{eq_by_cmp, is_eq, nat_cmp}
use Rattle.std.specs.declared.cmp.Ordering.{Ordering}
use Rattle.std.specs.declared.cmp.Ordering.TheVariants.{Less, Equal, Greater}
use Rattle.serde_json.specs.declared.value.Value.{Value}
use Rattle.requests.specs.Asks.{CallDecision}
use Rattle.httpedge.specs.Connections.{Connection, Connections, IsUntaken, gone, has_ended, has_gone, with_phase, written_on}
use Rattle.httpedge.specs.HubViews as hubs
use Rattle.httpedge.specs.HubViews.{IsActionOf, Outcome, ReportsOutcome, event_of, outcome_of}
use Rattle.httpedge.specs.declared.effect.Effect.{Effect}
use Rattle.httpedge.specs.declared.event.Event as events
use Rattle.httpedge.specs.declared.event.Event.TheVariants as event
use Rattle.httpedge.specs.declared.fault.HubFault.{HubFault}
use Rattle.httpedge.specs.Runs.{Follows, Action, KeepsOutput, Steps, happens, peer_goes}
use Rattle.httpedge.specs.Steps.{Event, Refusal, State, by_connection, applied_event, goes, refusal, unknown_id, unless_refused, with_connection}
use Rattle.std.specs.declared.result.Result.TheVariants.{Err}
use Rattle.world.specs.Recording.{HandledBy, HasGone, IsKept, kept_after}
use Rattle.world.specs.declared.recording.Handled.{Handled}
use Rattle.world.specs.declared.recording.Handled.TheVariants as handled

-- ---- ids

one_goes : (id q : ℕ) → goes id ≡ goes q → id ≡ q
one_goes id q is = cc

tied : (id : ℕ) → eq_by_cmp nat_cmp id id ≡ true
tied id = ap is_eq (sym (nat_cmp_is id id Equal refl))

is_tied : (r : Ordering) → is_eq r ≡ true → r ≡ Equal
is_tied Less e = absurd cc
is_tied Equal e = refl
is_tied Greater e = absurd cc

same : (id q : ℕ) → eq_by_cmp nat_cmp id q ≡ true → id ≡ q
same id q e = fin.nat_cmp-IsAntisymmetric id q (is_tied (nat_cmp id q) e)

apart : (id q : ℕ) → eq_by_cmp nat_cmp id q ≡ false → q ≢ id
apart id q e = λ is. let bad : true ≡ false = sym (tied id) ∙ ap (eq_by_cmp nat_cmp id) (sym is) ∙ e in cc

-- ---- the hub's laws

abbrev pub OneStays : Type 0
OneStays = (s t : State) (h : Action) (id : ℕ) → KeepsOutput h id → IsUntaken (fin.get s.connections id) → Follows s h t → IsUntaken (fin.get t.connections id)

abbrev pub GoneStays : Type 0
GoneStays = (s t : State) (h : Action) (id : ℕ) (c : Connection) → Follows s h t → fin.get s.connections id ≡ Some c → has_gone c.phase ≡ true
    → fin.get t.connections id ≡ Some c

-- ---- an event

gone_stays : GoneStays → (s t : State) (e : Event) (q : ℕ) (bytes : List ℕ) (o : Option Connection) → fin.get s.connections q ≡ o → HasGone bytes o → Steps s e t → HasGone bytes (fin.get t.connections q)
gone_stays law s t e q bytes None at has steps = absurd has
gone_stays law s t e q bytes (Some c) at has steps =
    subst (HasGone bytes) (sym (law s t (happens e) q c steps at has.0)) has

goes_not : true ≡ false → ⊥
goes_not e = cc

no_going : (e : Event) (q : ℕ) → peer_goes e ≡ false → e ≢ goes q
no_going e q stays is = goes_not (sym (ap peer_goes is) ∙ stays)

-- an event of the code, other than that a peer goes
pub none_goes : (e : events.Event)
    → ((id : ℕ) × (e ≡ event.Open id)) ⊎ (((id : ℕ) × (bytes : Vec ℕ Global) × (e ≡ event.In id bytes)) ⊎ (((id : ℕ) × (max : ℕ) × (e ≡ event.Pump id max)) ⊎ (((ms : ℕ) × (e ≡ event.Tick ms)) ⊎ (((c : ℕ) × (e ≡ event.Compact c)) ⊎ ((file : Value) × (e ≡ event.Retype file))))))
    → peer_goes (event_of e) ≡ false
none_goes e (inl (id, is)) = ap (λ (x : events.Event). peer_goes (event_of x)) is
none_goes e (inr (inl (id, bytes, is))) = ap (λ (x : events.Event). peer_goes (event_of x)) is
none_goes e (inr (inr (inl (id, max, is)))) = ap (λ (x : events.Event). peer_goes (event_of x)) is
none_goes e (inr (inr (inr (inl (ms, is))))) = ap (λ (x : events.Event). peer_goes (event_of x)) is
none_goes e (inr (inr (inr (inr (inl (c, is)))))) = ap (λ (x : events.Event). peer_goes (event_of x)) is
none_goes e (inr (inr (inr (inr (inr (file, is)))))) = ap (λ (x : events.Event). peer_goes (event_of x)) is

-- what is kept of a connection, or is out on it, is so after an event by which no peer goes
pub kept_stays : OneStays → GoneStays → (s t : State) (e : Event) → peer_goes e ≡ false → Steps s e t → (q : ℕ) (o : Option (List ℕ)) → IsKept o (fin.get s.connections q) → IsKept o (fin.get t.connections q)
kept_stays one law s t e stays steps q None kept = one s t (happens e) q (no_going e q stays) kept steps
kept_stays one law s t e stays steps q (Some bytes) kept = gone_stays law s t e q bytes (fin.get s.connections q) refl kept steps

-- ---- a peer goes

put_here : (all : Connections) (id : ℕ) (c : Connection) → fin.get (fin.insert all id c) id ≡ Some c
put_here all id c = fin.get-insert nat_cmp_total all id c id ∙ ap (λ (b : Bool). cond b (Some c) (fin.get all id)) (tied id)

went_by : (s : State) (id : ℕ) (asked : CallDecision) (o : Option Connection) → fin.get s.connections id ≡ o → is_some o ≡ true
    → HasGone (unwrap_or (option_map (λ (c : Connection). c.written) o) [])
    (fin.get (by_connection s o (λ c. with_connection s id (with_phase c (gone (has_ended c.phase))))).connections id)
went_by s id asked None at known = absurd cc
went_by s id asked (Some c) at known = subst (HasGone c.written) (sym (put_here s.connections id (with_phase c (gone (has_ended c.phase))))) (refl, refl)

known_by : (b : Bool) (o : Option Refusal) → is_none (cond b o (Some unknown_id)) ≡ true → b ≡ true
known_by true o is = refl
known_by false o is = absurd cc

went : (s t : State) (id : ℕ) → is_none (refusal s (goes id)) ≡ true → Steps s (goes id) t → HasGone (written_on s.connections id) (fin.get t.connections id)
went s t id taken (asked, asks, is) =
    subst (λ (x : State). HasGone (written_on s.connections id) (fin.get x.connections id)) (sym (is ∙ unrefused (refusal s (goes id)) taken))
    (went_by s id asked (fin.get s.connections id) refl (known_by (is_some (fin.get s.connections id)) None taken))
  where
    unrefused : (o : Option Refusal) → is_none o ≡ true → unless_refused o s (applied_event s (goes id) asked) ≡ applied_event s (goes id) asked
    unrefused None e = refl
    unrefused (Some why) e = absurd cc

gone_by : OneStays → (s t : State) (id q : ℕ) (b : Bool) → eq_by_cmp nat_cmp id q ≡ b → (written : List ℕ) → (id ≡ q → written ≡ written_on s.connections id)
    → is_none (refusal s (goes id)) ≡ true → Steps s (goes id) t → IsUntaken (fin.get s.connections q) → IsKept (kept_after None b written) (fin.get t.connections q)
gone_by one s t id q true e written is taken steps untaken =
    let here = same id q e in
    subst (λ (bytes : List ℕ). HasGone bytes (fin.get t.connections q)) (sym (is here)) (subst (λ (k : ℕ). HasGone (written_on s.connections id) (fin.get t.connections k)) here (went s t id taken steps))
gone_by one s t id q false e written is taken steps untaken = one s t (happens (goes id)) q (λ goes_there. apart id q e (sym (one_goes id q goes_there))) untaken steps

-- what was out on the connection that goes is kept, unless something is; what is kept of the others, or out on them, is so
pub kept_goes : OneStays → GoneStays → (s t : State) (id : ℕ) (written : List ℕ) → (IsUntaken (fin.get s.connections id) → written ≡ written_on s.connections id)
    → is_none (refusal s (goes id)) ≡ true → Steps s (goes id) t
    → (q : ℕ) (o : Option (List ℕ)) → IsKept o (fin.get s.connections q) → IsKept (kept_after o (eq_by_cmp nat_cmp id q) written) (fin.get t.connections q)
kept_goes one law s t id written is taken steps q None kept =
    gone_by one s t id q (eq_by_cmp nat_cmp id q) refl written (λ here. is (subst (λ (k : ℕ). IsUntaken (fin.get s.connections k)) (sym here) kept)) taken steps kept
kept_goes one law s t id written is taken steps q (Some bytes) kept = gone_stays law s t (goes id) q bytes (fin.get s.connections q) refl kept steps

-- a refused event changes nothing
pub refused_same : (s t : State) (e : Event) → is_none (refusal s e) ≡ false → Steps s e t → t ≡ s
refused_same s t e refused (asked, asks, is) = is ∙ unchanged (refusal s e) refused
  where
    unchanged : (o : Option Refusal) → is_none o ≡ false → unless_refused o s (applied_event s e asked) ≡ s
    unchanged None r = absurd cc
    unchanged (Some why) r = refl

-- ---- what was written

pub written_gone : (bytes : List ℕ) (o : Option Connection) → HasGone bytes o → bytes ≡ unwrap_or (option_map (λ (c : Connection). c.written) o) []
written_gone bytes None has = absurd has
written_gone bytes (Some c) has = sym has.1

-- ---- values that are put where there are none

none_of : {V : Type 0} (o : Option V) → is_some o ≡ false → o ≡ None
none_of None is = refl
none_of (Some v) is = absurd cc

stays : {V : Type 0} (o : Option V) (value : V) → o ≡ kept_after o false value
stays None value = refl
stays (Some v) value = refl

new_by : {V : Type 0} (at : ℕ → Option V) (v : V) (id q : ℕ) (b : Bool) → eq_by_cmp nat_cmp id q ≡ b → is_some (at id) ≡ false → cond b (Some v) (at q) ≡ kept_after (at q) b v
new_by at v id q true e absent = ap (λ o. kept_after o true v) (sym (none_of (at q) (ap (λ (k : ℕ). is_some (at k)) (sym (same id q e)) ∙ absent)))
new_by at v id q false e absent = stays (at q) v

-- a value is put at an id that has none
pub put_new : {V : Type 0} (at : ℕ → Option V) (now : Option V) (v : V) (id q : ℕ) → is_some (at id) ≡ false → now ≡ cond (eq_by_cmp nat_cmp id q) (Some v) (at q) → now ≡ kept_after (at q) (eq_by_cmp nat_cmp id q) v
put_new at now v id q absent is = is ∙ new_by at v id q (eq_by_cmp nat_cmp id q) refl absent

old_by : {V : Type 0} (o : Option V) (b : Bool) (v : V) → (b ≡ true → is_some o ≡ true) → o ≡ kept_after o b v
old_by (Some x) b v there = refl
old_by None false v there = refl
old_by None true v there = let bad : false ≡ true = there refl in cc

-- an id that has one keeps it
pub put_none : {V : Type 0} (at : ℕ → Option V) (v : V) (id q : ℕ) → is_some (at id) ≡ true → at q ≡ kept_after (at q) (eq_by_cmp nat_cmp id q) v
put_none at v id q there = old_by (at q) (eq_by_cmp nat_cmp id q) v (λ e. ap (λ (k : ℕ). is_some (at k)) (sym (same id q e)) ∙ there)

-- the same, seen otherwise
pub put_seen : {V A : Type 0} (f : V → A) (o : Option V) (b : Bool) (v : V) → option_map f (kept_after o b v) ≡ kept_after (option_map f o) b (f v)
put_seen f (Some x) b v = refl
put_seen f None true v = refl
put_seen f None false v = refl

-- ---- what became of an event

pub steps_of : (s : State) (e : Event) (h : Handled) (t : State) → HandledBy s e h t → Steps s e t
steps_of s e (handled.Done effect) t by = (by.1.0, by.1.1, by.1.2)
steps_of s e (handled.Refused why) t by = by.1

-- how a call of the hub ended that was refused
abbrev pub ended : HubFault → Outcome
ended f = outcome_of {A = Effect} (Err f)

pub refuses : (s : State) (e : Event) (o : Outcome) (why : Refusal) → o ≡ hubs.refused why → ReportsOutcome s e o → refusal s e ≡ Some why
refuses s e o why is reported = subst (ReportsOutcome s e) is reported

pub leads : (s t : State) (e : Event) (h : Action) (o : Outcome) (why : Refusal) → o ≡ hubs.refused why → IsActionOf e o h → Follows s h t → Steps s e t
leads s t e h o why is of follows = subst (λ (x : Action). Follows s x t) (subst (λ (p : Outcome). IsActionOf e p h) is of) follows
