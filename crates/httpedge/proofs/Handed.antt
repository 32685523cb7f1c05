-- Events that were handed to a hub.
use Rattle.std.proofs.Common.{◌≡◌, ◌<◌, ◌≤◌, ◌∙◌, ℕ, Bool, true, false, List, [], ◌∷◌, ◌++◌, Option, Some, None, Result, Ok, Err, refl, sym, ap, ap₂, subst}
use Rattle.std.specs.Prelude.{◌-◌, nat_lt, unwrap_or}
use Rattle.std.specs.Result.{is_ok}
use Rattle.std.proofs.lemmas.Bool.{le-ltb, lt-ltb}
use Rattle.httpedge.specs.HubViews.{IsActionOf, HubRepresents, Outcome, ReportsOutcome, done, refused, out_of_memory, outcome_of}
use Rattle.httpedge.specs.Runs.{Follows, Action, Runs, happens, runs_out_of_memory, takes}
use Rattle.httpedge.specs.Steps.{Event, State, compacts}
use Rattle.httpedge.specs.StreamViews.{Compacts, MovesBy, Hands, HandsIf, IsDone, event_in}
use Rattle.httpedge.specs.declared.fault.HubFault.{HubFault}
use Rattle.httpedge.specs.declared.hub.Hub.{Hub}

-- ---- what happens in turn

pub runs_then : (s mid t : State) (hs gs : List Action) → Runs s hs mid → Runs mid gs t → Runs s (hs ++ gs) t
runs_then s mid t [] gs is then = subst (λ (x : State). Runs x gs t) is then
runs_then s mid t (h ∷ hs) gs (next, follows, rest) then = (next, follows, runs_then next mid t hs gs rest then)

-- ---- one event

-- an event that happened, or found no memory
by_event : (e : Event) (o : Outcome) (h : Action) (P : Action → Type 0) → P (happens e) → ((which : ℕ → Bool) → P (runs_out_of_memory e which)) → IsActionOf e o h → P h
by_event e done h P one none is = subst P (sym is) one
by_event e (refused why) h P one none is = subst P (sym is) one
by_event e out_of_memory h P one none is = subst P (sym is.1) (none is.0)

-- what the hub says of an event
abbrev pub FollowsBy : {A : Type 0} → Hub → Event → Result A HubFault → Hub → Type 0
FollowsBy x e r y = (s : State) → HubRepresents x s → (h : Action) × (t : State) × IsActionOf e (outcome_of r) h × Follows s h t × HubRepresents y t

pub hands_event : {A : Type 0} (x y : Hub) (e : Event) (r : Result A HubFault) → FollowsBy x e r y → MovesBy (Hands e) x y
hands_event x y e r follows = λ s is.
    let one = follows s is in
    (one.1, (one.0, by_event e (outcome_of r) one.0 (λ h. event_in h ≡ Some e) refl (λ which. refl) one.2, one.3), one.4)

pub done_event : {A : Type 0} (x y : Hub) (e : Event) (r : Result A HubFault) → ((s : State) → HubRepresents x s → ReportsOutcome s e (outcome_of r)) → FollowsBy x e r y → is_ok r ≡ true
    → MovesBy (IsDone e) x y
done_event x y e (Ok a) reported follows well = λ s is.
    let one = follows s is in
    (one.1, (reported s is, subst (λ h. Follows s h one.1) one.2 one.3), one.4)
done_event x y e (Err f) reported follows well = absurd cc

same_event : (d e : Event) → Some d ≡ Some e → d ≡ e
same_event d e same = ap (λ (o : Option Event). unwrap_or o e) same

isnt_there : (e : Event) → Some e ≡ None → ⊥
isnt_there e same = cc

-- what is so of an event that was handed over, also where it finds no memory, is so of what happened
pub by_hands : (e : Event) (P : Action → Type 0) → P (happens e) → ((which : ℕ → Bool) → P (runs_out_of_memory e which)) → (h : Action) → event_in h ≡ Some e → P h
by_hands e P one none (happens d) is = subst (λ (x : Event). P (happens x)) (sym (same_event d e is)) one
by_hands e P one none (runs_out_of_memory d which) is = subst (λ (x : Event). P (runs_out_of_memory x which)) (sym (same_event d e is)) (none which)
by_hands e P one none (takes id n) is = absurd (isnt_there e (sym is))

-- ---- a compaction

wrong : false ≡ true → ⊥
wrong e = cc

hands_if : (b : Bool) (e : Event) (s t : State) → b ≡ true → Hands e s t → HandsIf b e s t
hands_if true e s t is hands = hands
hands_if false e s t is hands = absurd (wrong is)

skips_if : (b : Bool) (e : Event) (s : State) → b ≡ false → HandsIf b e s s
skips_if true e s is = absurd (wrong (sym is))
skips_if false e s is = refl

-- what is told of the machine is so in each state of the hub
abbrev pub IsReported : {E : Type 0} → Hub → Result (ℕ × ℕ) E → Type 0
IsReported x r = (s : State) → HubRepresents x s → r ≡ Ok (s.machine.current, s.machine.compacted)

abbrev Marks : Type 0 → Type 0
Marks E = Result (ℕ × ℕ) E

abbrev marks_of : {E : Type 0} → Marks E → ℕ × ℕ
marks_of (Ok p) = p
marks_of (Err e) = (0, 0)

abbrev reported_as : {E : Type 0} → ℕ × ℕ → Marks E
reported_as p = Ok p

parts : {E : Type 0} (a b c d : ℕ) → reported_as {E = E} (a, b) ≡ reported_as (c, d) → (a ≡ c) × (b ≡ d)
parts a b c d same = (ap (λ r. (marks_of r).0) same, ap (λ r. (marks_of r).1) same)

pub compacts_then : {E : Type 0} (x y : Hub) (keep current compacted revision : ℕ) (reported : Result (ℕ × ℕ) E) → IsReported x reported → reported ≡ Ok (current, compacted)
    → revision ≡ current - keep → compacted < revision → MovesBy (Hands (compacts revision)) x y → MovesBy (Compacts keep) x y
compacts_then x y keep current compacted revision reported reports is at rises hands = λ s here.
    let same = parts current compacted s.machine.current s.machine.compacted (sym is ∙ reports s here) in
    let ran = hands s here in
    let now : revision ≡ s.machine.current - keep = at ∙ ap (λ n. n - keep) same.0 in (
      ran.0,
      hands_if (nat_lt s.machine.compacted (s.machine.current - keep)) (compacts (s.machine.current - keep)) s ran.0 (sym (ap₂ nat_lt same.1 now) ∙ lt-ltb compacted revision rises)
          (subst (λ n. Hands (compacts n) s ran.0) now ran.1),
      ran.2,
    )

pub compacts_not : {E : Type 0} (x : Hub) (keep current compacted revision : ℕ) (reported : Result (ℕ × ℕ) E) → IsReported x reported → reported ≡ Ok (current, compacted)
    → revision ≡ current - keep → revision ≤ compacted → MovesBy (Compacts keep) x x
compacts_not x keep current compacted revision reported reports is at rises = λ s here.
    let same = parts current compacted s.machine.current s.machine.compacted (sym is ∙ reports s here) in
    let now : revision ≡ s.machine.current - keep = at ∙ ap (λ n. n - keep) same.0 in
    (s, skips_if (nat_lt s.machine.compacted (s.machine.current - keep)) (compacts (s.machine.current - keep)) s (sym (ap₂ nat_lt same.1 now) ∙ le-ltb compacted revision rises), here)

reported_none : {E : Type 0} (e : E) (p : ℕ × ℕ) (reported : Marks E) → reported ≡ Err e → reported ≡ Ok p → ⊥
reported_none e p reported is isnt = cc

-- a hub whose marks can't be told is in no state
pub compacts_none : {E : Type 0} (x : Hub) (keep : ℕ) (e : E) (reported : Result (ℕ × ℕ) E) → IsReported x reported → reported ≡ Err e → MovesBy (Compacts keep) x x
compacts_none x keep e reported reports is = λ s here. absurd (reported_none e (s.machine.current, s.machine.compacted) reported is (reports s here))
