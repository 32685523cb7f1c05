-- A hub's history only grows.
use Rattle.std.proofs.Common.{arith, ◌≡◌, ◌≤◌, ℕ, suc, ◌+◌, Bool, true, false, cond, List, [], ◌∷◌, ◌++◌, length, map, Option, Some, None, Result, Ok, Err, refl, sym, ap, subst, ◌∙◌, append_assoc, append-nil, leb-true}
use Rattle.std.specs.Prelude.{◌&&◌, nat_le}
use Rattle.std.specs.FinMap as fin
use Rattle.std.proofs.lemmas.List.Elements.{filter-append}
use Rattle.serde_json.specs.Data.{Data}
use Rattle.api_types.specs.Retyping.{types_may_become}
use Rattle.api_types.specs.TypesFile.{ServedShape}
use Rattle.history.specs.History.{Change, History, IsRising, Key, up_to, written}
use Rattle.history.specs.Whole.{IsGapless}
use Rattle.history.specs.Writes.{changes_by, written_all}
use Rattle.history.proofs.Revisions.{up_to-below}
use Rattle.history.proofs.Writes.{changes_all, compacted_all, current_all}
use Rattle.verbs.specs.Machine.{after}
use Rattle.verbs.specs.Retyping.{RetypeRefusal, retyped, retyping, retyping_writes}
use Rattle.api_request.specs.Calls.{at_tick}
use Rattle.verbs.specs.Step.{planned}
use Rattle.requests.specs.Asks.{CallDecision}
use Rattle.requests.specs.Decision.{undecided, refused, accepted}
use Rattle.httpedge.specs.Connections.{Connection, Connections, Phase, waiting, watching, ended, gone}
use Rattle.httpedge.specs.Runs.{Follows, Action, HasGrown, Runs, happens, lasting, runs_out_of_memory, takes}
use Rattle.httpedge.specs.Steps.{Event, Refusal, State, opens, comes, goes, pumps, ticks, compacts, retypes, by_connection, applied_event, compaction_refused, machine_after, received_by, refusal, out_of_memory, unless_refused, with_connections, with_machine, with_types}
use Rattle.httpedge.proofs.OtherTypes.{is_lawful, types_last}

-- ---- changes that are added

gapless_rises : (first top : ℕ) (cs : List Change) → IsGapless first cs top → IsRising first cs top
gapless_rises first top [] is = let same : first ≡ top = is in omega (arith, same)
gapless_rises first top (c ∷ cs) is =
    let next : c.revision ≡ suc first = is.0 in
    (omega (arith, next), subst (λ (n : ℕ). IsRising n cs top) (sym next) (gapless_rises (suc first) top cs is.1))

gapless_then : (first mid top : ℕ) (cs ds : List Change) → IsGapless first cs mid → IsGapless mid ds top → IsGapless first (cs ++ ds) top
gapless_then first mid top [] ds is then = subst (λ (n : ℕ). IsGapless n ds top) (sym is) then
gapless_then first mid top (c ∷ cs) ds is then = (is.0, gapless_then (suc first) mid top cs ds is.1 then)

not_less : (n : ℕ) → n ≤ n
not_less n = omega arith

-- ---- one event

still : (s t : State) → t.types ≡ s.types → t.machine ≡ s.machine → HasGrown s t
still s t types same = record {
  types = ap (map lasting) types;
  changes = ([], ap (λ (m : History). m.changes) same ∙ sym (append-nil s.machine.changes), sym (ap (λ (m : History). m.current) same));
  current = subst (λ (m : History). s.machine.current ≤ m.current) (sym same) (not_less s.machine.current);
  compacted = subst (λ (m : History). s.machine.compacted ≤ m.compacted) (sym same) (not_less s.machine.compacted);
}

grows_on : (s mid t : State) → HasGrown s mid → HasGrown mid t → HasGrown s t
grows_on s mid t first second =
    let one = first.changes in
    let two = second.changes in
    let low = first.current in
    let next = second.current in
    let kept = first.compacted in
    let more = second.compacted in
    record {
      types = second.types ∙ first.types;
      changes = (
        one.0 ++ two.0,
        two.1 ∙ ap (λ (cs : List Change). cs ++ two.0) one.1 ∙ append_assoc s.machine.changes one.0 two.0,
        gapless_then s.machine.current mid.machine.current t.machine.current one.0 two.0 one.2 two.2,
      );
      current = omega (arith, low, next);
      compacted = omega (arith, kept, more);
    }

after_grown : (s : State) (all : Connections) (cs : List Change) → HasGrown s (with_connections (with_machine s (after s.machine cs)) all)
after_grown s all [] = still s _ refl refl
after_grown s all (c ∷ cs) = grows_on s mid _ one (after_grown mid all cs)
  where
    mid : State
    mid = with_machine s (written s.machine c.key c.body)

    one : HasGrown s mid
    one = record {
      types = refl;
      changes = (record { revision = suc s.machine.current; key = c.key; body = c.body } ∷ [], refl, (refl, refl));
      current = omega arith;
      compacted = not_less s.machine.compacted;
    }

made_grown : (s : State) (all : Connections) (decision : CallDecision) → HasGrown s (with_connections (with_machine s (machine_after s.types s.machine s.last_tick decision)) all)
made_grown s all undecided = still s _ refl refl
made_grown s all (refused d) = still s _ refl refl
made_grown s all (accepted call) = after_grown s all (planned s.types s.machine (at_tick s.last_tick call)).changes

received_grown : (s : State) (id : ℕ) (c : Connection) (st : Phase) (bytes : List ℕ) (decision : CallDecision) → HasGrown s (received_by s id c st bytes decision)
received_grown s id c (waiting prefix) bytes decision = made_grown s _ decision
received_grown s id c (watching w) bytes decision = still s s refl refl
received_grown s id c ended bytes decision = still s s refl refl
received_grown s id c (gone had_ended) bytes decision = still s s refl refl

by_grown : (s : State) (o : Option Connection) (f : Connection → State) → ((c : Connection) → HasGrown s (f c)) → HasGrown s (by_connection s o f)
by_grown s None f grown = still s s refl refl
by_grown s (Some c) f grown = grown c

-- a compaction that isn't refused is from the compacted number on
first_of : (a b : Bool) → cond {A = Option Refusal} (a && b) None (Some compaction_refused) ≡ None → a ≡ true
first_of true b free = refl
first_of false b free = absurd cc

compacted_grown : (s : State) (c : ℕ) → s.machine.compacted ≤ c → HasGrown s (applied_event s (compacts c) undecided)
compacted_grown s c low = record {
  types = refl;
  changes = ([], sym (append-nil s.machine.changes), refl);
  current = not_less s.machine.current;
  compacted = low;
}

-- writes in turn are each of the next revision
gapless_by : (r : ℕ) (ws : List (Key × Option (List ℕ))) → IsGapless r (changes_by r ws) (r + length ws)
gapless_by r [] = omega arith
gapless_by r (w ∷ ws) =
    let more : suc r + length ws ≡ r + suc (length ws) = omega arith in
    (refl, subst (λ (n : ℕ). IsGapless (suc r) (changes_by (suc r) ws) n) more (gapless_by (suc r) ws))

retyped_grown : (s : State) (others : List ServedShape) → types_may_become s.types others ≡ true → HasGrown s (with_types s (Ok others))
unfolding retyped
retyped_grown s others lawful =
    let ws = retyping_writes s.types others s.machine in
    let to : (written_all s.machine ws).current ≡ s.machine.current + length ws = current_all s.machine ws in
    let by = changes_by s.machine.current ws in
    record {
      types = types_last s.types others lawful;
      changes = (by, changes_all s.machine ws, subst (λ (n : ℕ). IsGapless s.machine.current by n) (sym to) (gapless_by s.machine.current ws));
      current = omega (arith, to);
      compacted = subst (λ (n : ℕ). s.machine.compacted ≤ n) (sym (compacted_all s.machine ws)) (not_less s.machine.compacted);
    }

types_grown : (s : State) (file : Data) (r : Result (List ServedShape) RetypeRefusal) → retyping s.types s.machine file ≡ r → HasGrown s (with_types s r)
types_grown s file (Ok others) is = retyped_grown s others (is_lawful s.types others s.machine file is)
types_grown s file (Err why) is = still s s refl refl

carried_grown : (s : State) (e : Event) (decision : CallDecision) → refusal s e ≡ None → HasGrown s (applied_event s e decision)
carried_grown s (opens id) decision free = still s _ refl refl
carried_grown s (comes id bytes) decision free = by_grown s (fin.get s.connections id) _ (λ c. received_grown s id c c.phase bytes decision)
carried_grown s (goes id) decision free = by_grown s (fin.get s.connections id) _ (λ c. still s _ refl refl)
carried_grown s (pumps id max) decision free = by_grown s (fin.get s.connections id) _ (λ c. still s _ refl refl)
carried_grown s (ticks ms) decision free = still s _ refl refl
carried_grown s (compacts c) decision free = compacted_grown s c (leb-true s.machine.compacted c (first_of (nat_le s.machine.compacted c) (nat_le c s.machine.current) free))
carried_grown s (retypes file) decision free = types_grown s file (retyping s.types s.machine file) refl

unless_grown : (s t : State) (o : Option Refusal) → (o ≡ None → HasGrown s t) → HasGrown s (unless_refused o s t)
unless_grown s t None grown = grown refl
unless_grown s t (Some why) grown = still s s refl refl

out_of_memory_grown : (s : State) (e : Event) (which : ℕ → Bool) → HasGrown s (out_of_memory s e which)
out_of_memory_grown s (opens id) which = still s s refl refl
out_of_memory_grown s (comes id bytes) which = by_grown s (fin.get s.connections id) _ (λ c. still s _ refl refl)
out_of_memory_grown s (goes id) which = still s s refl refl
out_of_memory_grown s (pumps id max) which = by_grown s (fin.get s.connections id) _ (λ c. still s _ refl refl)
out_of_memory_grown s (ticks ms) which = still s _ refl refl
out_of_memory_grown s (compacts c) which = still s s refl refl
out_of_memory_grown s (retypes file) which = still s s refl refl

-- ---- all that happens

pub follows_grow : (s t : State) (h : Action) → Follows s h t → HasGrown s t
follows_grow s t (happens e) (decision, asks, is) = subst (HasGrown s) (sym is) (unless_grown s (applied_event s e decision) (refusal s e) (carried_grown s e decision))
follows_grow s t (runs_out_of_memory e which) (free, memory, is) = subst (HasGrown s) (sym is) (out_of_memory_grown s e which)
follows_grow s t (takes id n) is = subst (HasGrown s) (sym is) (by_grown s (fin.get s.connections id) _ (λ c. still s _ refl refl))

pub runs_grow : (s t : State) (hs : List Action) → Runs s hs t → HasGrown s t
runs_grow s t [] is = subst (HasGrown s) (sym is) (still s s refl refl)
runs_grow s t (h ∷ hs) (mid, first, rest) = grows_on s mid t (follows_grow s mid h first) (runs_grow mid t hs rest)

-- ---- what stood stays

pub changes_stay : (s t : State) (r : ℕ) → HasGrown s t → r ≤ s.machine.current → up_to r t.machine.changes ≡ up_to r s.machine.changes
changes_stay s t r grown low =
    let more = grown.changes.0 in
    let none : up_to r more ≡ [] =
    up_to-below s.machine.current r t.machine.current more low (gapless_rises s.machine.current t.machine.current more grown.changes.2) in
    ap (up_to r) grown.changes.1 ∙ filter-append (λ c. nat_le c.revision r) s.machine.changes more
    ∙ ap (λ (cs : List Change). up_to r s.machine.changes ++ cs) none ∙ append-nil (up_to r s.machine.changes)
