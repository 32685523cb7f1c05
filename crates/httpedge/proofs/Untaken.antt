-- While nothing is taken of a connection and its peer doesn't go, all that was written on it is out.
use Rattle.std.proofs.Common.{◌≡◌, ◌≢◌, ℕ, Bool, true, false, cond, List, drop, Option, Some, None, refl, sym, ap, subst, ◌∙◌}
use Rattle.std.specs.Prelude.{◌&&◌, option_map, unwrap_or}
use Rattle.std.specs.Cmp.{nat_cmp_total}
use Rattle.std.specs.FinMap as fin
use Rattle.std.specs.Ordering.{nat_cmp, eq_by_cmp}
use Rattle.api_types.specs.TypesFile.{ServedShape}
use Rattle.history.specs.History.{History}
use Rattle.requests.specs.Asks.{CallDecision}
use Rattle.httpedge.specs.Connections.{AllIsOut, Connection, Connections, IsUntaken, Phase, waiting, watching, ended, gone, each, has_gone, is_open, untaken_in, new_connection, out_of, out_on, with_phase, with_written, written_on}
use Rattle.requests.specs.Decision.{undecided, refused, accepted}
use Rattle.requests.specs.Refusals.{as_denied, too_many_connections}
use Rattle.httpedge.specs.Runs.{Follows, Action, KeepsOutput, Steps, happens, peer_goes, runs_out_of_memory, takes}
use Rattle.httpedge.specs.Steps.{Event, Refusal, State, opens, comes, goes, pumps, ticks, compacts, retypes, after_turn, answer_phase, by_connection, connection_after, killed, killed_or_ticked, opening, received_by, refusal, phase_after, start, out_of_memory, applied_event, unless_refused, with_turn, writes_at}
use Rattle.requests.specs.Replies.{refusal_reply}
use Rattle.httpedge.specs.Watches.{Turn, Watch, pumped, ticked}
use Rattle.answers.specs.WatchFrom.{WatchFrom}
use Rattle.verbs.specs.Retyping.{retyping}
use Rattle.api_request.specs.Calls.{at_tick}
use Rattle.verbs.specs.Step.{planned}
use Rattle.httpedge.proofs.Connected.{got_each, tied_same}
use Rattle.httpedge.proofs.OtherTypes.{same_connections}

-- ---- one connection

written_by : (st : Phase) (taken : ℕ) (written : List ℕ) → taken ≡ 0 → has_gone st ≡ false → untaken_in st (drop taken written) ≡ written
written_by (waiting prefix) taken written none stays = ap (λ (k : ℕ). drop k written) none
written_by (watching w) taken written none stays = ap (λ (k : ℕ). drop k written) none
written_by ended taken written none stays = ap (λ (k : ℕ). drop k written) none
written_by (gone had_ended) taken written none stays = absurd cc

out_is_written : (o : Option Connection) (none : List ℕ) → IsUntaken o → unwrap_or (option_map out_of o) none ≡ unwrap_or (option_map (λ c. c.written) o) none
out_is_written None none is = refl
out_is_written (Some c) none is = written_by c.phase c.taken c.written is.0 is.1

opened_untaken : (full : Bool) (bytes : List ℕ) → IsUntaken (Some (cond full (with_written new_connection bytes ended) new_connection))
opened_untaken true bytes = (refl, refl)
opened_untaken false bytes = (refl, refl)

answer_here : (last_tick : ℕ) (o : Option WatchFrom) → has_gone (answer_phase last_tick o) ≡ false
answer_here last_tick None = refl
answer_here last_tick (Some from) = refl

after_untaken : (types : List ServedShape) (m : History) (last_tick : ℕ) (c : Connection) (bytes : List ℕ) (decision : CallDecision) → IsUntaken (Some c)
    → IsUntaken (Some (connection_after types m last_tick c bytes decision))
after_untaken types m last_tick c bytes undecided is = (is.0, refl)
after_untaken types m last_tick c bytes (refused d) is = (is.0, refl)
after_untaken types m last_tick c bytes (accepted call) is = (is.0, answer_here last_tick (planned types m (at_tick last_tick call)).answer.watch)

stays_here : (o : Option Watch) → has_gone (phase_after o) ≡ false
stays_here None = refl
stays_here (Some w) = refl

turn_untaken : (turn : Watch → Turn) (c : Connection) (st : Phase) → IsUntaken (Some c) → IsUntaken (Some (after_turn turn c st))
turn_untaken turn c (waiting prefix) is = is
turn_untaken turn c (watching w) is = (is.0, stays_here (turn w).next)
turn_untaken turn c ended is = is
turn_untaken turn c (gone had_ended) is = is

-- ---- one of all connections

-- a connection that is put, seen under an id
put_one : (all : Connections) (id q : ℕ) (c : Connection) → (q ≡ id → IsUntaken (Some c)) → IsUntaken (fin.get all q) → IsUntaken (fin.get (fin.insert all id c) q)
put_one all id q c here out = subst IsUntaken (sym (fin.get-insert nat_cmp_total all id c q)) (go (eq_by_cmp nat_cmp q id) refl)
  where
    go : (b : Bool) → eq_by_cmp nat_cmp q id ≡ b → IsUntaken (cond b (Some c) (fin.get all q))
    go true e = here (tied_same q id e)
    go false e = out

-- the connection of an id, where that is this one
this_one : (all : Connections) (id q : ℕ) (c : Connection) → fin.get all id ≡ Some c → IsUntaken (fin.get all q) → q ≡ id → IsUntaken (Some c)
this_one all id q c got out same = subst IsUntaken (ap (fin.get all) same ∙ got) out

by_one : (s : State) (q : ℕ) (o : Option Connection) (f : Connection → State) → IsUntaken (fin.get s.connections q)
    → ((c : Connection) → o ≡ Some c → IsUntaken (fin.get (f c).connections q)) → IsUntaken (fin.get (by_connection s o f).connections q)
by_one s q None f out then = out
by_one s q (Some c) f out then = then c refl

each_by : (f : ℕ → Connection → Connection) (id : ℕ) (o : Option Connection) → ((c : Connection) → IsUntaken (Some c) → IsUntaken (Some (f id c))) → IsUntaken o → IsUntaken (option_map (f id) o)
each_by f id None stays is = is
each_by f id (Some c) stays is = stays c is

each_one : (f : ℕ → Connection → Connection) (all : Connections) (q : ℕ) → ((c : Connection) → IsUntaken (Some c) → IsUntaken (Some (f q c))) → IsUntaken (fin.get all q)
    → IsUntaken (fin.get (each f all) q)
each_one f all q stays out = subst IsUntaken (sym (got_each f all q)) (each_by f q (fin.get all q) stays out)

received_one : (s : State) (id q : ℕ) (c : Connection) (st : Phase) (bytes : List ℕ) (decision : CallDecision) → fin.get s.connections id ≡ Some c → IsUntaken (fin.get s.connections q)
    → IsUntaken (fin.get (received_by s id c st bytes decision).connections q)
received_one s id q c (waiting prefix) bytes decision got out =
    put_one s.connections id q _ (λ same. after_untaken s.types s.machine s.last_tick c _ decision (this_one s.connections id q c got out same)) out
received_one s id q c (watching w) bytes decision got out = out
received_one s id q c ended bytes decision got out = out
received_one s id q c (gone had_ended) bytes decision got out = out

carried_one : (s : State) (e : Event) (decision : CallDecision) (q : ℕ) → e ≢ goes q → IsUntaken (fin.get s.connections q) → IsUntaken (fin.get (applied_event s e decision).connections q)
carried_one s (opens id) decision q stays out = put_one s.connections id q (opening s.connections) (λ same. opened_untaken _ (refusal_reply (as_denied too_many_connections))) out
carried_one s (comes id bytes) decision q stays out = by_one s q (fin.get s.connections id) _ out (λ c got. received_one s id q c c.phase bytes decision got out)
carried_one s (goes id) decision q stays out = by_one s q (fin.get s.connections id) _ out (λ c got. put_one s.connections id q _ (λ same. absurd (stays (ap goes (sym same)))) out)
carried_one s (pumps id max) decision q stays out =
    let turn = pumped s.machine max in
    by_one s q (fin.get s.connections id) _ out (λ c got. put_one s.connections id q (with_turn turn c) (λ same. turn_untaken turn c c.phase (this_one s.connections id q c got out same)) out)
carried_one s (ticks ms) decision q stays out = each_one (λ id c. with_turn (ticked s.types ms) c) s.connections q (λ c is. turn_untaken (ticked s.types ms) c c.phase is) out
carried_one s (compacts c) decision q stays out = out
carried_one s (retypes file) decision q stays out = subst (λ (all : Connections). IsUntaken (fin.get all q)) (sym (same_connections s (retyping s.types s.machine file))) out

unless_one : (s t : State) (o : Option Refusal) (q : ℕ) → IsUntaken (fin.get t.connections q) → IsUntaken (fin.get s.connections q) → IsUntaken (fin.get (unless_refused o s t).connections q)
unless_one s t None q then out = then
unless_one s t (Some why) q then out = out

dead_by : (b : Bool) (c : Connection) → IsUntaken (Some c) → IsUntaken (Some (cond b (with_phase c ended) c))
dead_by true c is = (is.0, refl)
dead_by false c is = is

dead_or : (types : List ServedShape) (ms : ℕ) (b : Bool) (c : Connection) → IsUntaken (Some c) → IsUntaken (Some (cond b (killed c) (with_turn (ticked types ms) c)))
dead_or types ms true c is = dead_by (is_open c.phase) c is
dead_or types ms false c is = turn_untaken (ticked types ms) c c.phase is

out_of_memory_one : (s : State) (e : Event) (which : ℕ → Bool) (q : ℕ) → IsUntaken (fin.get s.connections q) → IsUntaken (fin.get (out_of_memory s e which).connections q)
out_of_memory_one s (opens id) which q out = out
out_of_memory_one s (comes id bytes) which q out =
    by_one s q (fin.get s.connections id) _ out (λ c got. put_one s.connections id q _ (λ same. dead_by (is_open c.phase) c (this_one s.connections id q c got out same)) out)
out_of_memory_one s (goes id) which q out = out
out_of_memory_one s (pumps id max) which q out =
    by_one s q (fin.get s.connections id) _ out (λ c got. put_one s.connections id q _ (λ same. dead_by (is_open c.phase) c (this_one s.connections id q c got out same)) out)
out_of_memory_one s (ticks ms) which q out = each_one (λ id c. killed_or_ticked s.types ms (which id) c) s.connections q (λ c is. dead_or s.types ms (which q && writes_at ms c.phase) c is) out
out_of_memory_one s (compacts c) which q out = out
out_of_memory_one s (retypes file) which q out = out

pub one_out : (s t : State) (h : Action) (q : ℕ) → KeepsOutput h q → IsUntaken (fin.get s.connections q) → Follows s h t → IsUntaken (fin.get t.connections q)
one_out s t (happens e) q stays out (decision, asks, is) =
    subst (λ (x : State). IsUntaken (fin.get x.connections q)) (sym is) (unless_one s (applied_event s e decision) (refusal s e) q (carried_one s e decision q stays out) out)
one_out s t (runs_out_of_memory e which) q stays out (unrefused, memory, is) = subst (λ (x : State). IsUntaken (fin.get x.connections q)) (sym is) (out_of_memory_one s e which q out)
one_out s t (takes id n) q stays out is =
    subst (λ (x : State). IsUntaken (fin.get x.connections q)) (sym is)
    (by_one s q (fin.get s.connections id) _ out (λ c got. put_one s.connections id q _ (λ same. absurd (stays same)) out))

pub one_written : (all : Connections) (id : ℕ) → IsUntaken (fin.get all id) → out_on all id ≡ written_on all id
one_written all id is = out_is_written (fin.get all id) _ is

-- ---- all connections

goes_not : true ≡ false → ⊥
goes_not e = cc

no_going : (e : Event) (q : ℕ) → peer_goes e ≡ false → e ≢ goes q
no_going e q stays is = goes_not (sym (ap peer_goes is) ∙ stays)

pub all_written : (all : Connections) (id : ℕ) → AllIsOut all → out_on all id ≡ written_on all id
all_written all id is = one_written all id (is id)

pub all_out : (s t : State) (e : Event) → peer_goes e ≡ false → AllIsOut s.connections → Steps s e t → AllIsOut t.connections
all_out s t e stays out steps = λ q. one_out s t (happens e) q (no_going e q stays) (out q) steps

pub none_out : (types : List ServedShape) (m : History) → AllIsOut (start types m).connections
none_out types m = λ q. subst IsUntaken (sym (fin.get-empty nat_cmp q)) (tt {0})
