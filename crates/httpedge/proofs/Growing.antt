-- What was written on a connection stays.
use Rattle.std.proofs.Common.{◌≡◌, ℕ, Bool, true, false, cond, List, [], ◌++◌, drop, take, Option, Some, None, refl, sym, ap, subst, ◌∙◌, append-nil}
use Rattle.std.specs.Prelude.{◌&&◌, option_map, unwrap_or}
use Rattle.std.specs.Cmp.{nat_cmp_total}
use Rattle.std.specs.FinMap as fin
use Rattle.std.specs.Ordering.{nat_cmp, eq_by_cmp}
use Rattle.std.proofs.lemmas.List.{take-append-drop}
use Rattle.api_types.specs.TypesFile.{ServedShape}
use Rattle.history.specs.History.{History}
use Rattle.requests.specs.Asks.{CallDecision}
use Rattle.httpedge.specs.Connections.{Connection, Connections, Phase, waiting, watching, ended, gone, each, has_gone, is_new, is_open, untaken_in, out_of, out_on, with_phase, written_on}
use Rattle.requests.specs.Decision.{undecided, refused, accepted}
use Rattle.httpedge.specs.Runs.{Follows, Action, happens, runs_out_of_memory, takes}
use Rattle.httpedge.specs.Steps.{Event, Refusal, State, id_not_above, opens, comes, goes, pumps, ticks, compacts, retypes, after_turn, by_connection, connection_after, killed, killed_or_ticked, opening, received_by, refusal, applied_event, out_of_memory, unless_refused, turn_bytes, with_connection, with_turn, writes_at}
use Rattle.requests.specs.Replies.{answer_bytes, refusal_reply}
use Rattle.httpedge.specs.Watches.{Turn, Watch, pumped, ticked}
use Rattle.verbs.specs.Retyping.{retyping}
use Rattle.api_request.specs.Calls.{at_tick}
use Rattle.verbs.specs.Step.{planned}
use Rattle.httpedge.proofs.Connected.{got_each, tied_same, unknown}
use Rattle.httpedge.proofs.OtherTypes.{same_connections}

-- ---- one connection

abbrev written_in : Option Connection → List ℕ
written_in o = unwrap_or (option_map (λ c. c.written) o) []

-- the bytes of the latter begin with those of the former
abbrev Grows : Option Connection → Option Connection → Type 0
Grows o p = (more : List ℕ) × (written_in p ≡ written_in o ++ more)

same : (o : Option Connection) → Grows o o
same o = ([], sym (append-nil (written_in o)))

after_grows : (types : List ServedShape) (m : History) (last_tick : ℕ) (c : Connection) (bytes : List ℕ) (decision : CallDecision)
    → Grows (Some c) (Some (connection_after types m last_tick c bytes decision))
after_grows types m last_tick c bytes undecided = same (Some c)
after_grows types m last_tick c bytes (refused d) = (refusal_reply d, refl)
after_grows types m last_tick c bytes (accepted call) = let a = (planned types m (at_tick last_tick call)).answer in (answer_bytes a a.watch, refl)

turn_grows : (turn : Watch → Turn) (c : Connection) (st : Phase) → Grows (Some c) (Some (after_turn turn c st))
turn_grows turn c (waiting prefix) = same (Some c)
turn_grows turn c (watching w) = (turn_bytes (turn w), refl)
turn_grows turn c ended = same (Some c)
turn_grows turn c (gone had_ended) = same (Some c)

dead_grows : (b : Bool) (c : Connection) → Grows (Some c) (Some (cond b (with_phase c ended) c))
dead_grows true c = same (Some c)
dead_grows false c = same (Some c)

dead_or : (types : List ServedShape) (ms : ℕ) (b : Bool) (c : Connection) → Grows (Some c) (Some (cond b (killed c) (with_turn (ticked types ms) c)))
dead_or types ms true c = dead_grows (is_open c.phase) c
dead_or types ms false c = turn_grows (ticked types ms) c c.phase

-- ---- one of all connections

put_grows : (all : Connections) (id q : ℕ) (c : Connection) → Grows (fin.get all id) (Some c) → Grows (fin.get all q) (fin.get (fin.insert all id c) q)
put_grows all id q c here = subst (Grows (fin.get all q)) (sym (fin.get-insert nat_cmp_total all id c q)) (go (eq_by_cmp nat_cmp q id) refl)
  where
    go : (b : Bool) → eq_by_cmp nat_cmp q id ≡ b → Grows (fin.get all q) (cond b (Some c) (fin.get all q))
    go true e = subst (λ (k : ℕ). Grows (fin.get all k) (Some c)) (sym (tied_same q id e)) here
    go false e = same (fin.get all q)

by_grows : (s : State) (q : ℕ) (o : Option Connection) (f : Connection → State) → ((c : Connection) → o ≡ Some c → Grows (fin.get s.connections q) (fin.get (f c).connections q))
    → Grows (fin.get s.connections q) (fin.get (by_connection s o f).connections q)
by_grows s q None f then = same (fin.get s.connections q)
by_grows s q (Some c) f then = then c refl

-- by what becomes of the connection that is there
there_grows : (s : State) (id q : ℕ) (f : Connection → Connection) → ((c : Connection) → Grows (Some c) (Some (f c)))
    → Grows (fin.get s.connections q) (fin.get (by_connection s (fin.get s.connections id) (λ c. with_connection s id (f c))).connections q)
there_grows s id q f grows = by_grows s q (fin.get s.connections id) _ (λ c got. put_grows s.connections id q (f c) (subst (λ (o : Option Connection). Grows o (Some (f c))) (sym got) (grows c)))

received_grows : (s : State) (id q : ℕ) (c : Connection) (st : Phase) (bytes : List ℕ) (decision : CallDecision) → fin.get s.connections id ≡ Some c
    → Grows (fin.get s.connections q) (fin.get (received_by s id c st bytes decision).connections q)
received_grows s id q c (waiting prefix) bytes decision got =
    put_grows s.connections id q _ (subst (λ (o : Option Connection). Grows o (Some (connection_after s.types s.machine s.last_tick c (prefix ++ bytes) decision))) (sym got) (after_grows s.types s.machine s.last_tick c (prefix ++ bytes) decision))
received_grows s id q c (watching w) bytes decision got = same (fin.get s.connections q)
received_grows s id q c ended bytes decision got = same (fin.get s.connections q)
received_grows s id q c (gone had_ended) bytes decision got = same (fin.get s.connections q)

each_by : (f : ℕ → Connection → Connection) (id : ℕ) (o : Option Connection) → ((c : Connection) → Grows (Some c) (Some (f id c))) → Grows o (option_map (f id) o)
each_by f id None grows = same None
each_by f id (Some c) grows = grows c

each_grows : (f : ℕ → Connection → Connection) (all : Connections) (q : ℕ) → ((c : Connection) → Grows (Some c) (Some (f q c))) → Grows (fin.get all q) (fin.get (each f all) q)
each_grows f all q grows = subst (Grows (fin.get all q)) (sym (got_each f all q)) (each_by f q (fin.get all q) grows)

-- nothing was written on a connection that is not there
opens_grows : (s : State) (id q : ℕ) (b : Bool) → is_new s.connections id ≡ b
    → Grows (fin.get s.connections q) (fin.get (unless_refused (cond b None (Some id_not_above)) s (with_connection s id (opening s.connections))).connections q)
opens_grows s id q true isnew =
    put_grows s.connections id q (opening s.connections)
    (subst (λ (o : Option Connection). Grows o (Some (opening s.connections))) (sym (unknown s.connections id (fin.get s.connections id) refl isnew)) ((opening s.connections).written, refl))
opens_grows s id q false isnew = same (fin.get s.connections q)

unless_grows : (s t : State) (o : Option Refusal) (q : ℕ) → Grows (fin.get s.connections q) (fin.get t.connections q) → Grows (fin.get s.connections q) (fin.get (unless_refused o s t).connections q)
unless_grows s t None q then = then
unless_grows s t (Some why) q then = same (fin.get s.connections q)

stepped_grows : (s : State) (e : Event) (decision : CallDecision) (q : ℕ) → Grows (fin.get s.connections q) (fin.get (unless_refused (refusal s e) s (applied_event s e decision)).connections q)
stepped_grows s (opens id) decision q = opens_grows s id q (is_new s.connections id) refl
stepped_grows s (comes id bytes) decision q = unless_grows s _ (refusal s (comes id bytes)) q (by_grows s q (fin.get s.connections id) _ (λ c got. received_grows s id q c c.phase bytes decision got))
stepped_grows s (goes id) decision q = unless_grows s _ (refusal s (goes id)) q (there_grows s id q _ (λ c. same (Some c)))
stepped_grows s (pumps id max) decision q =
    unless_grows s _ (refusal s (pumps id max)) q (there_grows s id q (with_turn (pumped s.machine max)) (λ c. turn_grows (pumped s.machine max) c c.phase))
stepped_grows s (ticks ms) decision q =
    unless_grows s _ (refusal s (ticks ms)) q (each_grows (λ id c. with_turn (ticked s.types ms) c) s.connections q (λ c. turn_grows (ticked s.types ms) c c.phase))
stepped_grows s (compacts c) decision q = unless_grows s _ (refusal s (compacts c)) q (same (fin.get s.connections q))
stepped_grows s (retypes file) decision q =
    unless_grows s _ (refusal s (retypes file)) q
    (subst (λ (all : Connections). Grows (fin.get s.connections q) (fin.get all q)) (sym (same_connections s (retyping s.types s.machine file))) (same (fin.get s.connections q)))

out_of_memory_grows : (s : State) (e : Event) (which : ℕ → Bool) (q : ℕ) → Grows (fin.get s.connections q) (fin.get (out_of_memory s e which).connections q)
out_of_memory_grows s (opens id) which q = same (fin.get s.connections q)
out_of_memory_grows s (comes id bytes) which q = there_grows s id q killed (λ c. dead_grows (is_open c.phase) c)
out_of_memory_grows s (goes id) which q = same (fin.get s.connections q)
out_of_memory_grows s (pumps id max) which q = there_grows s id q killed (λ c. dead_grows (is_open c.phase) c)
out_of_memory_grows s (ticks ms) which q = each_grows (λ id c. killed_or_ticked s.types ms (which id) c) s.connections q (λ c. dead_or s.types ms (which q && writes_at ms c.phase) c)
out_of_memory_grows s (compacts c) which q = same (fin.get s.connections q)
out_of_memory_grows s (retypes file) which q = same (fin.get s.connections q)

pub grows : (s t : State) (h : Action) (q : ℕ) → Follows s h t → (more : List ℕ) × (written_on t.connections q ≡ written_on s.connections q ++ more)
grows s t (happens e) q (decision, asks, is) = subst (λ (x : State). Grows (fin.get s.connections q) (fin.get x.connections q)) (sym is) (stepped_grows s e decision q)
grows s t (runs_out_of_memory e which) q (unrefused, memory, is) = subst (λ (x : State). Grows (fin.get s.connections q) (fin.get x.connections q)) (sym is) (out_of_memory_grows s e which q)
grows s t (takes id n) q is = subst (λ (x : State). Grows (fin.get s.connections q) (fin.get x.connections q)) (sym is) (there_grows s id q _ (λ c. same (Some c)))

-- ---- what was taken, and what is out

all_out : (st : Phase) (bytes : List ℕ) → has_gone st ≡ false → untaken_in st bytes ≡ bytes
all_out (waiting prefix) bytes is = refl
all_out (watching w) bytes is = refl
all_out ended bytes is = refl
all_out (gone had_ended) bytes is = absurd cc

pub parts : (all : Connections) (id : ℕ) (c : Connection) → fin.get all id ≡ Some c → has_gone c.phase ≡ false → written_on all id ≡ take c.taken c.written ++ out_on all id
parts all id c got here =
    ap written_in got ∙ sym (take-append-drop c.taken c.written)
    ∙ ap (λ (rest : List ℕ). take c.taken c.written ++ rest) (sym (all_out c.phase (drop c.taken c.written) here))
    ∙ ap (λ (o : Option Connection). take c.taken c.written ++ unwrap_or (option_map out_of o) []) (sym got)
