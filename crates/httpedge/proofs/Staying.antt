-- What an event leaves as it was.
use Rattle.std.proofs.Common.{◌≡◌, ◌≢◌, ℕ, Bool, true, false, cond, List, Option, Some, None, refl, sym, ap, subst, ◌∙◌}
use Rattle.std.specs.Prelude.{◌&&◌, option_map, unwrap_or}
use Rattle.std.specs.Cmp.{nat_cmp_total}
use Rattle.std.specs.FinMap as fin
use Rattle.std.specs.Ordering.{nat_cmp, eq_by_cmp}
use Rattle.api_types.specs.TypesFile.{ServedShape}
use Rattle.verbs.specs.Retyping.{retyping}
use Rattle.requests.specs.Asks.{CallDecision}
use Rattle.httpedge.specs.Connections.{Connection, Connections, Phase, waiting, watching, ended, gone, each, ended_on, has_ended, is_new, is_open, is_watching, watching_on, with_phase, with_taken}
use Rattle.httpedge.specs.Runs.{Follows, Action, HappensElsewhere, IsElsewhere, Steps, happens, runs_out_of_memory, subject, takes}
use Rattle.httpedge.specs.Steps.{Event, Refusal, State, id_not_above, opens, comes, goes, pumps, ticks, compacts, retypes, after_turn, by_connection, killed, killed_or_ticked, opening, received_by, refusal, out_of_memory, applied_event, unless_refused, with_connection, with_turn, writes_at, RunsOutOfMemory}
use Rattle.httpedge.specs.Watches.{Turn, Watch, pumped, ticked}
use Rattle.httpedge.proofs.Connected.{got_each, tied_same, unknown}
use Rattle.httpedge.proofs.OtherTypes.{same_connections}

-- ---- on another connection

apart : (q id : ℕ) → q ≢ id → eq_by_cmp nat_cmp q id ≡ false
apart q id isnt = go (eq_by_cmp nat_cmp q id) refl
  where
    go : (b : Bool) → eq_by_cmp nat_cmp q id ≡ b → b ≡ false
    go true is = absurd (isnt (tied_same q id is))
    go false is = refl

pub put_elsewhere : (all : Connections) (id q : ℕ) (c : Connection) → q ≢ id → fin.get (fin.insert all id c) q ≡ fin.get all q
put_elsewhere all id q c isnt = fin.get-insert nat_cmp_total all id c q ∙ ap (λ (b : Bool). cond b (Some c) (fin.get all q)) (apart q id isnt)

pub by_elsewhere : (s : State) (q : ℕ) (o : Option Connection) (f : Connection → State) → ((c : Connection) → fin.get (f c).connections q ≡ fin.get s.connections q)
    → fin.get (by_connection s o f).connections q ≡ fin.get s.connections q
by_elsewhere s q None f stays = refl
by_elsewhere s q (Some c) f stays = stays c

received_elsewhere : (s : State) (id q : ℕ) (c : Connection) (st : Phase) (bytes : List ℕ) (decision : CallDecision) → q ≢ id
    → fin.get (received_by s id c st bytes decision).connections q ≡ fin.get s.connections q
received_elsewhere s id q c (waiting prefix) bytes decision isnt = put_elsewhere s.connections id q _ isnt
received_elsewhere s id q c (watching w) bytes decision isnt = refl
received_elsewhere s id q c ended bytes decision isnt = refl
received_elsewhere s id q c (gone had_ended) bytes decision isnt = refl

carried_elsewhere : (s : State) (e : Event) (decision : CallDecision) (q : ℕ) → IsElsewhere (subject e) q → fin.get (applied_event s e decision).connections q ≡ fin.get s.connections q
carried_elsewhere s (opens id) decision q isnt = put_elsewhere s.connections id q (opening s.connections) isnt
carried_elsewhere s (comes id bytes) decision q isnt =
    by_elsewhere s q (fin.get s.connections id) _ (λ c. received_elsewhere s id q c c.phase bytes decision isnt)
carried_elsewhere s (goes id) decision q isnt = by_elsewhere s q (fin.get s.connections id) _ (λ c. put_elsewhere s.connections id q _ isnt)
carried_elsewhere s (pumps id max) decision q isnt = by_elsewhere s q (fin.get s.connections id) _ (λ c. put_elsewhere s.connections id q _ isnt)
carried_elsewhere s (ticks ms) decision q isnt = absurd isnt
carried_elsewhere s (compacts c) decision q isnt = refl
carried_elsewhere s (retypes file) decision q isnt = ap (λ (all : Connections). fin.get all q) (same_connections s (retyping s.types s.machine file))

unless_elsewhere : (s t : State) (o : Option Refusal) (q : ℕ) → fin.get t.connections q ≡ fin.get s.connections q → fin.get (unless_refused o s t).connections q ≡ fin.get s.connections q
unless_elsewhere s t None q same = same
unless_elsewhere s t (Some why) q same = refl

out_of_memory_elsewhere : (s : State) (e : Event) (which : ℕ → Bool) (q : ℕ) → IsElsewhere (subject e) q → fin.get (out_of_memory s e which).connections q ≡ fin.get s.connections q
out_of_memory_elsewhere s (opens id) which q isnt = refl
out_of_memory_elsewhere s (comes id bytes) which q isnt = by_elsewhere s q (fin.get s.connections id) _ (λ c. put_elsewhere s.connections id q _ isnt)
out_of_memory_elsewhere s (goes id) which q isnt = refl
out_of_memory_elsewhere s (pumps id max) which q isnt = by_elsewhere s q (fin.get s.connections id) _ (λ c. put_elsewhere s.connections id q _ isnt)
out_of_memory_elsewhere s (ticks ms) which q isnt = absurd isnt
out_of_memory_elsewhere s (compacts c) which q isnt = refl
out_of_memory_elsewhere s (retypes file) which q isnt = refl

pub others : (s t : State) (h : Action) (q : ℕ) → HappensElsewhere h q → Follows s h t → fin.get t.connections q ≡ fin.get s.connections q
others s t (happens e) q elsewhere (decision, asks, is) =
    ap (λ (x : State). fin.get x.connections q) is ∙ unless_elsewhere s (applied_event s e decision) (refusal s e) q (carried_elsewhere s e decision q elsewhere)
others s t (runs_out_of_memory e which) q elsewhere (unrefused, memory, is) = ap (λ (x : State). fin.get x.connections q) is ∙ out_of_memory_elsewhere s e which q elsewhere
others s t (takes id n) q elsewhere is =
    ap (λ (x : State). fin.get x.connections q) is ∙ by_elsewhere s q (fin.get s.connections id) _ (λ c. put_elsewhere s.connections id q _ elsewhere)

-- ---- a tick, on what doesn't watch

pub turn_idle : (turn : Watch → Turn) (c : Connection) (st : Phase) → is_watching st ≡ false → after_turn turn c st ≡ c
turn_idle turn c (waiting prefix) is = refl
turn_idle turn c (watching w) is = absurd cc
turn_idle turn c ended is = refl
turn_idle turn c (gone had_ended) is = refl

writes_not : (ms : ℕ) (st : Phase) → is_watching st ≡ false → writes_at ms st ≡ false
writes_not ms (waiting prefix) is = refl
writes_not ms (watching w) is = absurd cc
writes_not ms ended is = refl
writes_not ms (gone had_ended) is = refl

pub dead_idle : (types : List ServedShape) (ms : ℕ) (ran_out : Bool) (c : Connection) → is_watching c.phase ≡ false → killed_or_ticked types ms ran_out c ≡ c
dead_idle types ms true c is =
    ap (λ (b : Bool). cond b (killed c) (with_turn (ticked types ms) c)) (writes_not ms c.phase is) ∙ turn_idle (ticked types ms) c c.phase is
dead_idle types ms false c is = turn_idle (ticked types ms) c c.phase is

each_idle : (f : ℕ → Connection → Connection) (id : ℕ) (o : Option Connection) → ((c : Connection) → is_watching c.phase ≡ false → f id c ≡ c)
    → unwrap_or (option_map (λ c. is_watching c.phase) o) false ≡ false → option_map (f id) o ≡ o
each_idle f id None stays is = refl
each_idle f id (Some c) stays is = ap (λ (d : Connection). Some d) (stays c is)

pub ticked_idle : (s t : State) (ms id : ℕ) → watching_on s.connections id ≡ false → Steps s (ticks ms) t → fin.get t.connections id ≡ fin.get s.connections id
ticked_idle s t ms id is (decision, asks, then) =
    ap (λ (x : State). fin.get x.connections id) then
    ∙ unless_elsewhere s (applied_event s (ticks ms) decision) (refusal s (ticks ms)) id
    (got_each (λ q c. with_turn (ticked s.types ms) c) s.connections id
    ∙ each_idle (λ q c. with_turn (ticked s.types ms) c) id (fin.get s.connections id) (λ c idle. turn_idle (ticked s.types ms) c c.phase idle) is)

pub out_of_memory_idle : (s t : State) (ms id : ℕ) (which : ℕ → Bool) → watching_on s.connections id ≡ false → RunsOutOfMemory s (ticks ms) which t → fin.get t.connections id ≡ fin.get s.connections id
out_of_memory_idle s t ms id which is (unrefused, memory, then) =
    ap (λ (x : State). fin.get x.connections id) then
    ∙ got_each (λ q c. killed_or_ticked s.types ms (which q) c) s.connections id
    ∙ each_idle (λ q c. killed_or_ticked s.types ms (which q) c) id (fin.get s.connections id) (λ c idle. dead_idle s.types ms (which id) c idle) is

-- ---- an end

abbrev ended_in : Option Connection → Bool
ended_in o = unwrap_or (option_map (λ c. has_ended c.phase) o) false

wrong : false ≡ true → ⊥
wrong e = cc

put_ended : (all : Connections) (id q : ℕ) (c : Connection) → (ended_on all id ≡ true → has_ended c.phase ≡ true) → ended_on all q ≡ true → ended_on (fin.insert all id c) q ≡ true
put_ended all id q c stays is = ap ended_in (fin.get-insert nat_cmp_total all id c q) ∙ go (eq_by_cmp nat_cmp q id) refl
  where
    go : (b : Bool) → eq_by_cmp nat_cmp q id ≡ b → ended_in (cond b (Some c) (fin.get all q)) ≡ true
    go true e = stays (subst (λ (k : ℕ). ended_on all k ≡ true) (tied_same q id e) is)
    go false e = is

by_ended : (s : State) (id q : ℕ) (o : Option Connection) (f : Connection → State) → fin.get s.connections id ≡ o
    → ((c : Connection) → fin.get s.connections id ≡ Some c → ended_on (f c).connections q ≡ true) → ended_on s.connections q ≡ true → ended_on (by_connection s o f).connections q ≡ true
by_ended s id q None f at stays is = is
by_ended s id q (Some c) f at stays is = stays c at

received_ended : (s : State) (id q : ℕ) (c : Connection) (st : Phase) (bytes : List ℕ) (decision : CallDecision) → fin.get s.connections id ≡ Some c → c.phase ≡ st
    → ended_on s.connections q ≡ true → ended_on (received_by s id c st bytes decision).connections q ≡ true
received_ended s id q c (waiting prefix) bytes decision at represents is =
    put_ended s.connections id q _ (λ e. absurd (wrong (sym (ap ended_in at ∙ ap has_ended represents) ∙ e))) is
received_ended s id q c (watching w) bytes decision at represents is = is
received_ended s id q c ended bytes decision at represents is = is
received_ended s id q c (gone had_ended) bytes decision at represents is = is

turn_ended : (turn : Watch → Turn) (c : Connection) (st : Phase) → c.phase ≡ st → has_ended c.phase ≡ true → has_ended (after_turn turn c st).phase ≡ true
turn_ended turn c (waiting prefix) represents is = is
turn_ended turn c (watching w) represents is = absurd (wrong (sym (ap has_ended represents) ∙ is))
turn_ended turn c ended represents is = is
turn_ended turn c (gone had_ended) represents is = is

dead_by : (b : Bool) (c : Connection) → has_ended c.phase ≡ true → has_ended (cond b (with_phase c ended) c).phase ≡ true
dead_by true c is = refl
dead_by false c is = is

dead_ended : (c : Connection) → has_ended c.phase ≡ true → has_ended (killed c).phase ≡ true
dead_ended c is = dead_by (is_open c.phase) c is

ticked_ended : (types : List ServedShape) (ms : ℕ) (b : Bool) (c : Connection) → has_ended c.phase ≡ true → has_ended (cond b (killed c) (with_turn (ticked types ms) c)).phase ≡ true
ticked_ended types ms true c is = dead_ended c is
ticked_ended types ms false c is = turn_ended (ticked types ms) c c.phase refl is

each_ended : (f : ℕ → Connection → Connection) (id : ℕ) (o : Option Connection) → ((c : Connection) → has_ended c.phase ≡ true → has_ended (f id c).phase ≡ true)
    → ended_in o ≡ true → ended_in (option_map (f id) o) ≡ true
each_ended f id None stays is = is
each_ended f id (Some c) stays is = stays c is

in_each : (f : ℕ → Connection → Connection) (all : Connections) (q : ℕ) → ((c : Connection) → has_ended c.phase ≡ true → has_ended (f q c).phase ≡ true)
    → ended_on all q ≡ true → ended_on (each f all) q ≡ true
in_each f all q stays is = ap ended_in (got_each f all q) ∙ each_ended f q (fin.get all q) stays is

-- the end of a connection that stands under the id
of_ended : (all : Connections) (id : ℕ) (c : Connection) → fin.get all id ≡ Some c → ended_on all id ≡ true → has_ended c.phase ≡ true
of_ended all id c at is = sym (ap ended_in at) ∙ is

opened_ended : (s : State) (id q : ℕ) (b : Bool) → is_new s.connections id ≡ b → ended_on s.connections q ≡ true
    → ended_on (unless_refused (cond b None (Some id_not_above)) s (with_connection s id (opening s.connections))).connections q ≡ true
opened_ended s id q true new is =
    put_ended s.connections id q (opening s.connections) (λ e. absurd (wrong (sym (ap ended_in (unknown s.connections id (fin.get s.connections id) refl new)) ∙ e))) is
opened_ended s id q false new is = is

unless_ended : (s t : State) (o : Option Refusal) (q : ℕ) → ended_on t.connections q ≡ true → ended_on s.connections q ≡ true → ended_on (unless_refused o s t).connections q ≡ true
unless_ended s t None q then is = then
unless_ended s t (Some why) q then is = is

stepped_ended : (s : State) (e : Event) (decision : CallDecision) (q : ℕ) → ended_on s.connections q ≡ true → ended_on (unless_refused (refusal s e) s (applied_event s e decision)).connections q ≡ true
stepped_ended s (opens id) decision q is = opened_ended s id q (is_new s.connections id) refl is
stepped_ended s (comes id bytes) decision q is =
    unless_ended s (applied_event s (comes id bytes) decision) (refusal s (comes id bytes)) q
    (by_ended s id q (fin.get s.connections id) _ refl (λ c at. received_ended s id q c c.phase bytes decision at refl is) is) is
stepped_ended s (goes id) decision q is =
    unless_ended s (applied_event s (goes id) decision) (refusal s (goes id)) q
    (by_ended s id q (fin.get s.connections id) _ refl (λ c at. put_ended s.connections id q (with_phase c (gone (has_ended c.phase))) (of_ended s.connections id c at) is) is) is
stepped_ended s (pumps id max) decision q is =
    let turn = pumped s.machine max in
    unless_ended s (applied_event s (pumps id max) decision) (refusal s (pumps id max)) q
    (by_ended s id q (fin.get s.connections id) _ refl
    (λ c at. put_ended s.connections id q (with_turn turn c) (λ e. turn_ended turn c c.phase refl (of_ended s.connections id c at e)) is) is) is
stepped_ended s (ticks ms) decision q is =
    unless_ended s (applied_event s (ticks ms) decision) (refusal s (ticks ms)) q
    (in_each (λ id c. with_turn (ticked s.types ms) c) s.connections q (λ c e. turn_ended (ticked s.types ms) c c.phase refl e) is) is
stepped_ended s (compacts c) decision q is = unless_ended s (applied_event s (compacts c) decision) (refusal s (compacts c)) q is is
stepped_ended s (retypes file) decision q is =
    unless_ended s (applied_event s (retypes file) decision) (refusal s (retypes file)) q
    (ap (λ (all : Connections). ended_on all q) (same_connections s (retyping s.types s.machine file)) ∙ is) is

out_of_memory_ended : (s : State) (e : Event) (which : ℕ → Bool) (q : ℕ) → ended_on s.connections q ≡ true → ended_on (out_of_memory s e which).connections q ≡ true
out_of_memory_ended s (opens id) which q is = is
out_of_memory_ended s (comes id bytes) which q is =
    by_ended s id q (fin.get s.connections id) _ refl (λ c at. put_ended s.connections id q (killed c) (λ e. dead_ended c (of_ended s.connections id c at e)) is) is
out_of_memory_ended s (goes id) which q is = is
out_of_memory_ended s (pumps id max) which q is =
    by_ended s id q (fin.get s.connections id) _ refl (λ c at. put_ended s.connections id q (killed c) (λ e. dead_ended c (of_ended s.connections id c at e)) is) is
out_of_memory_ended s (ticks ms) which q is =
    in_each (λ id c. killed_or_ticked s.types ms (which id) c) s.connections q (λ c e. ticked_ended s.types ms (which q && writes_at ms c.phase) c e) is
out_of_memory_ended s (compacts c) which q is = is
out_of_memory_ended s (retypes file) which q is = is

pub ends : (s t : State) (h : Action) (q : ℕ) → Follows s h t → ended_on s.connections q ≡ true → ended_on t.connections q ≡ true
ends s t (happens e) q (decision, asks, then) is = ap (λ (x : State). ended_on x.connections q) then ∙ stepped_ended s e decision q is
ends s t (runs_out_of_memory e which) q (unrefused, memory, then) is = ap (λ (x : State). ended_on x.connections q) then ∙ out_of_memory_ended s e which q is
ends s t (takes id n) q then is =
    ap (λ (x : State). ended_on x.connections q) then
    ∙ by_ended s id q (fin.get s.connections id) _ refl (λ c at. put_ended s.connections id q (with_taken c n) (of_ended s.connections id c at) is) is
