-- What the hub's values stand for, after each event.
use Rattle.std.proofs.Common.{arith, Bor, ◌≡◌, ℕ, ◌+◌, ◌-◌, ◌<◌, ◌≤◌, Bool, true, false, cond, ◌&&◌, List, [], ◌∷◌, ◌++◌, length, drop, min, Option, Some, None, Result, Ok, Err, inl, inr, refl, sym, ap, ap₂, subst, ◌∙◌}
use Rattle.std.specs.Prelude.{◌↔◌, ◌==◌, is_some, option_and_then, option_map, unwrap_or, nat_le, nat_lt}
use Rattle.std.proofs.lemmas.Bool.{eqb-true, ltb-true, lt-leb, lt-ltb}
use Rattle.std.proofs.lemmas.Bool.Decides.{leb_tells}
use Rattle.std.specs.BTreeMap.{is_at}
use Rattle.std.specs.BTreeSet.{contains}
use Rattle.std.specs.Map.{lookup}
use Rattle.std.specs.List.{list_all, list_any}
use Rattle.std.specs.Cmp.{nat_cmp_total, eq_by_cmp_equiv}
use Rattle.std.specs.FinMap as fin
use Rattle.std.specs.Ordering.{nat_cmp, eq_by_cmp}
use Rattle.std.proofs.lemmas.List.{drop_all, length-drop}
use Rattle.api_types.specs.TypesFile.{ServedShape}
use Rattle.httpedge.specs.declared.shared.Shared.{Shared}
use Rattle.history.specs.History.{History, compacted_to}
use Rattle.httpedge.specs.SharedViews.{SharedRepresents}
use Rattle.revstore.specs.declared.fault.CompactFault.{CompactFault}
use Rattle.revstore.specs.declared.fault.CompactFault.TheVariants as broken
use Rattle.revtable.specs.declared.fault.Fault.{Fault as TheirFault}
use Rattle.verbs.specs.declared.fault.Fault.{Fault}
use Rattle.httpedge.specs.declared.connection.Connection as conns
use Rattle.httpedge.specs.declared.connection.Connection.TheVariants as conn
use Rattle.httpedge.specs.declared.connections.Connections.{Connections as TheConnections}
use Rattle.httpedge.specs.declared.effect.Change.{Change}
use Rattle.httpedge.specs.declared.effect.Done as dones
use Rattle.httpedge.specs.declared.effect.Effect.{Effect}
use Rattle.httpedge.specs.declared.effect.Effect.TheVariants as effect
use Rattle.httpedge.specs.declared.event.ConnectionInput as changes
use Rattle.httpedge.specs.declared.event.ConnectionInput.TheVariants as change
use Rattle.httpedge.specs.declared.fault.HubFault.{HubFault}
use Rattle.httpedge.specs.declared.fault.HubFault.TheVariants as fault
use Rattle.httpedge.specs.declared.out.Out.{Out}
use Rattle.httpedge.specs.declared.watching.Watch.{Watch as TheWatch}
use Rattle.httpedge.specs.ChangeViews.{Changes, Makes, Receives, event_on, takes_memory_on}
use Rattle.httpedge.specs.Connections.{Connection, Connections, Phase, waiting, watching, ended, gone, has_ended, is_new, is_open, is_waiting, is_watching, untaken_in, open_on, out_of, with_phase, with_taken}
use Rattle.requests.specs.Asks.{CallDecision}
use Rattle.requests.specs.Decision.{undecided}
use Rattle.httpedge.specs.ConnectionViews.{BecomesAt, ConnectionRepresents, ConnectionRepresentsAt, IsAt, IsFresh, IsSame, Opens, PutAt, PartsRepresent, found, has_ended_in, held_or, is_above, is_open_in, is_waiting_in, is_watching_in, left, out_in, closed_by}
use Rattle.httpedge.specs.FaultViews.{hub_fault_of}
use Rattle.httpedge.specs.Effects.{Does, IsEffect, answered_bytes, change_between, decided_status, effect_on, lines_by, no_change, opening_status, unasked}
use Rattle.httpedge.specs.HubViews.{Handles, StepsOrRefuses, HubRepresents, Outcome, outcome_of, refusal_in}
use Rattle.httpedge.specs.HubViews as outcome
use Rattle.httpedge.specs.IdViews.{is_in}
use Rattle.httpedge.specs.declared.hub.Hub.{Hub}
use Rattle.httpedge.specs.Runs.{AsksIf, all_bytes, bytes_at}
use Rattle.httpedge.specs.Steps.{Event, Refusal, State, id_not_above, unknown_id, no_lines, compaction_refused, opens, comes, goes, pumps, compacts, after_turn, by_connection, killed, machine_after, opening, received_by, refusal, start, unless_refused, with_bytes_taken, with_connection, with_connections, with_machine, with_turn, RunsOutOfMemory}
use Rattle.httpedge.specs.Watches.{Turn, Watch, pumped}
use Rattle.httpedge.proofs.Connected.{Entries, ids, itself, new_put, new_still, tied_same, unknown}
use Rattle.httpedge.proofs.Effects.{between_same, no_effect, one_effect, same_between}
use Rattle.httpedge.proofs.Requested.{answer_speaks}
use Rattle.httpedge.proofs.Taking.{left_after, out_taken}

abbrev pub Found : Type 0
Found = ℕ → Option conns.Connection

false_true : false ≡ true → ⊥
false_true e = cc

pub closed_waits : (st : Phase) → is_open st ≡ false → is_waiting st ≡ false
closed_waits (waiting prefix) is = absurd (false_true (sym is))
closed_waits (watching w) is = absurd (false_true (sym is))
closed_waits ended is = refl
closed_waits (gone had_ended) is = refl

pub closed_watches : (st : Phase) → is_open st ≡ false → is_watching st ≡ false
closed_watches (waiting prefix) is = absurd (false_true (sym is))
closed_watches (watching w) is = absurd (false_true (sym is))
closed_watches ended is = refl
closed_watches (gone had_ended) is = refl

-- ---- one connection

pub same_open : (types : List ServedShape) (d : conns.Connection) (c : Connection) → ConnectionRepresents types d c → is_open_in d ≡ is_open c.phase
same_open types (conn.Head prefix) c is = sym (ap (λ (x : Connection). is_open x.phase) is)
same_open types (conn.Body prefix p) c (is, awaits) = sym (ap (λ (x : Connection). is_open x.phase) is)
same_open types (conn.Watch w out) c (is, rest, low) = sym (ap is_open is)
same_open types (conn.Ended out) c (is, rest) = sym (ap is_open is)
same_open types (conn.Closed had_ended) c (closed, had, none) = sym closed

pub same_waiting : (types : List ServedShape) (d : conns.Connection) (c : Connection) → ConnectionRepresents types d c → is_waiting_in d ≡ is_waiting c.phase
same_waiting types (conn.Head prefix) c is = sym (ap (λ (x : Connection). is_waiting x.phase) is)
same_waiting types (conn.Body prefix p) c (is, awaits) = sym (ap (λ (x : Connection). is_waiting x.phase) is)
same_waiting types (conn.Watch w out) c (is, rest, low) = sym (ap is_waiting is)
same_waiting types (conn.Ended out) c (is, rest) = sym (ap is_waiting is)
same_waiting types (conn.Closed had_ended) c (closed, had, none) = sym (closed_waits c.phase closed)

pub same_watching : (types : List ServedShape) (d : conns.Connection) (c : Connection) → ConnectionRepresents types d c → is_watching_in d ≡ is_watching c.phase
same_watching types (conn.Head prefix) c is = sym (ap (λ (x : Connection). is_watching x.phase) is)
same_watching types (conn.Body prefix p) c (is, awaits) = sym (ap (λ (x : Connection). is_watching x.phase) is)
same_watching types (conn.Watch w out) c (is, rest, low) = sym (ap is_watching is)
same_watching types (conn.Ended out) c (is, rest) = sym (ap is_watching is)
same_watching types (conn.Closed had_ended) c (closed, had, none) = sym (closed_watches c.phase closed)

pub same_ended : (types : List ServedShape) (d : conns.Connection) (c : Connection) → ConnectionRepresents types d c → has_ended_in d ≡ has_ended c.phase
same_ended types (conn.Head prefix) c is = sym (ap (λ (x : Connection). has_ended x.phase) is)
same_ended types (conn.Body prefix p) c (is, awaits) = sym (ap (λ (x : Connection). has_ended x.phase) is)
same_ended types (conn.Watch w out) c (is, rest, low) = sym (ap has_ended is)
same_ended types (conn.Ended out) c (is, rest) = sym (ap has_ended is)
same_ended types (conn.Closed had_ended) c (closed, had, none) = sym had

pub same_out : (types : List ServedShape) (d : conns.Connection) (c : Connection) → ConnectionRepresents types d c → out_in d ≡ out_of c
same_out types (conn.Head prefix) c is = sym (ap out_of is)
same_out types (conn.Body prefix p) c (is, awaits) = sym (ap out_of is)
same_out types (conn.Watch w out) c (is, rest, low) = sym rest ∙ sym (ap (λ (st : Phase). untaken_in st (drop c.taken c.written)) is)
same_out types (conn.Ended out) c (is, rest) = sym rest ∙ sym (ap (λ (st : Phase). untaken_in st (drop c.taken c.written)) is)
same_out types (conn.Closed had_ended) c (closed, had, none) = sym none

some_of : {A : Type 0} {x y : A} → Some x ≡ Some y → x ≡ y
some_of e = cc

abbrev pub open_in : Option Connection → Bool
open_in o = unwrap_or (option_map (λ c. is_open c.phase) o) false

-- ---- the connection of an id

pub none_held : (types : List ServedShape) (o : Option conns.Connection) (p : Option Connection) → ConnectionRepresentsAt types o p → o ≡ None → p ≡ None
none_held types None None holds is = refl
none_held types None (Some c) holds is = absurd holds
none_held types (Some d) p holds is = absurd cc

pub some_held : (types : List ServedShape) (o : Option conns.Connection) (p : Option Connection) (d : conns.Connection) → ConnectionRepresentsAt types o p → o ≡ Some d
    → (c : Connection) × (p ≡ Some c) × ConnectionRepresents types d c
some_held types None p d holds is = absurd cc
some_held types (Some e) None d holds is = absurd holds
some_held types (Some e) (Some c) d holds is = (c, refl, subst (λ (x : conns.Connection). ConnectionRepresents types x c) (some_of is) holds)

holds_by : (types : List ServedShape) (b : Bool) (d : conns.Connection) (c : Connection) (o : Option conns.Connection) (p : Option Connection) → ConnectionRepresents types d c → ConnectionRepresentsAt types o p
    → ConnectionRepresentsAt types (cond b (Some d) o) (cond b (Some c) p)
holds_by types true d c o p one other = one
holds_by types false d c o p one other = other

pub held_put : (types : List ServedShape) (old new : Found) (all : Connections) (id : ℕ) (d : conns.Connection) (c : Connection)
    → ((q : ℕ) → ConnectionRepresentsAt types (old q) (fin.get all q)) → PutAt id d old new → ConnectionRepresents types d c → (q : ℕ) → ConnectionRepresentsAt types (new q) (fin.get (fin.insert all id c) q)
held_put types old new all id d c held put holds q =
    let b = eq_by_cmp nat_cmp id q in
    let seen : fin.get (fin.insert all id c) q ≡ cond b (Some c) (fin.get all q) =
    fin.get-insert nat_cmp_total all id c q ∙ ap (λ (t : Bool). cond t (Some c) (fin.get all q)) ((eq_by_cmp_equiv nat_cmp_total).symm q id) in
    subst (λ (o : Option conns.Connection). ConnectionRepresentsAt types o (fin.get (fin.insert all id c) q)) (sym (put q))
    (subst (λ (p : Option Connection). ConnectionRepresentsAt types (cond b (Some d) (old q)) p) (sym seen)
    (holds_by types b d c (old q) (fin.get all q) holds (held q)))

there : (b : Bool) (c : Connection) (o : Option Connection) → (b ≡ true → o ≡ Some c) → cond b (Some c) o ≡ o
there true c o is = sym (is refl)
there false c o is = refl

-- to put what is there is to change nothing
pub put_same : (all : Connections) (id : ℕ) (c : Connection) → fin.get all id ≡ Some c → fin.insert all id c ≡ all
put_same all id c got = fin.same_map nat_cmp_total fin.nat_cmp-IsAntisymmetric _ _ (λ q.
    fin.get-insert nat_cmp_total all id c q
    ∙ there (eq_by_cmp nat_cmp q id) c (fin.get all q) (λ e. ap (fin.get all) (tied_same q id e) ∙ got))

pub ended_is : (types : List ServedShape) (o : Option conns.Connection) (p : Option Connection) → ConnectionRepresentsAt types o p
    → unwrap_or (option_map has_ended_in o) false ≡ unwrap_or (option_map (λ c. has_ended c.phase) p) false
ended_is types None None holds = refl
ended_is types None (Some c) holds = absurd holds
ended_is types (Some d) None holds = absurd holds
ended_is types (Some d) (Some c) holds = same_ended types d c holds

pub waiting_is : (types : List ServedShape) (o : Option conns.Connection) (p : Option Connection) → ConnectionRepresentsAt types o p
    → unwrap_or (option_map is_waiting_in o) false ≡ unwrap_or (option_map (λ c. is_waiting c.phase) p) false
waiting_is types None None holds = refl
waiting_is types None (Some c) holds = absurd holds
waiting_is types (Some d) None holds = absurd holds
waiting_is types (Some d) (Some c) holds = same_waiting types d c holds

pub out_is : (types : List ServedShape) (o : Option conns.Connection) (p : Option Connection) → ConnectionRepresentsAt types o p → unwrap_or (option_map out_in o) [] ≡ unwrap_or (option_map out_of p) []
out_is types None None holds = refl
out_is types None (Some c) holds = absurd holds
out_is types (Some d) None holds = absurd holds
out_is types (Some d) (Some c) holds = same_out types d c holds

pub known_is : (types : List ServedShape) (o : Option conns.Connection) (p : Option Connection) → ConnectionRepresentsAt types o p → is_some o ≡ is_some p
known_is types None None holds = refl
known_is types None (Some c) holds = absurd holds
known_is types (Some d) None holds = absurd holds
known_is types (Some d) (Some c) holds = refl

-- ---- a hub without connections

no_entry : (es : List (ℕ × Connection)) → length es ≡ 0 → es ≡ []
no_entry [] e = refl
no_entry (x ∷ es) e = absurd (omega (arith, e))

no_entries : fin.entries ((fin.empty {X = Connection} {R = nat_cmp})) ≡ []
no_entries = no_entry (fin.entries (fin.empty {X = Connection} {R = nat_cmp})) (sym (fin.len-entries (fin.empty {X = Connection} {R = nat_cmp})) ∙ fin.len-empty nat_cmp Connection)

pub start_in : (types : List ServedShape) (m : History) (shared : Shared) (k : TheConnections) → SharedRepresents shared types m → k.held.entries ≡ [] → k.open_ids.keys ≡ [] → ((q : ℕ) → is_in k.ended.ranges q ≡ false)
    → ((q : ℕ) → is_in k.cut.ranges q ≡ false) → k.highest ≡ None → PartsRepresent shared k (start types m)
start_in types m shared k represents none shut had cut first = record {
  machine = represents;
  connections = λ q. subst (λ (o : Option conns.Connection). ConnectionRepresentsAt types o (fin.get (fin.empty {X = Connection} {R = nat_cmp}) q)) (sym (nothing q))
      (subst (λ (p : Option Connection). ConnectionRepresentsAt types None p) (sym (fin.get-empty nat_cmp q)) tt);
  open_is = λ q. ap (list_any (is_at (nat_cmp q))) shut ∙ sym (ap open_in (fin.get-empty {X = Connection} nat_cmp q));
  highest_is = λ q. ap (λ (es : Entries). list_all (λ known. nat_lt known q) (ids es)) no_entries ∙ sym (ap (λ (h : Option ℕ). is_above h q) first);
  apart = λ q is. had q;
}
  where
    nothing : (q : ℕ) → found k q ≡ None
    nothing q = ap (λ (es : List (ℕ × conns.Connection)). held_or (lookup (is_at (nat_cmp q)) es) (closed_by (is_in k.ended.ranges q) (is_in k.cut.ranges q))) none ∙ ap₂ closed_by (had q) (cut q)

-- the code holds a state to which the event leads, and the effect is what it did
abbrev pub Done : State → Event → Effect → Shared → TheConnections → Type 0
Done s e x shared k = (t : State) × Does s e t x × PartsRepresent shared k t × (t.last_tick ≡ s.last_tick)

-- what is said of one id is said of no other
other_id : {A : Type 0} (id : ℕ) (x none : A) (q : ℕ) → eq_by_cmp nat_cmp id q ≡ false → cond (eq_by_cmp nat_cmp id q) x none ≡ none
other_id {A} id x none q isnt = ap (λ (b : Bool). cond b x none) isnt

its_id : {A : Type 0} (id : ℕ) (x none : A) → cond (eq_by_cmp nat_cmp id id) x none ≡ x
its_id {A} id x none = ap (λ (b : Bool). cond b x none) (itself id)

same_either : {A : Type 0} (b : Bool) (x : A) → cond b x x ≡ x
same_either true x = refl
same_either false x = refl

-- ---- an opening

above_both : (highest : Option ℕ) (id q : ℕ) → is_above highest id ≡ true → nat_lt id q ≡ true → is_above highest q ≡ true
above_both None id q one other = refl
above_both (Some h) id q one other =
    let low : h < id = ltb-true h id one in
    let next : id < q = ltb-true id q other in
    lt-ltb h q (omega (arith, low, next))

first_alone : (a b : Bool) → (a ≡ true → b ≡ true) → a && b ≡ a
first_alone true b h = h refl
first_alone false b h = refl

held_none : (types : List ServedShape) (o : Option conns.Connection) (p : Option Connection) → ConnectionRepresentsAt types o p → p ≡ None → o ≡ None
held_none types None p holds is = refl
held_none types (Some d) None holds is = absurd holds
held_none types (Some d) (Some c) holds is = absurd cc

-- an id above the highest is that of no connection
pub opens_fresh : (s : State) (id : ℕ) (shared : Shared) (old : TheConnections) → PartsRepresent shared old s → is_above old.highest id ≡ true → IsFresh id old
opens_fresh s id shared old held above =
    let none : fin.get s.connections id ≡ None = unknown s.connections id (fin.get s.connections id) refl (held.highest_is id ∙ above) in
    (held_none s.types (found old id) (fin.get s.connections id) (held.connections id) none, held.open_is id ∙ ap open_in none, held.apart)

put_open : (b x y : Bool) (c : Connection) (o : Option Connection) → x ≡ is_open c.phase → y ≡ open_in o → cond b x y ≡ open_in (cond b (Some c) o)
put_open true x y c o one other = one
put_open false x y c o one other = other

open_put : (all : Connections) (id q : ℕ) (c : Connection) (x y : Bool) → x ≡ is_open c.phase → y ≡ open_on all q → cond (eq_by_cmp nat_cmp id q) x y ≡ open_on (fin.insert all id c) q
open_put all id q c x y one other =
    put_open (eq_by_cmp nat_cmp id q) x y c (fin.get all q) one other
    ∙ sym (ap open_in (fin.get-insert nat_cmp_total all id c q ∙ ap (λ (t : Bool). cond t (Some c) (fin.get all q)) ((eq_by_cmp_equiv nat_cmp_total).symm q id)))

pub opens_refused : (s : State) (shared : Shared) (k : TheConnections) (id : ℕ) → PartsRepresent shared k s → is_above k.highest id ≡ false → refusal s (opens id) ≡ Some id_not_above
opens_refused s shared k id is above = ap (λ (b : Bool). cond b None (Some id_not_above)) (is.highest_is id ∙ above)

pub opens_unrefused : (s : State) (shared : Shared) (k : TheConnections) (id : ℕ) → PartsRepresent shared k s → is_above k.highest id ≡ true → refusal s (opens id) ≡ None
opens_unrefused s shared k id is above = ap (λ (b : Bool). cond b None (Some id_not_above)) (is.highest_is id ∙ above)

pub opens_well : (s : State) (id : ℕ) (shared : Shared) (old new : TheConnections) (d : conns.Connection) (did : Change) → PartsRepresent shared old s
    → is_above old.highest id ≡ true → ConnectionRepresents s.types d (opening s.connections) → did ≡ change_between None (Some (opening s.connections)) 0 (opening_status s.connections)
    → Opens id d old new → Done s (opens id) (effect_on id (unasked did)) shared new
opens_well s id shared old new d did held above holds did_is opened =
    let c = opening s.connections in
    let isnew : is_new s.connections id ≡ true = held.highest_is id ∙ above in
    let t = with_connection s id c in (
      t,
      (
        undecided,
        refl,
        sym (ap (λ (b : Bool). unless_refused (cond b None (Some id_not_above)) s t) isnew),
        one_effect s s.machine (opens id) undecided id None c 0 (opening_status s.connections) (unasked did) (unknown s.connections id (fin.get s.connections id) refl isnew) refl
            (its_id id (opening_status s.connections) None) (λ q isnt. (refl, other_id id (opening_status s.connections) None q isnt)) did_is refl tt,
      ),
      record {
        machine = held.machine;
        connections = held_put s.types (found old) (found new) s.connections id d c held.connections opened.put holds;
        open_is = λ q. opened.open_is q ∙ open_put s.connections id q c (is_open_in d) (contains nat_cmp old.open_ids q) (same_open s.types d c holds) (held.open_is q);
        highest_is = λ q. new_put s.connections id q c ∙ first_alone (nat_lt id q) (is_new s.connections q) (λ next. held.highest_is q ∙ above_both old.highest id q above next)
            ∙ sym (ap (λ (h : Option ℕ). is_above h q) opened.highest);
        apart = opened.apart;
      },
      refl,
    )

pub same_in : (s : State) (shared : Shared) (old new : TheConnections) → PartsRepresent shared old s → IsSame old new → PartsRepresent shared new s
same_in s shared old new held same = record {
  machine = held.machine;
  connections = λ q. subst (λ (o : Option conns.Connection). ConnectionRepresentsAt s.types o (fin.get s.connections q)) (sym (same.found_is q)) (held.connections q);
  open_is = λ q. same.open_is q ∙ held.open_is q;
  highest_is = λ q. held.highest_is q ∙ sym (ap (λ (h : Option ℕ). is_above h q) same.highest);
  apart = same.apart;
}

-- ---- what becomes of one connection

pub moves : (s : State) (m : History) (id : ℕ) (still : Bool) (shared shared' : Shared) (old new : TheConnections) (c c' : Connection) → PartsRepresent shared old s → SharedRepresents shared' s.types m → fin.get s.connections id ≡ Some c
    → BecomesAt s.types still c' id old new → is_open c.phase && still ≡ is_open c'.phase → PartsRepresent shared' new (with_connection (with_machine s m) id c')
moves s m id still shared shared' old new c c' held serves got becomes stays = record {
  machine = serves;
  connections = held_put s.types (found old) (found new) s.connections id becomes.one c' held.connections becomes.put becomes.holds;
  open_is = λ q. becomes.open_is q ∙ go q (eq_by_cmp nat_cmp id q) refl
      ∙ open_put s.connections id q c' (is_open c.phase && still) (contains nat_cmp old.open_ids q) stays (held.open_is q);
  highest_is = λ q. new_still s.connections id q c c' got ∙ held.highest_is q ∙ sym (ap (λ (h : Option ℕ). is_above h q) becomes.highest);
  apart = becomes.apart;
}
  where
    was : contains nat_cmp old.open_ids id ≡ is_open c.phase
    was = held.open_is id ∙ ap open_in got

    go : (q : ℕ) (b : Bool) → eq_by_cmp nat_cmp id q ≡ b → cond b (contains nat_cmp old.open_ids q && still) (contains nat_cmp old.open_ids q) ≡ cond b (is_open c.phase && still) (contains nat_cmp old.open_ids q)
    go q true e = ap (λ (x : Bool). x && still) (ap (contains nat_cmp old.open_ids) (sym (tied_same id q e)) ∙ was)
    go q false e = refl

no_first : (b : Bool) → b && false ≡ false
no_first true = refl
no_first false = refl

same_and : (b : Bool) → b && b ≡ b
same_and true = refl
same_and false = refl

still_open : (a b : Bool) → (b ≡ true → a ≡ true) → a && b ≡ b
still_open true b h = refl
still_open false true h = h refl
still_open false false h = refl

-- it stays as it is
idles : (s : State) (id : ℕ) (shared shared' : Shared) (old new : TheConnections) (c c' : Connection) → PartsRepresent shared old s → SharedRepresents shared' s.types s.machine → fin.get s.connections id ≡ Some c → c' ≡ c
    → BecomesAt s.types (is_open c'.phase) c' id old new → PartsRepresent shared' new s
idles s id shared shared' old new c c' held serves got same becomes =
    subst (λ (all : Connections). PartsRepresent shared' new (with_connections s all)) (ap (fin.insert s.connections id) same ∙ put_same s.connections id c got)
    (moves s s.machine id (is_open c'.phase) shared shared' old new c c' held serves got becomes
    (ap (λ (x : Connection). is_open x.phase && is_open c'.phase) (sym same) ∙ same_and (is_open c'.phase)))

-- ---- bytes that come

-- all the bytes of a connection, where it waits for them
waiting_bytes : (s : State) (id : ℕ) (bytes : List ℕ) (c : Connection) (st : Phase) → fin.get s.connections id ≡ Some c → c.phase ≡ st → bytes_at s (comes id bytes) ≡ all_bytes st bytes
waiting_bytes s id bytes c st got represents = ap (option_and_then (λ (y : Connection). all_bytes y.phase bytes)) got ∙ ap (λ (p : Phase). all_bytes p bytes) represents

does_on : (s t : State) (id : ℕ) (bytes : List ℕ) (c : Connection) (st : Phase) (x : Effect) (decision : CallDecision) → fin.get s.connections id ≡ Some c → c.phase ≡ st
    → AsksIf s (all_bytes st bytes) decision → t ≡ received_by s id c st bytes decision → IsEffect s (comes id bytes) decision t x → Does s (comes id bytes) t x
does_on s t id bytes c st x decision got represents asks is effect = (
  decision,
  subst (λ (o : Option (List ℕ)). AsksIf s o decision) (sym (waiting_bytes s id bytes c st got represents)) asks,
  is ∙ sym (ap (λ (o : Option Connection). unless_refused (cond (is_some o) None (Some unknown_id)) s (by_connection s o (λ y. received_by s id y y.phase bytes decision))) got
      ∙ ap (λ (p : Phase). received_by s id c p bytes decision) represents),
  effect,
)

-- bytes on one that doesn't wait do nothing
comes_idle : (s : State) (id : ℕ) (bytes : List ℕ) (did : dones.Done) → did ≡ unasked no_change → IsEffect s (comes id bytes) undecided s (effect_on id did)
comes_idle s id bytes did none =
    subst (λ (x : dones.Done). IsEffect s (comes id bytes) undecided s (effect_on id x)) (sym none)
    (no_effect s s (comes id bytes) (λ q.
    ap (change_between (fin.get s.connections q) (fin.get s.connections q) 0) (same_either (eq_by_cmp nat_cmp id q) None) ∙ same_between (fin.get s.connections q)))

comes_done : (s : State) (id : ℕ) (bytes : List ℕ) (shared shared' : Shared) (old new : TheConnections) (c c' : Connection) (did : dones.Done) (st : Phase) → PartsRepresent shared old s → fin.get s.connections id ≡ Some c
    → c.phase ≡ st → Receives s.types s.machine s.last_tick c st bytes c' did shared' → BecomesAt s.types (is_open c'.phase) c' id old new → Done s (comes id bytes) (effect_on id did) shared' new
comes_done s id bytes shared shared' old new c c' did (waiting prefix) held got represents (decision, asks, is, (did_is, asked), serves) becomes =
    let m = machine_after s.types s.machine s.last_tick decision in
    let status = decided_status s.types s.machine s.last_tick decision in (
      with_connection (with_machine s m) id c',
      does_on s (with_connection (with_machine s m) id c') id bytes c (waiting prefix) (effect_on id did) decision got represents asks (ap (with_connection (with_machine s m) id) is)
          (one_effect s m (comes id bytes) decision id (Some c) c' 0 status did got refl (its_id id status None) (λ q isnt. (refl, other_id id status None q isnt))
          (did_is ∙ ap (λ (x : Connection). change_between (Some c) (Some x) 0 status) (sym is))
          (asked ∙ sym (ap (answered_bytes decision) (waiting_bytes s id bytes c (waiting prefix) got represents)))
          (answer_speaks s.types s.machine s.last_tick c (prefix ++ bytes) decision did (ap has_ended represents) did_is asked)),
      moves s m id (is_open c'.phase) shared shared' old new c c' held serves got becomes (ap (λ (x : Phase). is_open x && is_open c'.phase) represents),
      refl,
    )
comes_done s id bytes shared shared' old new c c' did (watching w) held got represents (same, did_is, serves) becomes =
    (s, does_on s s id bytes c (watching w) (effect_on id did) undecided got represents refl refl (comes_idle s id bytes did did_is), idles s id shared shared' old new c c' held serves got same becomes, refl)
comes_done s id bytes shared shared' old new c c' did ended held got represents (same, did_is, serves) becomes =
    (s, does_on s s id bytes c ended (effect_on id did) undecided got represents refl refl (comes_idle s id bytes did did_is), idles s id shared shared' old new c c' held serves got same becomes, refl)
comes_done s id bytes shared shared' old new c c' did (gone had_ended) held got represents (same, did_is, serves) becomes =
    (s, does_on s s id bytes c (gone had_ended) (effect_on id did) undecided got represents refl refl (comes_idle s id bytes did did_is), idles s id shared shared' old new c c' held serves got same becomes, refl)

-- ---- a peer that goes, and a pump

goes_done : (s : State) (id : ℕ) (shared shared' : Shared) (old new : TheConnections) (c c' : Connection) → PartsRepresent shared old s → fin.get s.connections id ≡ Some c
    → c' ≡ with_phase c (gone (has_ended c.phase)) → SharedRepresents shared' s.types s.machine → BecomesAt s.types (is_open c'.phase) c' id old new → Done s (goes id) (effect_on id (unasked no_change)) shared' new
goes_done s id shared shared' old new c c' held got is serves becomes = (
  with_connection s id c',
  (
    undecided,
    refl,
    ap (with_connection s id) is
        ∙ sym (ap (λ (o : Option Connection). unless_refused (cond (is_some o) None (Some unknown_id)) s (by_connection s o (λ x. with_connection s id (with_phase x (gone (has_ended x.phase)))))) got),
    one_effect s s.machine (goes id) undecided id (Some c) c' 0 None (unasked no_change) got refl refl (λ q isnt. (refl, refl))
        (sym (between_same c c' (ap (λ (x : Connection). x.written) is) (ap (λ (x : Connection). has_ended x.phase) is))) refl tt,
  ),
  moves s s.machine id (is_open c'.phase) shared shared' old new c c' held serves got becomes
      (still_open (is_open c.phase) (is_open c'.phase) (λ now. absurd (false_true (sym (ap (λ (x : Connection). is_open x.phase) is) ∙ now)))),
  refl,
)

-- a turn opens nothing
turn_opens : (turn : Watch → Turn) (c : Connection) (st : Phase) → c.phase ≡ st → is_open (after_turn turn c st).phase ≡ true → is_open c.phase ≡ true
turn_opens turn c (waiting prefix) represents now = now
turn_opens turn c (watching w) represents now = ap is_open represents
turn_opens turn c ended represents now = now
turn_opens turn c (gone had_ended) represents now = now

pumps_done : (s : State) (id max : ℕ) (shared shared' : Shared) (old new : TheConnections) (c c' : Connection) (did : Change) → PartsRepresent shared old s → fin.get s.connections id ≡ Some c → (max == 0) ≡ false
    → c' ≡ with_turn (pumped s.machine max) c → did ≡ change_between (Some c) (Some (with_turn (pumped s.machine max) c)) (lines_by (pumped s.machine max) c.phase) None
    → SharedRepresents shared' s.types s.machine → BecomesAt s.types (is_open c'.phase) c' id old new → Done s (pumps id max) (effect_on id (unasked did)) shared' new
pumps_done s id max shared shared' old new c c' did held got some is did_is serves becomes =
    let turn = pumped s.machine max in
    let lines = λ (o : Option Connection). unwrap_or (option_map (λ (x : Connection). lines_by turn x.phase) o) 0 in (
      with_connection s id c',
      (
        undecided,
        refl,
        ap (with_connection s id) is
            ∙ sym (ap₂ (λ (o : Option Connection) (b : Bool). unless_refused (cond (is_some o) (cond b (Some no_lines) None) (Some unknown_id)) s (by_connection s o (λ x. with_connection s id (with_turn turn x)))) got some),
        one_effect s s.machine (pumps id max) undecided id (Some c) c' (lines_by turn c.phase) None (unasked did) got (its_id id (lines (fin.get s.connections id)) 0 ∙ ap lines got) refl
            (λ q isnt. (other_id id (lines (fin.get s.connections q)) 0 q isnt, refl)) (did_is ∙ ap (λ (x : Connection). change_between (Some c) (Some x) (lines_by turn c.phase) None) (sym is)) refl tt,
      ),
      moves s s.machine id (is_open c'.phase) shared shared' old new c c' held serves got becomes
          (still_open (is_open c.phase) (is_open c'.phase) (λ now. turn_opens turn c c.phase refl (sym (ap (λ (x : Connection). is_open x.phase) is) ∙ now))),
      refl,
    )

-- ---- a change of one connection

some_lines : (max : ℕ) (b : Bool) → (max == 0) ≡ b → (change.Lines max ≡ change.Lines 0 → ⊥) → (max == 0) ≡ false
some_lines max true is isnt = absurd (isnt (ap change.Lines (eqb-true max 0 is)))
some_lines max false is isnt = is

abbrev lines_of : changes.ConnectionInput → ℕ
lines_of (change.Bytes bytes) = 0
lines_of (change.Lines max) = max
lines_of change.Gone = 0

pub no_lines_in : (max : ℕ) → 0 < max → change.Lines max ≡ change.Lines 0 → ⊥
no_lines_in max some none = let is : max ≡ 0 = ap lines_of none in omega (arith, some, is)

pub bytes_arent : (bytes : Bor (List ℕ)) → change.Bytes bytes ≡ change.Lines 0 → ⊥
bytes_arent bytes none = cc

pub gone_isnt : change.Gone ≡ change.Lines 0 → ⊥
gone_isnt none = cc

abbrev pub IsNone : changes.ConnectionInput → Type 0
IsNone what = what ≡ change.Lines 0

changes_done : (s : State) (what : changes.ConnectionInput) (id : ℕ) (shared shared' : Shared) (old new : TheConnections) (c c' : Connection) (did : dones.Done) → (IsNone what → ⊥) → PartsRepresent shared old s → fin.get s.connections id ≡ Some c
    → Makes s.types s.machine s.last_tick what c c' did shared' → BecomesAt s.types (is_open c'.phase) c' id old new → Done s (event_on id what) (effect_on id did) shared' new
changes_done s (change.Bytes bytes) id shared shared' old new c c' did some held got makes becomes = comes_done s id bytes.now shared shared' old new c c' did c.phase held got refl makes becomes
changes_done s (change.Lines max) id shared shared' old new c c' did some held got (is, did_is, serves) becomes =
    subst (λ (x : dones.Done). Done s (pumps id max) (effect_on id x) shared' new) (sym did_is)
    (pumps_done s id max shared shared' old new c c' _ held got (some_lines max (max == 0) refl some) is refl serves becomes)
changes_done s change.Gone id shared shared' old new c c' did some held got (is, did_is, serves) becomes =
    subst (λ (x : dones.Done). Done s (goes id) (effect_on id x) shared' new) (sym did_is) (goes_done s id shared shared' old new c c' held got is serves becomes)

-- by whether there is a connection of the id
by_known : (s : State) (what : changes.ConnectionInput) (id : ℕ) (o : Option Connection) → (IsNone what → ⊥) → fin.get s.connections id ≡ o → refusal s (event_on id what) ≡ cond (is_some o) None (Some unknown_id)
by_known s (change.Bytes bytes) id o some got = ap (λ (p : Option Connection). cond (is_some p) None (Some unknown_id)) got
by_known s (change.Lines max) id o some got =
    ap (λ (b : Bool). cond (is_some (fin.get s.connections id)) (cond b (Some no_lines) None) (Some unknown_id)) (some_lines max (max == 0) refl some)
    ∙ ap (λ (p : Option Connection). cond (is_some p) None (Some unknown_id)) got
by_known s change.Gone id o some got = ap (λ (p : Option Connection). cond (is_some p) None (Some unknown_id)) got

-- ---- a pump of no lines

pub none_pumped : (s : State) (id max : ℕ) (hub : Hub) → (max == 0) ≡ true → is_some (found hub.connections id) ≡ true → HubRepresents hub s → refusal s (pumps id max) ≡ Some no_lines
none_pumped s id max hub none known is =
    ap₂ (λ (a b : Bool). cond a (cond b (Some no_lines) None) (Some unknown_id)) (sym (known_is s.types (found hub.connections id) (fin.get s.connections id) (is.0.connections id)) ∙ known) none

pub unknown_pumped : (s : State) (id max : ℕ) (hub : Hub) → is_some (found hub.connections id) ≡ false → HubRepresents hub s → refusal s (pumps id max) ≡ Some unknown_id
unknown_pumped s id max hub unknown is =
    ap (λ (a : Bool). cond a (cond (max == 0) (Some no_lines) None) (Some unknown_id)) (sym (known_is s.types (found hub.connections id) (fin.get s.connections id) (is.0.connections id)) ∙ unknown)

-- ---- out of memory

waiting_open : (st : Phase) → is_waiting st ≡ true → is_open st ≡ true
waiting_open (waiting prefix) is = refl
waiting_open (watching w) is = absurd (false_true is)
waiting_open ended is = absurd (false_true is)
waiting_open (gone had_ended) is = absurd (false_true is)

pub watching_open : (st : Phase) → is_watching st ≡ true → is_open st ≡ true
watching_open (waiting prefix) is = absurd (false_true is)
watching_open (watching w) is = refl
watching_open ended is = absurd (false_true is)
watching_open (gone had_ended) is = absurd (false_true is)

-- the code holds a state to which the event leads that found no memory
abbrev pub OutOfMemory : State → Event → Shared → TheConnections → Type 0
OutOfMemory s e shared k = (t : State) × RunsOutOfMemory s e (λ q. false) t × PartsRepresent shared k t × (t.last_tick ≡ s.last_tick)

dies : (s : State) (id : ℕ) (shared shared' : Shared) (old new : TheConnections) (c : Connection) → PartsRepresent shared old s → SharedRepresents shared' s.types s.machine → fin.get s.connections id ≡ Some c → is_open c.phase ≡ true
    → BecomesAt s.types false (with_phase c ended) id old new
    → (t : State) × (t ≡ by_connection s (fin.get s.connections id) (λ x. with_connection s id (killed x))) × PartsRepresent shared' new t × (t.last_tick ≡ s.last_tick)
dies s id shared shared' old new c held serves got was_open becomes =
    let c' = with_phase c ended in (
      with_connection s id c',
      sym (ap (λ (o : Option Connection). by_connection s o (λ x. with_connection s id (killed x))) got ∙ ap (with_connection s id) (ap (λ (b : Bool). cond b c' c) was_open)),
      moves s s.machine id false shared shared' old new c c' held serves got becomes (no_first (is_open c.phase)),
      refl,
    )

changes_run_out : (s : State) (what : changes.ConnectionInput) (id : ℕ) (shared shared' : Shared) (old new : TheConnections) (c : Connection) → (IsNone what → ⊥) → PartsRepresent shared old s → fin.get s.connections id ≡ Some c
    → takes_memory_on what c.phase ≡ true → SharedRepresents shared' s.types s.machine → BecomesAt s.types false (with_phase c ended) id old new → OutOfMemory s (event_on id what) shared' new
changes_run_out s (change.Bytes bytes) id shared shared' old new c some held got takes serves becomes =
    let died = dies s id shared shared' old new c held serves got (waiting_open c.phase takes) becomes in (
      died.0,
      (
        by_known s (change.Bytes bytes) id (Some c) some got,
        ap (λ (o : Option Connection). unwrap_or (option_map (λ x. is_waiting x.phase) o) false) got ∙ takes,
        died.1,
      ),
      died.2,
      died.3,
    )
changes_run_out s (change.Lines max) id shared shared' old new c some held got takes serves becomes =
    let died = dies s id shared shared' old new c held serves got (watching_open c.phase takes) becomes in (
      died.0,
      (
        by_known s (change.Lines max) id (Some c) some got,
        ap (λ (o : Option Connection). unwrap_or (option_map (λ x. is_watching x.phase) o) false) got ∙ takes,
        died.1,
      ),
      died.2,
      died.3,
    )
changes_run_out s change.Gone id shared shared' old new c some held got takes serves becomes = absurd (false_true takes)

-- ---- the call

-- the connection of an id, and that of the state
represents_at : (s : State) (shared : Shared) (k : TheConnections) (id : ℕ) (d : conns.Connection) (c : Connection) → PartsRepresent shared k s → found k id ≡ Some d → fin.get s.connections id ≡ Some c → ConnectionRepresents s.types d c → IsAt id d k
represents_at s shared k id d c held at got holds = (at, held.open_is id ∙ ap open_in got ∙ sym (same_open s.types d c holds), held.apart)

none_refused : {A : Type 0} {x : A} → Some x ≡ None → ⊥
none_refused e = cc

abbrev pub with_parts : Hub → Shared → TheConnections → Hub
with_parts hub shared k = record { alloc = hub.alloc; shared = shared; connections = k; last_tick = hub.last_tick }

abbrev pub Answer : Type 0
Answer = Result Effect HubFault

-- a fault that is no refusal is one of memory or of the store
not_refused : (f : HubFault) → refusal_in (outcome_of {A = Effect} (Err f)) ≡ None → outcome_of {A = Effect} (Err f) ≡ outcome.out_of_memory
not_refused (fault.Refused why) none = absurd (none_refused none)
not_refused (fault.Failed what) none = refl

not_done : (why : Refusal) → outcome.done ≡ outcome.refused why → ⊥
not_done why is = cc

pub changes_handled : (hub : Hub) (what : changes.ConnectionInput) (id : ℕ) (shared : Shared) (new : TheConnections) (r : Answer) → (IsNone what → ⊥)
    → ((types : List ServedShape) (m : History) (d : conns.Connection) (c : Connection) → SharedRepresents hub.shared types m → IsAt id d hub.connections → ConnectionRepresents types d c
    → Changes types m hub.last_tick what id c hub.connections new shared r)
    → (found hub.connections id ≡ None → (outcome_of r ≡ outcome.refused unknown_id) × (new ≡ hub.connections) × (shared ≡ hub.shared)) → (is_some (found hub.connections id) ≡ true → refusal_in (outcome_of r) ≡ None)
    → Handles hub (event_on id what) r (with_parts hub shared new)
changes_handled hub what id shared new r some known unknown taken = go (found hub.connections id) refl r refl
  where
    after : Hub
    after = with_parts hub shared new

    changed : (d : conns.Connection) → found hub.connections id ≡ Some d → (s : State) → HubRepresents hub s → (p : Answer) → r ≡ p
        → (c : Connection) × (fin.get s.connections id ≡ Some c) × Changes s.types s.machine hub.last_tick what id c hub.connections new shared p
    changed d at s here p is =
        let c = some_held s.types (found hub.connections id) (fin.get s.connections id) d (here.0.connections id) at in (
          c.0,
          c.1,
          subst (Changes s.types s.machine hub.last_tick what id c.0 hub.connections new shared) is
              (known s.types s.machine d c.0 here.0.machine (represents_at s hub.shared hub.connections id d c.0 here.0 at c.1 c.2) c.2),
        )

    died : (d : conns.Connection) → found hub.connections id ≡ Some d → (f : HubFault) → r ≡ Err f → StepsOrRefuses hub (event_on id what) outcome.out_of_memory after
    died d at f is = λ s here.
        let one = changed d at s here (Err f) is in
        let dead = one.2 in
        let ran_out = changes_run_out s what id hub.shared shared hub.connections new one.0 some here.0 one.1 dead.0 dead.1 dead.2 in
        ((λ q. false), ran_out.0, ran_out.1, (ran_out.2, here.1 ∙ sym ran_out.3))

    go : (f : Option conns.Connection) → found hub.connections id ≡ f → (p : Answer) → r ≡ p → Handles hub (event_on id what) p after
    go None at (Ok x) is = absurd (not_done unknown_id (sym (ap outcome_of is) ∙ (unknown at).0))
    go None at (Err f) is = subst (λ (o : Outcome). StepsOrRefuses hub (event_on id what) o after) (sym (sym (ap outcome_of is) ∙ (unknown at).0)) (
      ap₂ (with_parts hub) (unknown at).2 (unknown at).1,
      λ s here. by_known s what id None some (none_held s.types (found hub.connections id) (fin.get s.connections id) (here.0.connections id) at),
    )
    go (Some d) at (Ok x) is = λ s here.
        let one = changed d at s here (Ok x) is in
        let made = one.2 in
        let done = changes_done s what id hub.shared shared hub.connections new one.0 made.0 made.1 some here.0 one.1
        (subst (λ (n : ℕ). Makes s.types s.machine n what one.0 made.0 made.1 shared) here.1 made.2) made.4 in
        let t = done.0 in
        (by_known s what id (Some one.0) some one.1, t, subst (Does s (event_on id what) t) (sym made.3) done.1, (done.2, here.1 ∙ sym done.3))
    go (Some d) at (Err f) is =
        subst (λ (o : Outcome). StepsOrRefuses hub (event_on id what) o after) (sym (not_refused f (sym (ap (λ (p : Answer). refusal_in (outcome_of p)) is) ∙ taken (ap is_some at)))) (died d at f is)

-- ---- compactions

over_shared : (s : State) (m : History) (shared shared' : Shared) (k : TheConnections) → PartsRepresent shared k s → SharedRepresents shared' s.types m → PartsRepresent shared' k (with_machine s m)
over_shared s m shared shared' k held represents = record { machine = represents; connections = held.connections; open_is = held.open_is; highest_is = held.highest_is; apart = held.apart }

-- from the compacted number to the current revision
within : (low c high : ℕ) → (c < low → ⊥) → (high < c → ⊥) → (nat_le low c && nat_le c high) ≡ true
within low c high above below = elim (leb_tells low c) [
  | inl first ↦ elim (leb_tells c high) [
    | inl second ↦ rw (first.0, second.0) refl
    | inr second ↦ absurd (below second.1)
  ]
  | inr first ↦ absurd (above first.1)
]

unrefused : (s : State) (c : ℕ) → (c < s.machine.compacted → ⊥) → (s.machine.current < c → ⊥) → refusal s (compacts c) ≡ None
unrefused s c above below = ap (λ (b : Bool). cond b None (Some compaction_refused)) (within s.machine.compacted c s.machine.current above below)

refused_low : (s : State) (c : ℕ) → c < s.machine.compacted → refusal s (compacts c) ≡ Some compaction_refused
refused_low s c low = ap (λ (b : Bool). cond (b && nat_le c s.machine.current) None (Some compaction_refused)) (lt-leb s.machine.compacted c low)

refused_high : (s : State) (c : ℕ) → s.machine.current < c → refusal s (compacts c) ≡ Some compaction_refused
refused_high s c high =
    ap (λ (b : Bool). cond (nat_le s.machine.compacted c && b) None (Some compaction_refused)) (lt-leb c s.machine.current high)
    ∙ ap (λ (b : Bool). cond b None (Some compaction_refused)) (no_first (nat_le s.machine.compacted c))

ok_isnt : {A E : Type 0} (a : A) (e : E) → Ok a ≡ Err e → ⊥
ok_isnt a e h = cc

abbrev failed_with : (A : Type 0) → CompactFault → Result A CompactFault
failed_with A e = Err e

early_isnt : (A : Type 0) (f : TheirFault) → failed_with A (broken.Failed f) ≡ failed_with A broken.Expired → ⊥
early_isnt A f h = cc

late_isnt : (A : Type 0) (f : TheirFault) → failed_with A (broken.Failed f) ≡ failed_with A broken.TooLarge → ⊥
late_isnt A f h = cc

-- by what a compaction answers it is refused or not
abbrev pub Answers : {A : Type 0} → State → ℕ → Result A CompactFault → Type 0
Answers s c r = ((r ≡ Err broken.Expired) ↔ (c < s.machine.compacted)) × ((r ≡ Err broken.TooLarge) ↔ (s.machine.current < c))

pub done_fits : (A : Type 0) (s : State) (c : ℕ) (r : Result A CompactFault) (a : A) → Answers s c r → r ≡ Ok a → refusal s (compacts c) ≡ None
done_fits A s c r a (early, late) is = unrefused s c (λ h. ok_isnt a broken.Expired (sym is ∙ early.1 h)) (λ h. ok_isnt a broken.TooLarge (sym is ∙ late.1 h))

pub failed_fits : (A : Type 0) (s : State) (c : ℕ) (r : Result A CompactFault) (e : CompactFault) (f : TheirFault) → Answers s c r → r ≡ Err e → e ≡ broken.Failed f → refusal s (compacts c) ≡ None
failed_fits A s c r e f (early, late) is failed =
    let back : failed_with A (broken.Failed f) ≡ r = sym (is ∙ ap (failed_with A) failed) in
    unrefused s c (λ h. early_isnt A f (back ∙ early.1 h)) (λ h. late_isnt A f (back ∙ late.1 h))

pub early_refused : (A : Type 0) (s : State) (c : ℕ) (r : Result A CompactFault) (e : CompactFault) → Answers s c r → r ≡ Err e → e ≡ broken.Expired → refusal s (compacts c) ≡ Some compaction_refused
early_refused A s c r e (early, late) is expired = refused_low s c (early.0 (is ∙ ap (failed_with A) expired))

pub late_refused : (A : Type 0) (s : State) (c : ℕ) (r : Result A CompactFault) (e : CompactFault) → Answers s c r → r ≡ Err e → e ≡ broken.TooLarge → refusal s (compacts c) ≡ Some compaction_refused
late_refused A s c r e (early, late) is large = refused_high s c (late.0 (is ∙ ap (failed_with A) large))

-- the same connections over another API
pub compacts_well : (s : State) (c : ℕ) (hub : Hub) (shared : Shared) → HubRepresents hub s → refusal s (compacts c) ≡ None
    → SharedRepresents shared s.types (compacted_to c s.machine) → (refusal s (compacts c) ≡ None) × (t : State) × Does s (compacts c) t effect.Nothing × (PartsRepresent shared hub.connections t × (hub.last_tick ≡ t.last_tick))
compacts_well s c hub shared is free represents =
    let t = with_machine s (compacted_to c s.machine) in (
      free,
      t,
      (
        undecided,
        refl,
        sym (ap (λ (o : Option Refusal). unless_refused o s t) free),
        no_effect s t (compacts c) (λ q. same_between (fin.get s.connections q)),
      ),
      (over_shared s (compacted_to c s.machine) hub.shared shared hub.connections is.0 represents, is.1),
    )

pub same_shared : (hub : Hub) (shared : Shared) → shared ≡ hub.shared → with_parts hub shared hub.connections ≡ hub
same_shared hub shared same = ap (λ (a : Shared). with_parts hub a hub.connections) same

pub same_held : (s : State) (hub : Hub) (shared : Shared) → HubRepresents hub s → SharedRepresents shared s.types s.machine → PartsRepresent shared hub.connections s × (hub.last_tick ≡ s.last_tick)
same_held s hub shared is represents = (over_shared s s.machine hub.shared shared hub.connections is.0 represents, is.1)

-- ---- what failed below

pub fails_out_of_memory : (A : Type 0) (f : Fault) (h : HubFault) → h ≡ hub_fault_of f → outcome_of {A = A} (Err h) ≡ outcome.out_of_memory
fails_out_of_memory A f h is = ap (λ (x : HubFault). outcome_of {A = A} (Err x)) is

pub failed_handled : (hub new : Hub) (e : Event) (o : Outcome) → o ≡ outcome.out_of_memory → StepsOrRefuses hub e outcome.out_of_memory new → StepsOrRefuses hub e o new
failed_handled hub new e o is handles = subst (λ (p : Outcome). StepsOrRefuses hub e p new) (sym is) handles

-- ---- bytes that are taken

taken_left : (c : Connection) (n : ℕ) → untaken_in c.phase (drop c.taken c.written) ≡ drop c.taken c.written → drop (with_taken c n).taken c.written ≡ drop n (drop c.taken c.written)
taken_left c n all = ap (λ (out : List ℕ). drop (c.taken + min n (length out)) c.written) all ∙ left_after c.taken n c.written

pub takes_ended : (types : List ServedShape) (out rest : Out) (c : Connection) (n : ℕ) → left rest ≡ drop n (left out) → ConnectionRepresents types (conn.Ended out) c → ConnectionRepresents types (conn.Ended rest) (with_taken c n)
takes_ended types out rest c n taken (represents, is) =
    (represents, taken_left c n (ap (λ (st : Phase). untaken_in st (drop c.taken c.written)) represents) ∙ ap (drop n) is ∙ sym taken)

taken_low : (taken n long left : ℕ) → left ≡ long - taken → taken ≤ long → taken + min n left ≤ long
taken_low taken n long left is low = omega (arith, is, low)

pub takes_watching : (types : List ServedShape) (w : TheWatch) (out rest : Out) (c : Connection) (n : ℕ) → left rest ≡ drop n (left out) → ConnectionRepresents types (conn.Watch w out) c
    → ConnectionRepresents types (conn.Watch w rest) (with_taken c n)
takes_watching types w out rest c n taken (represents, is, low) =
    let all : untaken_in c.phase (drop c.taken c.written) ≡ drop c.taken c.written = ap (λ (st : Phase). untaken_in st (drop c.taken c.written)) represents in
    (represents, taken_left c n all ∙ ap (drop n) is ∙ sym taken, taken_low c.taken n (length c.written) (length (out_of c)) (ap length all ∙ length-drop c.taken c.written) low)

nothing_taken : (c : Connection) (n : ℕ) → out_of c ≡ [] → out_of (with_taken c n) ≡ []
nothing_taken c n none = out_taken c n ∙ ap (drop n) none ∙ drop_all n [] (omega arith)

pub takes_over : (types : List ServedShape) (had_ended : Bool) (c : Connection) (n : ℕ) → ConnectionRepresents types (conn.Closed had_ended) c → ConnectionRepresents types (conn.Closed had_ended) (with_taken c n)
takes_over types had_ended c n (closed, had, none) = (closed, had, nothing_taken c n none)

pub takes_well : (s : State) (id n : ℕ) (shared : Shared) (old new : TheConnections) → PartsRepresent shared old s
    → ((d : conns.Connection) (c : Connection) → IsAt id d old → ConnectionRepresents s.types d c → BecomesAt s.types true (with_taken c n) id old new)
    → (found old id ≡ None → new ≡ old) → PartsRepresent shared new (with_bytes_taken s id n) × ((with_bytes_taken s id n).last_tick ≡ s.last_tick)
takes_well s id n shared old new held known unknown = go (found old id) refl
  where
    Taken : State → Type 0
    Taken t = PartsRepresent shared new t × (t.last_tick ≡ s.last_tick)

    still : (b : Bool) → b && true ≡ b
    still true = refl
    still false = refl

    go : (o : Option conns.Connection) → found old id ≡ o → Taken (with_bytes_taken s id n)
    go None at =
        subst Taken (sym (ap (λ (p : Option Connection). by_connection s p (λ c. with_connection s id (with_taken c n))) (none_held s.types (found old id) (fin.get s.connections id) (held.connections id) at)))
        (subst (λ (k : TheConnections). PartsRepresent shared k s) (sym (unknown at)) held, refl)
    go (Some d) at =
        let c = some_held s.types (found old id) (fin.get s.connections id) d (held.connections id) at in
        subst Taken (sym (ap (λ (p : Option Connection). by_connection s p (λ c. with_connection s id (with_taken c n))) c.1))
        (moves s s.machine id true shared shared old new c.0 (with_taken c.0 n) held held.machine c.1 (known d c.0 (represents_at s shared old id d c.0 held at c.1 c.2) c.2) (still (is_open c.0.phase)), refl)
