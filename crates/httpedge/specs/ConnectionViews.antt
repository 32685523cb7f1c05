-- What the hub's values stand for.
use Rattle.std.specs.Prelude.{◌≡◌, ℕ, ◌++◌, ◌+◌, ◌≤◌, Bool, true, false, ◌&&◌, ◌==◌, cond, if◌then◌else◌, List, [], drop, length, nat_lt, Option, Some, None, is_some, option_map, ⊤}
use Rattle.std.specs.Ordering.{nat_cmp, eq_by_cmp}
use Rattle.std.specs.BTreeMap.{BTreeMap, btree_map_len, get}
use Rattle.std.specs.BTreeSet.{BTreeSet, contains}
use Rattle.std.specs.FinMap as fin
use Rattle.api_types.specs.TypesFile.{ServedShape}
use Rattle.verbs.specs.declared.api.Api.{Api}
use Rattle.history.specs.History.{History}
use Rattle.verbs.specs.Views.{ApiRepresents}
use Rattle.httpedge.specs.declared.connection.Connection as conns
use Rattle.httpedge.specs.declared.connection.Connection.TheVariants as conn
use Rattle.httpedge.specs.declared.connections.Connections.{Connections as TheConnections}
use Rattle.httpedge.specs.declared.out.Out as outs
use Rattle.httpedge.specs.declared.watching.Watch as watches
use Rattle.requests.specs.Asks.{CallDecision, Asks}
use Rattle.httpedge.specs.Connections.{Connection, Connections, Phase, waiting, watching, ended, gone, has_ended, is_new, is_open, is_waiting, is_watching, open_on, new_connection, out_of, with_phase}
use Rattle.httpedge.specs.Effects.{answered_bytes, asked_in, change_between, decided_status, lines_change, no_change, unasked}
use Rattle.httpedge.specs.declared.effect.Change.{Change}
use Rattle.httpedge.specs.declared.effect.Done.{Done}
use Rattle.httpedge.specs.IdViews.{is_in}
use Rattle.httpedge.specs.SharedViews.{SharedRepresents}
use Rattle.httpedge.specs.declared.shared.Shared.{Shared}
use Rattle.watchline.specs.Watches.{Cursor}
use Rattle.watchline.specs.Watches as cursors
use Rattle.requests.specs.ReplyBytes.{chunks}
use Rattle.requests.specs.ReadBufferViews.{buffered}
use Rattle.requests.specs.Pendings.{Awaits}
use Rattle.httpedge.specs.Steps.{State, connection_after, has_no_next, machine_after, turn_bytes}
use Rattle.httpedge.specs.Watches.{Turn, Watch, unless_ended}

-- ---- one connection

abbrev pub left : outs.Out → List ℕ
left o = drop o.taken o.bytes.items

abbrev pub watch_of : watches.Watch → Watch
watch_of w = record { cursor = w.cursor; opened_at = w.opened_at; timeout = w.timeout }

-- how one stands that the code holds
abbrev pub phase_in : conns.Connection → Phase
phase_in (conn.Head prefix) = waiting (buffered prefix)
phase_in (conn.Body prefix p) = waiting (buffered prefix)
phase_in (conn.Watch w out) = watching (watch_of w)
phase_in (conn.Ended out) = ended
phase_in (conn.Closed had_ended) = gone had_ended

abbrev pub is_open_in : conns.Connection → Bool
is_open_in d = is_open (phase_in d)

abbrev pub is_waiting_in : conns.Connection → Bool
is_waiting_in d = is_waiting (phase_in d)

abbrev pub is_watching_in : conns.Connection → Bool
is_watching_in d = is_watching (phase_in d)

abbrev pub has_ended_in : conns.Connection → Bool
has_ended_in d = has_ended (phase_in d)

abbrev pub out_in : conns.Connection → List ℕ
out_in (conn.Watch w out) = left out
out_in (conn.Ended out) = left out
out_in _ = []

-- whether it had ended, where it is over
abbrev pub had_ended_if_over_in : conns.Connection → Option Bool
had_ended_if_over_in (conn.Ended out) = if length (left out) == 0 then Some true else None
had_ended_if_over_in (conn.Closed had_ended) = Some had_ended
had_ended_if_over_in _ = None

-- one on which nothing was written, and these bytes came
abbrev pub waiting_for : List ℕ → Connection
waiting_for prefix = with_phase new_connection (waiting prefix)

-- the code holds this connection, by these types
abbrev pub ConnectionRepresents : List ServedShape → conns.Connection → Connection → Type 0
ConnectionRepresents types (conn.Head prefix) c = c ≡ waiting_for (buffered prefix)
ConnectionRepresents types (conn.Body prefix p) c = (c ≡ waiting_for (buffered prefix)) × Awaits types (buffered prefix) p
ConnectionRepresents types (conn.Watch w out) c = (c.phase ≡ watching (watch_of w)) × (drop c.taken c.written ≡ left out) × (c.taken ≤ length c.written)
ConnectionRepresents types (conn.Ended out) c = (c.phase ≡ ended) × (drop c.taken c.written ≡ left out)
-- over: nothing more is written on it, nothing is out, and it had ended or not
ConnectionRepresents types (conn.Closed had_ended) c = (is_open c.phase ≡ false) × (has_ended c.phase ≡ had_ended) × (out_of c ≡ [])

-- ---- what bytes make of it

-- what bytes do to a connection that waited for them, by what they ask
abbrev pub received_change : List ServedShape → History → ℕ → Connection → List ℕ → CallDecision → Change
received_change types m last_tick c bytes decision = change_between (Some c) (Some (connection_after types m last_tick c bytes decision)) 0 (decided_status types m last_tick decision)

-- what was done is what these bytes do to such a connection, by what they ask: the change, and that the request of these bytes is answered, if one is
abbrev pub Receiving : List ServedShape → History → ℕ → Connection → List ℕ → CallDecision → Done → Type 0
Receiving types m last_tick c bytes decision did =
    (did.change ≡ received_change types m last_tick c bytes decision) × (asked_in did ≡ answered_bytes decision (Some bytes))

-- by all these bytes a connection that waited becomes this one, after this tick, this was done, and the API then stands for the machine that
-- they lead to
abbrev pub Becomes : List ServedShape → History → ℕ → List ℕ → conns.Connection → Done → Api → Type 0
Becomes types m last_tick bytes c did api =
    (decision : CallDecision) × Asks types bytes decision × ConnectionRepresents types c (connection_after types m last_tick new_connection bytes decision)
    × Receiving types m last_tick new_connection bytes decision did × ApiRepresents api types (machine_after types m last_tick decision)

-- by how it stood
abbrev pub ReceivesRepresentedBy : List ServedShape → History → ℕ → Connection → Phase → List ℕ → conns.Connection → Done → Api → Type 0
ReceivesRepresentedBy types m last_tick c (waiting prefix) bytes d did api = (c ≡ waiting_for prefix) × Becomes types m last_tick (prefix ++ bytes) d did api
ReceivesRepresentedBy types m last_tick c _ bytes d did api = ConnectionRepresents types d c × (did ≡ unasked no_change) × ApiRepresents api types m

abbrev pub ReceivesRepresented : List ServedShape → History → ℕ → Connection → List ℕ → conns.Connection → Done → Api → Type 0
ReceivesRepresented types m last_tick c bytes d did api = ReceivesRepresentedBy types m last_tick c c.phase bytes d did api

-- ---- a watch's turn

-- the bytes of these lines are written behind what was out, that is this change, and the cursor stands where they lead
abbrev pub Pumps : cursors.Turn → Change → Cursor → List ℕ → List ℕ → Type 0
Pumps t change next old new = (new ≡ old ++ chunks t.lines t.ended) × (change ≡ lines_change (chunks t.lines t.ended) (length t.lines) t.ended) × (next ≡ t.next)

-- what a watch does at this turn
abbrev pub turn_change : Turn → Change
turn_change t = lines_change (turn_bytes t) (length t.lines) (has_no_next t.next)

-- it wrote what this turn writes behind what was out, that is this change, and then stands so, unless it has ended
abbrev pub Turns : Turn → Change → Watch → List ℕ → List ℕ → Type 0
Turns t change w old new = (new ≡ old ++ turn_bytes t) × (change ≡ turn_change t) × (t.next ≡ unless_ended change.has_ended w)

-- ---- all connections

abbrev pub ConnectionRepresentsAt : List ServedShape → Option conns.Connection → Option Connection → Type 0
ConnectionRepresentsAt types None None = ⊤
ConnectionRepresentsAt types None (Some c) = ⊥
ConnectionRepresentsAt types (Some d) None = ⊥
ConnectionRepresentsAt types (Some d) (Some c) = ConnectionRepresents types d c

-- an id above the highest that was opened
abbrev pub is_above : Option ℕ → ℕ → Bool
is_above None id = true
is_above (Some highest) id = nat_lt highest id

-- whether one that isn't held had ended, by the ids that had ended and those that hadn't
abbrev pub had_ended_by_ids : Bool → Bool → Option Bool
had_ended_by_ids true cut = Some true
had_ended_by_ids false true = Some false
had_ended_by_ids false false = None

abbrev pub closed_by : Bool → Bool → Option conns.Connection
closed_by had_ended cut = option_map (λ h. conn.Closed h) (had_ended_by_ids had_ended cut)

abbrev pub held_or : Option conns.Connection → Option conns.Connection → Option conns.Connection
held_or None other = other
held_or (Some d) other = Some d

-- the connection of an id
abbrev pub found_in : BTreeMap ℕ conns.Connection → (ℕ → Bool) → (ℕ → Bool) → ℕ → Option conns.Connection
found_in held had_ended cut id = held_or (get nat_cmp held id) (closed_by (had_ended id) (cut id))

abbrev pub found : TheConnections → ℕ → Option conns.Connection
found k = found_in k.held (is_in k.ended.ranges) (is_in k.cut.ranges)

-- how many are held, and how many ranges the ids of all others are
abbrev pub kept_in : TheConnections → ℕ × ℕ
kept_in k = (btree_map_len k.held, btree_map_len k.ended.ranges + btree_map_len k.cut.ranges)

-- none that is held is among those that are over and had ended
abbrev pub IsApart : TheConnections → Type 0
IsApart k = (q : ℕ) → is_some (get nat_cmp k.held q) ≡ true → is_in k.ended.ranges q ≡ false

-- these connections are those of the state, with the ids of those that are open and the highest id, and what they share stands for its machine
pub record PartsRepresent (shared : Shared) (k : TheConnections) (s : State) : Type 0 where
  pub machine : SharedRepresents shared s.types s.machine
  pub connections : (id : ℕ) → ConnectionRepresentsAt s.types (found k id) (fin.get s.connections id)
  pub open_is : (id : ℕ) → contains nat_cmp k.open_ids id ≡ open_on s.connections id
  pub highest_is : (id : ℕ) → is_new s.connections id ≡ is_above k.highest id
  pub apart : IsApart k

-- ---- words of private clauses

-- the connection of an id is this one, the others are as they were
abbrev pub PutAt : ℕ → conns.Connection → (ℕ → Option conns.Connection) → (ℕ → Option conns.Connection) → Type 0
PutAt id d old new = (q : ℕ) → new q ≡ cond (eq_by_cmp nat_cmp id q) (Some d) (old q)

-- an id is among those that are open if it was and still is
abbrev pub OpenIdsAfter : ℕ → Bool → TheConnections → TheConnections → Type 0
OpenIdsAfter id still old new = (q : ℕ) → contains nat_cmp new.open_ids q ≡ cond (eq_by_cmp nat_cmp id q) (contains nat_cmp old.open_ids q && still) (contains nat_cmp old.open_ids q)

-- what becomes of a connection by its id, and whether it is open if it was
pub record BecomesAt (types : List ServedShape) (still : Bool) (c : Connection) (id : ℕ) (old new : TheConnections) : Type 0 where
  pub one : conns.Connection
  pub holds : ConnectionRepresents types one c
  pub put : PutAt id one (found old) (found new)
  pub open_is : OpenIdsAfter id still old new
  pub highest : new.highest ≡ old.highest
  pub apart : IsApart new

-- of a connection that is over only the id may be kept; that says as much
pub record Forgets (id : ℕ) (d : conns.Connection) (old new : TheConnections) : Type 0 where
  pub one : conns.Connection
  pub as_much : (types : List ServedShape) (c : Connection) → ConnectionRepresents types d c → ConnectionRepresents types one c
  pub put : PutAt id one (found old) (found new)
  pub open_is : new.open_ids ≡ old.open_ids
  pub highest : new.highest ≡ old.highest
  pub apart : IsApart new

-- this is the connection of an id
abbrev pub IsAt : ℕ → conns.Connection → TheConnections → Type 0
IsAt id d k = (found k id ≡ Some d) × (contains nat_cmp k.open_ids id ≡ is_open_in d) × IsApart k

-- there is no connection of this id
abbrev pub IsFresh : ℕ → TheConnections → Type 0
IsFresh id k = (found k id ≡ None) × (contains nat_cmp k.open_ids id ≡ false) × IsApart k

-- one is opened
pub record Opens (id : ℕ) (d : conns.Connection) (old new : TheConnections) : Type 0 where
  pub put : PutAt id d (found old) (found new)
  pub open_is : (q : ℕ) → contains nat_cmp new.open_ids q ≡ cond (eq_by_cmp nat_cmp id q) (is_open_in d) (contains nat_cmp old.open_ids q)
  pub highest : new.highest ≡ Some id
  pub apart : IsApart new

pub record IsSame (old new : TheConnections) : Type 0 where
  pub found_is : (q : ℕ) → found new q ≡ found old q
  pub open_is : (q : ℕ) → contains nat_cmp new.open_ids q ≡ contains nat_cmp old.open_ids q
  pub highest : new.highest ≡ old.highest
  pub apart : IsApart new

-- each that is open is among these ids
abbrev pub Lists : BTreeSet ℕ → Connections → Type 0
Lists ids all = (q : ℕ) → open_on all q ≡ true → contains nat_cmp ids q ≡ true
