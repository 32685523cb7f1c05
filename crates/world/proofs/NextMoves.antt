-- The next move of a client as the code finds it, and moves in turn.
use Rattle.std.proofs.Common.{◌≡◌, ◌∙◌, ◌<◌, ◌≤◌, ◌+◌, ◌==◌, ℕ, suc, Bool, true, false, cond, not, List, [], ◌∷◌, ◌++◌, length, Option, Some, None, ap, ap₂, append-nil, append_assoc, arith, refl, subst, sym}
use Rattle.std.specs.Prelude.{nat_lt, option_and_then, option_map, unwrap_or}
use Rattle.std.specs.FinMap as fin
use Rattle.std.proofs.lemmas.Bool.{le-ltb, lt-ltb}
use Rattle.watchline.specs.Watches.{is_bookmark_due}
use Rattle.httpedge.specs.Connections.{Connection, Phase, waiting, watching, ended, gone}
use Rattle.httpedge.specs.NextTurns.{next_turn, turn_in}
use Rattle.httpedge.specs.Steps as edge
use Rattle.reflector.specs.Client.{Cache, SyncPhase, first, list_revision, next, streaming}
use Rattle.world_laws.specs.Moves.{Pursues, is_at, is_current, is_old, move_by, move_on, next_move, wait_by, wait_on}
use Rattle.world_laws.specs.Reports.{Report, reports_after}
use Rattle.world_laws.specs.Tasks.{Task}
use Rattle.world_laws.specs.World.{ClientConnection, Steps, World, WorldEvent, cut, other, reply_on, send, to_client, to_server}

-- ---- where the client is

pub at_some : (current revision : ℕ) (cache : Option Cache) → Some revision ≡ option_map (λ (now : Cache). now.revision) cache → (revision == current) ≡ is_at current cache
at_some current revision None is = absurd cc
at_some current revision (Some now) is = let same : revision ≡ now.revision = cc in ap (λ (r : ℕ). r == current) same

pub at_none : (current : ℕ) (cache : Option Cache) → None ≡ option_map (λ (now : Cache). now.revision) cache → false ≡ is_at current cache
at_none current None is = refl
at_none current (Some now) is = absurd cc

pub old_some : (current revision : ℕ) (phase : SyncPhase) → Some revision ≡ list_revision phase → not (revision == current) ≡ is_old current phase
old_some current revision first is = absurd cc
old_some current revision (next listed token paged) is = let same : revision ≡ listed = cc in ap (λ (r : ℕ). not (r == current)) same
old_some current revision streaming is = absurd cc

pub old_none : (current : ℕ) (phase : SyncPhase) → None ≡ list_revision phase → false ≡ is_old current phase
old_none current first is = refl
old_none current (next listed token paged) is = absurd cc
old_none current streaming is = refl

pub some_current : (a b : ℕ) → Some a ≡ Some b → a ≡ b
some_current a b is = cc

-- ---- the move on its connection

by_phase : (w : World) (id : ℕ) (st : Phase) → unwrap_or (option_map other (turn_in id w.hub.machine.current w.hub.last_tick st)) cut ≡ wait_by w id st
by_phase w id (watching watch) = go (nat_lt watch.cursor.position w.hub.machine.current) (is_bookmark_due watch.cursor)
  where
    pump : edge.Event
    pump = edge.pumps id w.hub.machine.current

    tick : edge.Event
    tick = edge.ticks w.hub.last_tick

    go : (before due : Bool) → unwrap_or (option_map other (cond before (Some pump) (cond due (Some tick) None))) cut ≡ cond before (other pump) (cond due (other tick) cut)
    go true due = refl
    go false true = refl
    go false false = refl
by_phase w id (waiting bytes) = refl
by_phase w id ended = refl
by_phase w id (gone had_ended) = refl

by_id : (w : World) (id : ℕ) (o : Option Connection) → unwrap_or (option_map other (option_and_then (λ (c : Connection). turn_in id w.hub.machine.current w.hub.last_tick c.phase) o)) cut
    ≡ unwrap_or (option_map (λ (c : Connection). wait_by w id c.phase) o) cut
by_id w id None = refl
by_id w id (Some c) = by_phase w id c.phase

-- where its watch has a turn that is the move, and else it is cut
pub waits : (w : World) (own : ClientConnection) (turn : Option edge.Event) → turn ≡ next_turn w.hub own.id → unwrap_or (option_map other turn) cut ≡ wait_on w own
waits w own turn is = ap (λ (o : Option edge.Event). unwrap_or (option_map other o) cut) is ∙ by_id w own.id (fin.get w.hub.connections own.id)

-- bytes of the reply come first
pub carries : (w : World) (own : ClientConnection) (n : ℕ) → n ≡ length (reply_on w own) → own.handed < n → to_client n ≡ move_on w own
carries w own n is some =
    let more : nat_lt own.handed (length (reply_on w own)) ≡ true = sym (ap (nat_lt own.handed) is) ∙ lt-ltb own.handed n some in
    ap to_client is ∙ sym (ap (λ (b : Bool). cond b (to_client (length (reply_on w own))) (cond (nat_lt 0 (length own.unsent)) (to_server (length own.unsent)) (wait_on w own))) more)

-- then those of the request
no_reply : (w : World) (own : ClientConnection) (n : ℕ) → n ≡ length (reply_on w own) → n ≤ own.handed → cond (nat_lt 0 (length own.unsent)) (to_server (length own.unsent)) (wait_on w own) ≡ move_on w own
no_reply w own n is none =
    let all : nat_lt own.handed (length (reply_on w own)) ≡ false = sym (ap (nat_lt own.handed) is) ∙ le-ltb own.handed n none in
    sym (ap (λ (b : Bool). cond b (to_client (length (reply_on w own))) (cond (nat_lt 0 (length own.unsent)) (to_server (length own.unsent)) (wait_on w own))) all)

pub asks : (w : World) (own : ClientConnection) (n m : ℕ) → n ≡ length (reply_on w own) → n ≤ own.handed → m ≡ length own.unsent → 0 < m → to_server m ≡ move_on w own
asks w own n m is none left some =
    let more : nat_lt 0 (length own.unsent) ≡ true = sym (ap (nat_lt 0) left) ∙ lt-ltb 0 m some in
    ap to_server left ∙ sym (ap (λ (b : Bool). cond b (to_server (length own.unsent)) (wait_on w own)) more) ∙ no_reply w own n is none

-- then its watch has a turn
pub rests : (w : World) (own : ClientConnection) (n m : ℕ) → n ≡ length (reply_on w own) → n ≤ own.handed → m ≡ length own.unsent → m ≤ 0 → wait_on w own ≡ move_on w own
rests w own n m is none left zero =
    let all : nat_lt 0 (length own.unsent) ≡ false = sym (ap (nat_lt 0) left) ∙ le-ltb 0 m zero in
    sym (ap (λ (b : Bool). cond b (to_server (length own.unsent)) (wait_on w own)) all) ∙ no_reply w own n is none

-- ---- the move

pub sends : (w : World) (awaits : Bool) (own : Option ClientConnection) → awaits ≡ false → send ≡ move_by w awaits own
sends w true own is = absurd cc
sends w false own is = refl

pub sends_unconnected : (w : World) (awaits : Bool) (own : Option ClientConnection) → None ≡ own → send ≡ move_by w awaits own
sends_unconnected w true None is = refl
sends_unconnected w true (Some own) is = absurd cc
sends_unconnected w false own is = refl

-- in the middle of a list it is cut, where that is past
connected : (w : World) (awaits : Bool) (own : ClientConnection) (o : Option ClientConnection) → awaits ≡ true → Some own ≡ o → cond (is_old w.hub.machine.current w.client.sync) cut (move_on w own) ≡ move_by w awaits o
connected w false own o is at = absurd cc
connected w true own None is at = absurd cc
connected w true own (Some l) is at = let same : own ≡ l = cc in ap (λ (l : ClientConnection). cond (is_old w.hub.machine.current w.client.sync) cut (move_on w l)) same

pub gives_up : (w : World) (awaits : Bool) (own : ClientConnection) (o : Option ClientConnection) → awaits ≡ true → Some own ≡ o → is_old w.hub.machine.current w.client.sync ≡ true → cut ≡ move_by w awaits o
gives_up w awaits own o is at old = sym (ap (λ (b : Bool). cond b cut (move_on w own)) old) ∙ connected w awaits own o is at

pub goes_on : (w : World) (awaits : Bool) (own : ClientConnection) (o : Option ClientConnection) → awaits ≡ true → Some own ≡ o → is_old w.hub.machine.current w.client.sync ≡ false → move_on w own ≡ move_by w awaits o
goes_on w awaits own o is at old = sym (ap (λ (b : Bool). cond b cut (move_on w own)) old) ∙ connected w awaits own o is at

-- ---- whether there is one

pub no_move : (w : World) → is_current w ≡ true → None ≡ next_move w
no_move w is = sym (ap (λ (b : Bool). cond b None (Some (move_by w w.client.is_awaiting_reply w.connection))) is)

pub one_move : (w : World) (e : WorldEvent) → is_current w ≡ false → e ≡ move_by w w.client.is_awaiting_reply w.connection → Some e ≡ next_move w
one_move w e is made = ap Some made ∙ sym (ap (λ (b : Bool). cond b None (Some (move_by w w.client.is_awaiting_reply w.connection))) is)

pub none_left : (w : World) → None ≡ next_move w → is_current w ≡ true
none_left w = go (is_current w)
  where
    go : (b : Bool) → None ≡ cond b None (Some (move_by w w.client.is_awaiting_reply w.connection)) → b ≡ true
    go true is = refl
    go false is = absurd cc

-- ---- moves in turn

pub pursues_more : (task : Task) (i n : ℕ) (w : World) (es : List WorldEvent) (e : WorldEvent) (mid v : World) (rs : List Report) → n ≡ i + length es → Pursues task i w es mid rs → next_move mid ≡ Some e
    → Steps task mid e v → Pursues task i w (es ++ e ∷ []) v (rs ++ reports_after n mid v)
pursues_more task i n w [] e mid v rs at (is, none) moves steps = (
  v,
  [],
  subst (λ (x : World). next_move x ≡ Some e) is moves,
  subst (λ (x : World). Steps task x e v) is steps,
  (refl, refl),
  ap₂ (λ (xs ys : List Report). xs ++ ys) none (ap₂ (λ (k : ℕ) (x : World). reports_after k x v) (at ∙ omega arith) is) ∙ sym (append-nil (reports_after i w v)),
)
pursues_more task i n w (x ∷ es) e mid v rs at (p, others, was, did, ran, is) moves steps = (
  p,
  others ++ reports_after n mid v,
  was,
  did,
  pursues_more task (suc i) n p es e mid v others (at ∙ omega arith) ran moves steps,
  ap (λ (xs : List Report). xs ++ reports_after n mid v) is ∙ append_assoc (reports_after i w p) others (reports_after n mid v),
)
