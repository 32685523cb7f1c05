-- What each event of a hub, or of the client, leaves of what holds between them.
use Rattle.std.proofs.Common.{◌≡◌, inl, inr, ℕ, ◌+◌, ◌≤◌, Bool, true, false, List, [], ◌∷◌, ◌++◌, length, take, drop, Option, Some, None, refl, sym, ap, subst, ◌∙◌, arith, append_assoc, take-append-drop}
use Rattle.std.proofs.lemmas.Bool.{eqb-true, false_from_ne_true}
use Rattle.std.specs.FinMap as fin
use Rattle.std.specs.Prelude.{◌==◌, option_map, unwrap_or, if◌then◌else◌, ⊤}
use Rattle.history.specs.History.{History}
use Rattle.verbs.specs.Machine.{IsMachine}
use Rattle.requests.proofs.Deciding.{asks_more}
use Rattle.requests.specs.Asks.{Asks, CallDecision}
use Rattle.requests.specs.Decision.{accepted, refused, undecided}
use Rattle.httpedge.proofs.Connected.{unknown}
use Rattle.httpedge.specs.Connections.{Connection, Connections, Phase, ended, gone, is_new, waiting, watching, written_on}
use Rattle.httpedge.specs.Runs as runs
use Rattle.httpedge.specs.Runs.{HasGrown}
use Rattle.httpedge.specs.Steps as edge
use Rattle.reflector.specs.Client.{Client}
use Rattle.reflector.specs.FollowsLaws.{Follows}
use Rattle.reflector.specs.Requests.{request_of}
use Rattle.reflector.specs.Run.{after_cut, closed}
use Rattle.wireclient.specs.Reads.{Items}
use Rattle.wireclient.specs.Reply.{ReplyItem}
use Rattle.world_laws.proofs.Answered.{IsAnswered, answers}
use Rattle.world_laws.proofs.Edges.{CameOn, IsTurn, StaysOrTurns, came, stays_or_turns}
use Rattle.world_laws.proofs.RunInvariant.{Goes, RunInvariant, IsServed, IsServedOn, ReadInvariant}
use Rattle.world_laws.proofs.Mirror.{server_of}
use Rattle.world_laws.proofs.Passes.{IsTaskWatch, TurnComes}
use Rattle.world_laws.proofs.Laws.{Laws}
use Rattle.world_laws.proofs.Served.{IsReceived, later_server, served_later, served_on, served_turn}
use Rattle.world_laws.proofs.Shaped.{still_lasts, turn_unshaped, watch_shaped}
use Rattle.world_laws.proofs.Sending.{follows_silent, nothing_read}
use Rattle.world_laws.proofs.Turns.{pump_comes, tick_comes}
use Rattle.world_laws.specs.Tasks.{IsStillTask, Task, client_settings, wanted_by, with_shape}
use Rattle.world_laws.specs.World.{ClientConnection, Receives, World, is_by_peer_on}

-- ---- a client that asks nothing

pub closed_silent : (c : Client) → (closed c).is_awaiting_reply ≡ false
closed_silent c = go c.is_awaiting_reply refl
  where
    go : (b : Bool) → c.is_awaiting_reply ≡ b → (if b then record { cache = c.cache; sync = after_cut c.sync; is_awaiting_reply = false; notices = c.notices } else c).is_awaiting_reply ≡ false
    go true is = refl
    go false is = is

module _ (task : Task) (h : History) (m : ℕ) where
  -- whatever its connection is
  pub silent_goes : (c : Client) (own : Option ClientConnection) (all : Connections) (xs : List ReplyItem) (p : ℕ) → c.is_awaiting_reply ≡ false → Follows (server_of task h) (wanted_by task) m c xs p
      → Goes task h m c c.is_awaiting_reply own all
  silent_goes c own all xs p silent follows =
      subst (λ (b : Bool). Goes task h m c b own all) (sym silent) (follows_silent (server_of task h) (wanted_by task) m c xs [] p 0 silent follows)

  served_follows : (c : Client) (own : ClientConnection) (o : Option Connection) → IsServedOn task h m c own o → (xs : List ReplyItem) × (p : ℕ) × Follows (server_of task h) (wanted_by task) m c xs p
  served_follows c own None is = absurd is
  served_follows c own (Some conn) is = (is.coming, is.to, is.follows)

  pub goes_follows : (c : Client) (b : Bool) (own : Option ClientConnection) (all : Connections) → Goes task h m c b own all → (xs : List ReplyItem) × (p : ℕ) × Follows (server_of task h) (wanted_by task) m c xs p
  goes_follows c false own all is = ([], 0, is)
  goes_follows c true None all is = absurd is
  goes_follows c true (Some own) all is = served_follows c own (fin.get all own.id) is

  -- it is told that the connection has ended
  pub closed_goes : (laws : Laws) (c : Client) (b : Bool) (old own : Option ClientConnection) (before all : Connections) → Goes task h m c b old before → Goes task h m (closed c) (closed c).is_awaiting_reply own all
  closed_goes laws c b old own before all is =
      let any = goes_follows c b old before is in
      silent_goes (closed c) own all [] 0 (closed_silent c) (laws.client.is_closed (server_of task h) (wanted_by task) m c any.0 [] any.1 0 any.2)

  -- or not
  pub sent_goes : (laws : Laws) (c : Client) (b : Bool) (own : Option ClientConnection) (all : Connections) → Goes task h m c c.is_awaiting_reply own all
      → Goes task h m (if b then closed c else c) (if b then closed c else c).is_awaiting_reply own all
  sent_goes laws c true own all is = closed_goes laws c c.is_awaiting_reply own own all all is
  sent_goes laws c false own all is = is

-- ---- the machine grows

served_grown : (laws : Laws) (task : Task) (s t : edge.State) (m : ℕ) (c : Client) (own : ClientConnection) (o : Option Connection) → HasGrown s t → IsServedOn task s.machine m c own o → IsServedOn task t.machine m c own o
served_grown laws task s t m c own None grown is = absurd is
served_grown laws task s t m c own (Some conn) grown is = served_later laws.client task s.machine t.machine m c own conn grown.current (later_server task s.machine t.machine grown.current (λ r come. laws.stays s t r grown come)) is

goes_grown : (laws : Laws) (task : Task) (s t : edge.State) (m : ℕ) (c : Client) (b : Bool) (own : Option ClientConnection) (all : Connections) → HasGrown s t → Goes task s.machine m c b own all → Goes task t.machine m c b own all
goes_grown laws task s t m c false own all grown is =
    laws.client.is_later (server_of task s.machine) (server_of task t.machine) (wanted_by task) m c [] 0 (later_server task s.machine t.machine grown.current (λ r come. laws.stays s t r grown come)) is
goes_grown laws task s t m c true None all grown is = absurd is
goes_grown laws task s t m c true (Some own) all grown is = served_grown laws task s t m c own (fin.get all own.id) grown is

-- what holds of the connection as the event leaves it, with the machine as it was, holds with the machine as it then is
pub holds_after : (laws : Laws) (task : Task) (m n : ℕ) (w : World) (e : edge.Event) (t : edge.State) (c : Client) (own : Option ClientConnection) (requested : List ℕ) → RunInvariant task m w → m ≤ n
    → runs.Steps w.hub e t → Goes task w.hub.machine n c c.is_awaiting_reply own t.connections → RunInvariant task n (record { hub = t; requested = requested; client = c; connection = own })
holds_after laws task m n w e t c own requested is higher steps goes =
    let grown = laws.grows w.hub t (runs.happens e) steps in
    let begun : 1 ≤ m = is.begun in
    record {
      begun = omega (arith, begun, higher);
      task_is = still_lasts w.hub.types t.types task grown.types is.task_is;
      machine = laws.lasts w.hub t (runs.happens e ∷ []) is.machine (t, steps, refl);
      goes = goes_grown laws task w.hub t n c c.is_awaiting_reply own t.connections grown goes;
    }

-- ---- an event that isn't of the client's peer

-- where the client asks, no peer acts on its connection
abbrev pub NotBy : Bool → Option ClientConnection → edge.Event → Type 0
NotBy false own e = ⊤
NotBy true None e = ⊤
NotBy true (Some own) e = is_by_peer_on (Some own) e ≡ false

pub not_by : (b : Bool) (own : Option ClientConnection) (e : edge.Event) → is_by_peer_on own e ≡ false → NotBy b own e
not_by false own e isnt = tt
not_by true None e isnt = tt
not_by true (Some own) e isnt = isnt

-- a new id isn't that of the client's connection
pub new_apart : (task : Task) (h : History) (m : ℕ) (c : Client) (b : Bool) (own : Option ClientConnection) (all : Connections) (id : ℕ) → is_new all id ≡ true → Goes task h m c b own all → NotBy b own (edge.opens id)
new_apart task h m c false own all id new is = tt
new_apart task h m c true None all id new is = tt
new_apart task h m c true (Some own) all id new is = false_from_ne_true (own.id == id) (λ same. known (fin.get all own.id) (unknown all own.id (fin.get all own.id) refl (subst (λ (q : ℕ). is_new all q ≡ true) (sym (eqb-true own.id id same)) new)) is)
  where
    known : (o : Option Connection) → o ≡ None → IsServedOn task h m c own o → ⊥
    known None none is = is
    known (Some conn) none is = absurd cc

module _ (laws : Laws) (task : Task) where
  turn_comes : (s : edge.State) (w : _) (turn : _) → IsStillTask s.types task → IsMachine s.types s.machine → IsTurn s w turn → IsTaskWatch task w → w.cursor.position ≤ s.machine.current
      → TurnComes task s.machine w.cursor.position turn
  turn_comes s w turn (shape, is_task) is_machine is_turn own come = turn_unshaped task shape s.machine w.cursor.position turn (go is_turn)
    where
      go : IsTurn s w turn → TurnComes (with_shape task shape) s.machine w.cursor.position turn
      go (inl (max, is)) =
          subst (TurnComes (with_shape task shape) s.machine w.cursor.position) (sym is)
          (pump_comes s.types (with_shape task shape) s.machine max w is_task is_machine (watch_shaped task shape w own) come)
      go (inr (ms, is)) =
          subst (TurnComes (with_shape task shape) s.machine w.cursor.position) (sym is)
          (tick_comes s.types (with_shape task shape) s.machine ms w is_task is_machine (watch_shaped task shape w own) come)

  served_by_others : (m : ℕ) (s t : edge.State) (e : edge.Event) (c : Client) (own : ClientConnection) (o : Option Connection) → fin.get s.connections own.id ≡ o → IsStillTask s.types task → IsMachine s.types s.machine
      → is_by_peer_on (Some own) e ≡ false → runs.Steps s e t → IsServedOn task s.machine m c own o → IsServedOn task s.machine m c own (fin.get t.connections own.id)
  served_by_others m s t e c own None got task_is is_machine isnt steps is = absurd is
  served_by_others m s t e c own (Some conn) got task_is is_machine isnt steps is = go (stays_or_turns s t own e conn isnt got steps)
    where
      go : StaysOrTurns s conn (fin.get t.connections own.id) → IsServedOn task s.machine m c own (fin.get t.connections own.id)
      go (inl stays) = subst (IsServedOn task s.machine m c own) (sym stays) is
      go (inr has) =
          subst (IsServedOn task s.machine m c own) (sym has.is)
          (served_turn laws task s.machine m c own conn has.w has.turn has.watches (turn_comes s has.w has.turn task_is is_machine has.is_turn) is)

  goes_by_others : (m : ℕ) (s t : edge.State) (e : edge.Event) (c : Client) (b : Bool) (own : Option ClientConnection) → IsStillTask s.types task → IsMachine s.types s.machine → NotBy b own e
      → runs.Steps s e t → Goes task s.machine m c b own s.connections → Goes task s.machine m c b own t.connections
  goes_by_others m s t e c false own task_is is_machine isnt steps is = is
  goes_by_others m s t e c true None task_is is_machine isnt steps is = absurd is
  goes_by_others m s t e c true (Some own) task_is is_machine isnt steps is =
      served_by_others m s t e c own (fin.get s.connections own.id) refl task_is is_machine isnt steps is

  pub holds_by_others : (m : ℕ) (w : World) (e : edge.Event) (t : edge.State) (requested : List ℕ) → RunInvariant task m w → NotBy w.client.is_awaiting_reply w.connection e
      → runs.Steps w.hub e t → RunInvariant task m (record { hub = t; requested = requested; client = w.client; connection = w.connection })
  holds_by_others m w e t requested is isnt steps =
      holds_after laws task m m w e t w.client w.connection requested is (omega arith) steps
      (goes_by_others m w.hub t e w.client w.client.is_awaiting_reply w.connection is.task_is is.machine isnt steps is.goes)

  -- ---- a piece of the request comes to the server

  -- the whole request came, and is answered
  served_answered : (m : ℕ) (h : History) (c : Client) (own : ClientConnection) (conn d : Connection) (n : ℕ) (is : IsServed task h m c own conn) → conn.written ≡ []
      → IsAnswered task h m c.sync c.cache c (drop n own.unsent) d → IsServed task h m c (record own { unsent = drop n own.unsent }) d
  served_answered m h c own conn d n is unwritten answered =
      let none : length conn.written ≡ 0 = ap length unwritten in
      let within : own.handed ≤ length conn.written = is.within in
      let at_start : own.handed ≡ 0 = omega (arith, none, within) in
      let follows = is.follows in
      record {
        within = omega (arith, at_start);
        sent = [];
        coming = answered.items;
        to = answered.to;
        read = subst (λ (k : ℕ). Items (take k d.written) []) (sym at_start) nothing_read;
        all = answered.read;
        follows = record { low = follows.low; cache = follows.cache; sync = follows.sync; coming = λ e. answered.comes };
        represents = answered.represents;
      }

  -- bytes that came, and those that still are to come, as they were cut
  still_whole : (prefix piece unsent : List ℕ) (n : ℕ) → take n unsent ≡ piece → (prefix ++ piece) ++ drop n unsent ≡ prefix ++ unsent
  still_whole prefix piece unsent n is =
      append_assoc prefix piece (drop n unsent) ∙ ap (λ (l : List ℕ). prefix ++ l) (ap (λ (l : List ℕ). l ++ drop n unsent) (sym is) ∙ take-append-drop n unsent)

  served_waiting : (m : ℕ) (s : edge.State) (c : Client) (own : ClientConnection) (conn : Connection) (n : ℕ) (piece prefix : List ℕ) (asked : CallDecision) → take n own.unsent ≡ piece → IsStillTask s.types task → IsMachine s.types s.machine
      → 1 ≤ m → conn.phase ≡ waiting prefix → Asks s.types (prefix ++ piece) asked → IsServed task s.machine m c own conn
      → IsServed task s.machine m c (record own { unsent = drop n own.unsent }) (edge.connection_after s.types s.machine s.last_tick conn (prefix ++ piece) asked)
  served_waiting m s c own conn n piece prefix asked cut task_is is_machine begun represents asks is =
      let both : (conn.written ≡ []) × (prefix ++ own.unsent ≡ request_of (client_settings task) c) = subst (ReadInvariant task s.machine c own.unsent is.to (is.sent ++ is.coming) conn.written) represents is.represents in
      by_asked asked asks both
    where
      decided : (asked : CallDecision) → (asked ≡ undecided → ⊥) → Asks s.types (prefix ++ piece) asked → (conn.written ≡ []) × (prefix ++ own.unsent ≡ request_of (client_settings task) c)
          → IsServed task s.machine m c (record own { unsent = drop n own.unsent }) (edge.connection_after s.types s.machine s.last_tick conn (prefix ++ piece) asked)
      decided asked decides asks both =
          let whole = asks_more s.types (prefix ++ piece) (drop n own.unsent) asked asks decides in
          let low : m ≤ s.machine.current = is.follows.low in
          served_answered m s.machine c own conn (edge.connection_after s.types s.machine s.last_tick conn (prefix ++ piece) asked) n is both.0
          (answers laws s.types task s.machine m s.last_tick c (drop n own.unsent) conn (prefix ++ piece) ((prefix ++ piece) ++ drop n own.unsent) asked task_is is_machine begun low both.0 is.coming is.to is.follows whole
          (still_whole prefix piece own.unsent n cut ∙ both.1))

      by_asked : (asked : CallDecision) → Asks s.types (prefix ++ piece) asked → (conn.written ≡ []) × (prefix ++ own.unsent ≡ request_of (client_settings task) c)
          → IsServed task s.machine m c (record own { unsent = drop n own.unsent }) (edge.connection_after s.types s.machine s.last_tick conn (prefix ++ piece) asked)
      by_asked undecided asks both =
          record {
            within = is.within;
            sent = is.sent;
            coming = is.coming;
            to = is.to;
            read = is.read;
            all = is.all;
            follows = is.follows;
            represents = (both.0, still_whole prefix piece own.unsent n cut ∙ both.1);
          }
      by_asked (refused d) asks both = decided (refused d) (λ u. absurd cc) asks both
      by_asked (accepted call) asks both = decided (accepted call) (λ u. absurd cc) asks both

  -- one that doesn't wait stays, whatever is left of the request
  served_idle : (m : ℕ) (h : History) (c : Client) (own : ClientConnection) (conn : Connection) (n : ℕ) (st : Phase) → conn.phase ≡ st
      → ((to : ℕ) (items : List ReplyItem) (written : List ℕ) → ReadInvariant task h c own.unsent to items written st → ReadInvariant task h c (drop n own.unsent) to items written st)
      → IsServed task h m c own conn → IsServed task h m c (record own { unsent = drop n own.unsent }) conn
  served_idle m h c own conn n st represents stay is =
      let there = stay is.to (is.sent ++ is.coming) conn.written (subst (ReadInvariant task h c own.unsent is.to (is.sent ++ is.coming) conn.written) represents is.represents) in
      record {
        within = is.within;
        sent = is.sent;
        coming = is.coming;
        to = is.to;
        read = is.read;
        all = is.all;
        follows = is.follows;
        represents = subst (ReadInvariant task h c (drop n own.unsent) is.to (is.sent ++ is.coming) conn.written) (sym represents) there;
      }

  came_served : (m : ℕ) (s t : edge.State) (c : Client) (own : ClientConnection) (conn : Connection) (n : ℕ) (piece : List ℕ) (st : Phase) → conn.phase ≡ st → take n own.unsent ≡ piece → IsStillTask s.types task
      → IsMachine s.types s.machine → 1 ≤ m → CameOn s t own.id conn piece st → IsServed task s.machine m c own conn
      → IsServedOn task s.machine m c (record own { unsent = drop n own.unsent }) (fin.get t.connections own.id)
  came_served m s t c own conn n piece (waiting prefix) represents cut task_is is_machine begun (asked, asks, got) is =
      subst (IsServedOn task s.machine m c (record own { unsent = drop n own.unsent })) (sym got) (served_waiting m s c own conn n piece prefix asked cut task_is is_machine begun represents asks is)
  came_served m s t c own conn n piece (watching w) represents cut task_is is_machine begun got is =
      subst (IsServedOn task s.machine m c (record own { unsent = drop n own.unsent })) (sym got) (served_idle m s.machine c own conn n (watching w) represents (λ to items written is. watching_idle to items written w is) is)
    where
      watching_idle : (to : ℕ) (items : List ReplyItem) (written : List ℕ) (w : _) → ReadInvariant task s.machine c own.unsent to items written (watching w) → ReadInvariant task s.machine c (drop n own.unsent) to items written (watching w)
      watching_idle to items written w is = is
  came_served m s t c own conn n piece ended represents cut task_is is_machine begun got is =
      subst (IsServedOn task s.machine m c (record own { unsent = drop n own.unsent })) (sym got) (served_idle m s.machine c own conn n ended represents (λ to items written is. tt) is)
  came_served m s t c own conn n piece (gone had_ended) represents cut task_is is_machine begun got is =
      subst (IsServedOn task s.machine m c (record own { unsent = drop n own.unsent })) (sym got) (served_idle m s.machine c own conn n (gone had_ended) represents (λ to items written is. tt) is)

  came_on : (m : ℕ) (s t : edge.State) (c : Client) (own : ClientConnection) (o : Option Connection) (n : ℕ) (piece : List ℕ) → fin.get s.connections own.id ≡ o → take n own.unsent ≡ piece → IsStillTask s.types task
      → IsMachine s.types s.machine → 1 ≤ m → runs.Steps s (edge.comes own.id piece) t → IsServedOn task s.machine m c own o
      → IsServedOn task s.machine m c (record own { unsent = drop n own.unsent }) (fin.get t.connections own.id)
  came_on m s t c own None n piece got cut task_is is_machine begun steps is = absurd is
  came_on m s t c own (Some conn) n piece got cut task_is is_machine begun steps is =
      came_served m s t c own conn n piece conn.phase refl cut task_is is_machine begun (came s t own.id conn piece got steps) is

  came_goes : (m : ℕ) (s t : edge.State) (c : Client) (b : Bool) (own : ClientConnection) (n : ℕ) (piece : List ℕ) → take n own.unsent ≡ piece → IsStillTask s.types task → IsMachine s.types s.machine
      → 1 ≤ m → runs.Steps s (edge.comes own.id piece) t → Goes task s.machine m c b (Some own) s.connections → Goes task s.machine m c b (Some (record own { unsent = drop n own.unsent })) t.connections
  came_goes m s t c false own n piece cut task_is is_machine begun steps is = is
  came_goes m s t c true own n piece cut task_is is_machine begun steps is = came_on m s t c own (fin.get s.connections own.id) n piece refl cut task_is is_machine begun steps is

  pub holds_came : (m : ℕ) (w : World) (own : ClientConnection) (n : ℕ) (piece : List ℕ) (t : edge.State) → take n own.unsent ≡ piece → w.connection ≡ Some own → RunInvariant task m w
      → runs.Steps w.hub (edge.comes own.id piece) t → RunInvariant task m (record { hub = t; requested = w.requested; client = w.client; connection = Some (record own { unsent = drop n own.unsent }) })
  holds_came m w own n piece t cut has is steps =
      let there : Goes task w.hub.machine m w.client w.client.is_awaiting_reply (Some own) w.hub.connections = subst (λ (o : Option ClientConnection). Goes task w.hub.machine m w.client w.client.is_awaiting_reply o w.hub.connections) has is.goes in
      holds_after laws task m m w (edge.comes own.id piece) t w.client (Some (record own { unsent = drop n own.unsent })) w.requested is (omega arith) steps
      (came_goes m w.hub t w.client w.client.is_awaiting_reply own n piece cut is.task_is is.machine is.begun steps there)

-- ---- a piece of the reply comes to the client

-- it goes on so, at a revision that isn't below
abbrev pub GoesHigher : Task → History → ℕ → Client → Option ClientConnection → Connections → Type 0
GoesHigher task h m d own all = (n : ℕ) × (m ≤ n) × Goes task h n d d.is_awaiting_reply own all

module _ (laws : Laws) (task : Task) (h : History) where
  received_goes : (m : ℕ) (own : ClientConnection) (conn : Connection) (d : Client) (all : Connections) → fin.get all own.id ≡ Some conn → IsReceived task h m own conn d → GoesHigher task h m d (Some own) all
  received_goes m own conn d all got is = (is.highest, is.higher, go d.is_awaiting_reply refl)
    where
      go : (b : Bool) → d.is_awaiting_reply ≡ b → Goes task h is.highest d d.is_awaiting_reply (Some own) all
      go false silent = silent_goes task h is.highest d (Some own) all is.coming is.to silent is.follows
      go true asks =
          subst (λ (b : Bool). Goes task h is.highest d b (Some own) all) (sym asks) (subst (IsServedOn task h is.highest d own) (sym got) (is.served asks))

  received_on : (m : ℕ) (c : Client) (own : ClientConnection) (o : Option Connection) (all : Connections) (n b : ℕ) (bs : List ℕ) (d : Client) → fin.get all own.id ≡ o
      → take n (drop own.handed (unwrap_or (option_map (λ c. c.written) o) [])) ≡ b ∷ bs → Receives true (wanted_by task) c (take own.handed (unwrap_or (option_map (λ c. c.written) o) [])) (b ∷ bs) d
      → IsServedOn task h m c own o → GoesHigher task h m d (Some (record own { handed = own.handed + length (b ∷ bs) })) all
  received_on m c own None all n b bs d got piece receives is = absurd is
  received_on m c own (Some conn) all n b bs d got piece receives is =
      received_goes m (record own { handed = own.handed + length (b ∷ bs) }) conn d all got (served_on laws task h m c own conn n b bs d piece receives is)

  pub goes_received : (m : ℕ) (c : Client) (asking : Bool) (own : ClientConnection) (all : Connections) (n b : ℕ) (bs : List ℕ) (d : Client) → c.is_awaiting_reply ≡ asking → take n (drop own.handed (written_on all own.id)) ≡ b ∷ bs
      → Receives asking (wanted_by task) c (take own.handed (written_on all own.id)) (b ∷ bs) d → Goes task h m c asking (Some own) all
      → GoesHigher task h m d (Some (record own { handed = own.handed + length (b ∷ bs) })) all
  goes_received m c false own all n b bs d silent piece receives is =
      subst (λ (x : Client). GoesHigher task h m x (Some (record own { handed = own.handed + length (b ∷ bs) })) all) (sym receives) (m, omega arith, silent_goes task h m c _ all [] 0 silent is)
  goes_received m c true own all n b bs d asks piece receives is = received_on m c own (fin.get all own.id) all n b bs d refl piece receives is
