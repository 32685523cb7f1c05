-- A client that is to watch from a revision that isn't forgotten: its request opens a watch, whose lines and bookmark bring it to the current revision, where it takes them all.
use Rattle.std.proofs.Common.{◌≡◌, ◌∙◌, inl, inr, ℕ, zero, suc, ◌+◌, ◌*◌, ◌<◌, ◌≤◌, ◌&&◌, Bool, true, false, cond, List, [], ◌∷◌, length, Option, Some, None, option_map, refl, sym, ap, ap₂, subst, arith, append-nil, le_refl, mul-zero, ne_eqb, true≢false}
use Rattle.std.proofs.lemmas.Bool.{eq-eqb}
use Rattle.std.proofs.lemmas.List.Elements.{All-nil}
use Rattle.std.specs.FinMap as fin
use Rattle.std.specs.Prelude.{nat_le, unwrap_or}
use Rattle.schema.specs.Shape.{Shape}
use Rattle.history.specs.History.{History, last_revision}
use Rattle.history.specs.Seen.{seen_changes}
use Rattle.history.proofs.Wholes.{whole_is}
use Rattle.api_request.specs.Calls.{Call, Plan, at_tick}
use Rattle.verbs.specs.Machine as machines
use Rattle.verbs.specs.Machine.{IsMachine}
use Rattle.verbs.specs.Step.{planned}
use Rattle.answers.specs.WatchFrom.{WatchFrom}
use Rattle.requests.specs.Asks.{Asks}
use Rattle.requests.specs.Decision.{accepted}
use Rattle.requests.specs.Replies.{answer_bytes}
use Rattle.requests.specs.ReplyBytes.{watch_head}
use Rattle.httpedge.proofs.Connected.{one_if, put_there}
use Rattle.httpedge.proofs.Outcomes.{ComesBy}
use Rattle.httpedge.specs.Connections.{Connection, Connections, has_ended, highest, is_open, new_connection, next_id, open_count, watching, with_written}
use Rattle.httpedge.specs.Runs as runs
use Rattle.httpedge.specs.Steps as edge
use Rattle.httpedge.specs.Watches.{Watch, begun_at}
use Rattle.reflector.specs.Client.{Cache, Client, Notice, SyncPhase, streaming}
use Rattle.reflector.specs.FollowsLaws.{IsCacheOf}
use Rattle.reflector.specs.Run.{receives_all}
use Rattle.wireclient.specs.LineLaws.{HasNoFeed, IsLine}
use Rattle.wireclient.specs.Reads.{Items}
use Rattle.wireclient.specs.Reply.{head}
use Rattle.wire_laws.proofs.Listings.{watch_opens, watches_at}
use Rattle.wire_laws.specs.Listings.{watch_after, watch_plan}
use Rattle.liveness_laws.proofs.Exchange.{asking, first_own, sends, sent}
use Rattle.liveness_laws.proofs.Hub.{highest_after, insert_count, left_by, left_count, next_is}
use Rattle.liveness_laws.proofs.Joined as joined
use Rattle.liveness_laws.proofs.Keeping.{Keeps, keeps_replaced}
use Rattle.liveness_laws.proofs.Leads.{IsNext, IsOf, LeadsBy, by_event, current_or_idle, goes_each, goes_run, leads_to, within, within_by}
use Rattle.liveness_laws.proofs.Levels.{few_seen}
use Rattle.liveness_laws.proofs.OnWatch.{IsReading, asked, asks, asks_next, over_in, own_asked, pumps_next, tells_next, ticks_next, told_end}
use Rattle.liveness_laws.proofs.Reached.{head_kept}
use Rattle.liveness_laws.proofs.Refused.{leads_first, tells_first, too_long}
use Rattle.liveness_laws.proofs.Restart.{room_is}
use Rattle.liveness_laws.proofs.Rounds.{new_is_other, room_for, stays}
use Rattle.liveness_laws.proofs.Stages.{IsStage, IsToldOf, strictly, telling}
use Rattle.liveness_laws.proofs.Standing.{Stands, stands_after}
use Rattle.liveness_laws.proofs.Turns.{Done, IsFirst, Mays, turns_tell}
use Rattle.liveness_laws.specs.Leading.{IsCurrentOrIdle, LeadsTo, WatchesCatchUp}
use Rattle.liveness_laws.specs.Listable.{HasRoom, watch_request}
use Rattle.world_laws.specs.Moves.{is_at, is_current, next_move}
use Rattle.liveness_laws.specs.Telling.{Tells, WatchesTell, changes_after, is_telling}
use Rattle.world_laws.proofs.Asking.{asks_watch}
use Rattle.world_laws.proofs.Laws.{Laws}
use Rattle.world_laws.proofs.Mirror.{server_of}
use Rattle.world_laws.proofs.Moving.{goes_follows}
use Rattle.world_laws.proofs.Passes.{AsksFor, IsTaskWatch, IsWatchCall, task_watch, watch_values}
use Rattle.world_laws.proofs.Sending.{nothing_read}
use Rattle.world_laws.specs.Tasks.{IsTask, Task, selection, wanted_by, with_shape}
use Rattle.world_laws.specs.World.{ClientConnection, World, WorldEvent, other, send, to_server}

wrong : false ≡ true → ⊥
wrong e = absurd (true≢false (sym e))

-- ---- its request

module _ (laws : Laws) (task : Task) (s : edge.State) (requested : List ℕ) (now : Cache) (notices : List Notice) (own : Option ClientConnection) (shape : Shape) (is : IsTask s.types (with_shape task shape))
    (is_machine : IsMachine s.types s.machine) (begun : 1 ≤ now.revision) (come : now.revision < s.machine.current) (behind : is_at s.machine.current (Some now) ≡ false) (kept : s.machine.compacted ≤ now.revision)
    (room : HasRoom s.connections 1) (asked_call : (call : Call) × Asks s.types (watch_request task now.revision) (accepted call) × IsWatchCall s.types (with_shape task shape) now.revision call) where
  abbrev pub before : World
  before = record { hub = s; requested = requested; client = asking (Some now) streaming false notices; connection = own }

  abbrev all : Connections
  all = s.connections

  abbrev id : ℕ
  id = highest (fin.keys all) + 1

  is_next : next_id all ≡ Some id
  is_next = next_is all 1 room.ids (omega arith)

  abbrev left : Connections
  left = left_by all own

  abbrev opened : World
  opened = sent task s requested (Some now) streaming notices own id is_next room.room

  abbrev own_first : ClientConnection
  own_first = first_own task s requested (Some now) streaming notices own id is_next room.room

  send_is_next : next_move before ≡ Some send
  send_is_next = ap (λ (b : Bool). cond b None (Some send)) behind

  keeps_sent : Keeps before opened 1
  keeps_sent =
      let high : highest (fin.keys (fin.insert left id new_connection)) ≤ highest (fin.keys all) + 1 = highest_after all own new_connection in
      let more : open_count (fin.insert left id new_connection) ≤ open_count left + one_if (is_open new_connection.phase) = insert_count left id new_connection in
      let few : open_count left ≤ open_count all = left_count all own in
      let one : one_if (is_open new_connection.phase) ≡ 1 = refl in
      record {
        server = (refl, refl, refl);
        others = λ q c got isnt. (ne_eqb id q (λ same. new_is_other task s all id q c is_next got (sym same)), zero, stays task s all own id q c new_connection is_next got isnt);
        ids = omega (arith, high);
        room = omega (arith, more, few, one);
      }

  reading_first : IsReading opened own_first new_connection
  reading_first = record { awaits = refl; sync = refl; behind = behind; has = refl; got = put_there left id new_connection }

  -- ---- the server opens the watch

  abbrev call : Call
  call = asked_call.0

  abbrev from : WatchFrom
  from = watch_after task.settings.kind task.settings.namespace (watch_values (with_shape task shape) now.revision) task_watch now.revision

  plan_is : planned s.types s.machine (at_tick s.last_tick call) ≡ watch_plan from
  plan_is = watch_opens s.types s.machine (at_tick s.last_tick call) (with_shape task shape).t task.settings.kind task.settings.namespace (watch_values (with_shape task shape) now.revision) task_watch now.revision
      (watches_at s.last_tick asked_call.2) begun kept

  abbrev watch : Watch
  watch = begun_at s.last_tick from

  abbrev answered : Connection
  answered = with_written new_connection (watch_head 200) (watching watch)

  answers : edge.connection_after s.types s.machine s.last_tick new_connection (watch_request task now.revision) (accepted call) ≡ answered
  answers = ap (λ (p : Plan). with_written new_connection (answer_bytes p.answer p.answer.watch) (edge.answer_phase s.last_tick p.answer.watch)) plan_is

  still : edge.machine_after s.types s.machine s.last_tick (accepted call) ≡ s.machine
  still = ap (λ (p : Plan). machines.after s.machine p.changes) plan_is

  abbrev hub_opened : edge.State
  hub_opened = edge.with_connections s (fin.insert left id new_connection)

  abbrev hub_answered : edge.State
  hub_answered = edge.with_connection hub_opened id answered

  comes : runs.Steps hub_opened (edge.comes id own_first.unsent) hub_answered
  comes =
      subst (λ (o : Option Connection). ComesBy hub_opened id o own_first.unsent hub_answered) (sym (put_there left id new_connection))
      (accepted call, asked_call.1, sym (ap₂ (λ (m : History) (c : Connection). edge.with_connection (edge.with_machine hub_opened m) id c) still answers))

  abbrev after_asking : World
  after_asking = asked task opened own_first new_connection reading_first hub_answered

  not_over : over_in task opened own_first new_connection reading_first hub_answered ≡ false
  not_over =
      ap (λ (o : Option Connection). unwrap_or (option_map (λ c. has_ended c.phase) o) false && nat_le (length (unwrap_or (option_map (λ c. c.written) o) [])) 0) (put_there hub_opened.connections id answered)

  abbrev own_then : ClientConnection
  own_then = own_asked task opened own_first new_connection reading_first

  reading_then : IsReading after_asking own_then answered
  reading_then = record {
    awaits = ap (λ (b : Bool). (told_end b opened.client).is_awaiting_reply) not_over;
    sync = ap (λ (b : Bool). (told_end b opened.client).sync) not_over;
    behind = ap (λ (b : Bool). is_at s.machine.current (told_end b opened.client).cache) not_over ∙ behind;
    has = refl;
    got = put_there hub_opened.connections id answered;
  }

  cached_then : after_asking.client.cache ≡ Some now
  cached_then = ap (λ (b : Bool). (told_end b opened.client).cache) not_over

  its : IsTaskWatch task watch
  its = record { kind = refl; namespace = refl; requirements = refl; bookmarks = refl; left = refl; endless = refl }

  -- ---- what follows

  head_written : Items answered.written (head 200 ∷ [])
  head_written = subst (λ (l : List ℕ). Items l (head 200 ∷ [])) (append-nil (watch_head 200)) (laws.watch [] false (All-nil HasNoFeed))

  abbrev told_head : Client
  told_head = receives_all (wanted_by task) after_asking.client (head 200 ∷ [])

  same_client : told_head ≡ after_asking.client
  same_client = head_kept (wanted_by task) after_asking.client reading_then.awaits reading_then.sync

  -- where the head came
  first_stage : (c : Client) (o : Option ClientConnection) → IsToldOf own_then answered told_head c o → IsStage task (record after_asking { client = c; connection = o }) (record own_then { handed = length answered.written }) answered watch []
  first_stage c o came =
      let cache_is : c.cache ≡ after_asking.client.cache = came.cache ∙ ap (λ (d : Client). d.cache) same_client in
      record {
        reading = record {
          awaits = came.awaits ∙ ap (λ (d : Client). d.is_awaiting_reply) same_client ∙ reading_then.awaits;
          sync = came.sync ∙ ap (λ (d : Client). d.sync) same_client ∙ reading_then.sync;
          behind = ap (is_at s.machine.current) cache_is ∙ reading_then.behind;
          has = came.connection;
          got = put_there hub_opened.connections id answered;
        };
        handed = refl;
        asked_all = refl;
        watches = refl;
        its = its;
        some = begun;
        kept = kept;
        come = omega (arith, come);
        sent_low = le_refl now.revision;
        written = sym (append-nil (watch_head 200));
        lines = All-nil IsLine;
        machine = is_machine;
        shape = shape;
        is_task = is;
        now = now;
        cached = cache_is ∙ cached_then;
        revision = refl;
      }

  module _ (May : World → WorldEvent → Type 0) (most : ℕ) (some : 0 < most) (mays : Mays May s.machine.current s.last_tick most) (n : ℕ)
      (few : length (seen_changes (selection task) s.machine.changes now.revision s.machine.current) < room_for n most) where
    from_answer : (j : ℕ) → LeadsBy May task j after_asking (suc (2 * n + 2)) 0 Done
    from_answer j =
        telling laws task after_asking own_then answered reading_then watch refl [] (head 200 ∷ []) (omega arith) nothing_read head_written May Done j (2 * n + 2) (mays.tells after_asking own_then answered reading_then)
        (λ k c o came. turns_tell laws task May s.machine.current s.last_tick most some mays n (record after_asking { client = c; connection = o }) (record own_then { handed = length answered.written }) answered watch []
        (first_stage c o came) refl refl few k)

    from_request : (j : ℕ) → LeadsBy May task j opened (suc (suc (2 * n + 2))) 0 Done
    from_request j =
        by_event May task j (suc (2 * n + 2)) 0 0 0 opened after_asking (to_server (length own_first.unsent)) Done (omega arith)
        (mays.asks opened own_first new_connection reading_first (omega arith) (omega arith)) (asks task opened own_first new_connection reading_first (omega arith) hub_answered comes)
        (keeps_replaced opened own_first new_connection answered (told_end (over_in task opened own_first new_connection reading_first hub_answered) opened.client) (Some own_then) refl (put_there left id new_connection) (λ q. refl) (λ e. refl))
        (from_answer (suc j))

    pub opening_leads : May before send → (i : ℕ) → LeadsBy May task i before (2 * n + 5) 1 Done
    opening_leads may i =
        within_by May task i (suc (suc (suc (2 * n + 2)))) (2 * n + 5) 1 before Done (omega arith)
        (by_event May task i (suc (suc (2 * n + 2))) 1 0 1 before opened send Done (omega arith) may (sends task s requested (Some now) streaming notices own id is_next room.room) keeps_sent (from_request (suc i)))

  -- ---- by moves of the schedule

  next_mays : Mays IsNext s.machine.current s.last_tick s.machine.current
  next_mays = record {
    tells = λ v own conn reading more. tells_next task v own conn reading more;
    asks = λ v own conn reading told some. asks_next task v own conn reading told some;
    pumps = λ v own conn reading told sent watch watches low at. pumps_next task v own conn reading told sent watch watches low ∙ ap (λ (n : ℕ). Some (other (edge.pumps own.id n))) at;
    ticks = λ v own conn reading told sent watch watches level due at. ticks_next task v own conn reading told sent watch watches level due;
  }

  one_turn : length (seen_changes (selection task) s.machine.changes now.revision s.machine.current) < room_for 1 s.machine.current
  one_turn =
      let few : length (seen_changes (selection task) s.machine.changes now.revision s.machine.current) + now.revision ≤ s.machine.current =
      few_seen (selection task) s.machine.changes s.machine.current now.revision (seen_changes (selection task) s.machine.changes now.revision s.machine.current) (whole_is is_machine.first s.machine is_machine.whole).rising (omega (arith, come)) refl in
      let one : room_for 1 s.machine.current ≡ s.machine.current + 0 = refl in
      omega (arith, few, begun, one)

  pub catches_up : (i : ℕ) → LeadsTo task i before 8 (IsCurrentOrIdle 1 IsFirst before)
  catches_up i =
      leads_to task i 8 1 before IsFirst
      (within task i 7 8 1 before Done (omega arith) (opening_leads IsNext s.machine.current (omega (arith, come)) next_mays 1 one_turn send_is_next i))

  -- ---- by turns of so many lines

  telling_mays : (most : ℕ) → Mays (IsOf (is_telling most s.last_tick)) s.machine.current s.last_tick most
  telling_mays most = record {
    tells = λ v own conn reading more. refl;
    asks = λ v own conn reading told some. refl;
    pumps = λ v own conn reading told sent watch watches low at. eq-eqb most most refl;
    ticks = λ v own conn reading told sent watch watches level due at. eq-eqb v.hub.last_tick s.last_tick at;
  }

  pub tells_all : (most turns i : ℕ) → 0 < most → length (changes_after task s.machine now.revision) < turns * most → Tells task i before most (2 * turns + 5) (IsCurrentOrIdle 1 IsFirst before)
  tells_all most turns i some few =
      let same : turns * most ≡ room_for turns most = room_is turns most in
      let led : LeadsBy (IsOf (is_telling most s.last_tick)) task i before (2 * turns + 5) 1 Done =
      opening_leads (IsOf (is_telling most s.last_tick)) most some (telling_mays most) turns (subst (λ (n : ℕ). length (changes_after task s.machine now.revision) < n) same few) refl i in
      record {
        events = led.moves;
        end = led.end;
        reports = led.reports;
        runs = goes_run (is_telling most s.last_tick) task i before led.moves led.end led.reports led.goes;
        each = goes_each (is_telling most s.last_tick) task i before led.moves led.end led.reports led.goes;
        bound = led.bound;
        server = led.keeps.server;
        others = λ id c got isnt. let k = led.keeps.others id c got isnt in (k.1, k.2);
        goal = current_or_idle 1 before led.end IsFirst led.keeps led.goal;
      }

-- ---- both laws

-- the client is as it begins, in the world after a run
record Begins (task : Task) (w : World) (now : Cache) : Type 0 where
  stands : Stands task w
  same : asking (Some now) streaming false w.client.notices ≡ w.client
  begun : 1 ≤ now.revision
  come : now.revision < w.hub.machine.current
  behind : is_at w.hub.machine.current (Some now) ≡ false

begins : (task : Task) (w : World) (now : Cache) → Stands task w → w.client.is_awaiting_reply ≡ false → w.client.sync ≡ streaming → w.client.cache ≡ Some now → is_current w ≡ false → Begins task w now
begins task w now stands silent streams cached behind =
    let follows = goes_follows task w.hub.machine stands.highest w.client w.client.is_awaiting_reply w.connection w.hub.connections stands.holds.goes in
    let held : IsCacheOf (server_of task w.hub.machine) stands.highest (Some now) = subst (IsCacheOf (server_of task w.hub.machine) stands.highest) cached follows.2.cache in
    let revision : now.revision ≡ stands.highest = held.0 in
    let some : 1 ≤ stands.highest = stands.holds.begun in
    let top : stands.highest ≤ w.hub.machine.current = follows.2.low in
    let apart : is_at w.hub.machine.current (Some now) ≡ false = sym (ap (is_at w.hub.machine.current) cached) ∙ behind in
    record {
      stands = stands;
      same = sym (ap (λ (o : Option Cache). asking o w.client.sync w.client.is_awaiting_reply w.client.notices) cached
          ∙ ap (λ (p : SyncPhase). asking (Some now) p w.client.is_awaiting_reply w.client.notices) streams ∙ ap (λ (b : Bool). asking (Some now) streaming b w.client.notices) silent);
      begun = omega (arith, revision, some);
      come = strictly now.revision w.hub.machine.current (omega (arith, revision, top)) (λ e. wrong (sym apart ∙ eq-eqb now.revision w.hub.machine.current e));
      behind = apart;
    }

module _ (laws : Laws) (task : Task) (w : World) (now : Cache) (i : ℕ) (b : Begins task w now) (kept : w.hub.machine.compacted ≤ now.revision) (room : HasRoom w.hub.connections 1) where
  abbrev task_now : Task
  task_now = with_shape task b.stands.holds.task_is.0

  abbrev with_client : Client → World
  with_client c = record { hub = w.hub; requested = w.requested; client = c; connection = w.connection }

  abbrev as_begun : World
  as_begun = with_client (asking (Some now) streaming false w.client.notices)

  -- its request is too long, or asks a watch
  abbrev Asked : Type 0
  Asked = AsksFor w.hub.types (watch_request task now.revision) (IsWatchCall w.hub.types task_now now.revision)

  asked_so : Asked
  asked_so =
      let come : now.revision < w.hub.machine.current = b.come in
      let top : w.hub.machine.current ≤ last_revision = b.stands.holds.machine.whole.high in
      asks_watch w.hub.types task_now now.revision b.stands.holds.task_is.1 (omega (arith, come, top))

  catches_up_so : LeadsTo task i w 8 (IsCurrentOrIdle 1 IsFirst w)
  catches_up_so = subst (λ (c : Client). LeadsTo task i (with_client c) 8 (IsCurrentOrIdle 1 IsFirst (with_client c))) b.same (by_asked asked_so)
    where
      by_asked : Asked → LeadsTo task i as_begun 8 (IsCurrentOrIdle 1 IsFirst as_begun)
      by_asked (inl long) =
          joined.within task i 3 8 as_begun (IsCurrentOrIdle 1 IsFirst as_begun) (omega arith)
          (leads_first task w.hub w.requested now w.client.notices w.connection 1 i (omega arith) room b.behind (too_long laws task w.hub now long))
      by_asked (inr asked) =
          catches_up laws task w.hub w.requested now w.client.notices w.connection b.stands.holds.task_is.0 b.stands.holds.task_is.1 b.stands.holds.machine b.begun b.come b.behind kept room asked i

  tells_so : (most turns : ℕ) → 0 < most → length (changes_after task w.hub.machine now.revision) < turns * most → Tells task i w most (2 * turns + 5) (IsCurrentOrIdle 1 IsFirst w)
  tells_so most turns some few = subst (λ (c : Client). Tells task i (with_client c) most (2 * turns + 5) (IsCurrentOrIdle 1 IsFirst (with_client c))) b.same (by_asked asked_so)
    where
      by_asked : Asked → Tells task i as_begun most (2 * turns + 5) (IsCurrentOrIdle 1 IsFirst as_begun)
      by_asked (inl long) =
          tells_first task w.hub w.requested now w.client.notices w.connection 1 i (omega arith) room b.behind (too_long laws task w.hub now long) most (2 * turns + 5) (omega arith)
      by_asked (inr asked) =
          tells_all laws task w.hub w.requested now w.client.notices w.connection b.stands.holds.task_is.0 b.stands.holds.task_is.1 b.stands.holds.machine b.begun b.come b.behind kept room asked most turns i some few

pub catching_up : Laws → WatchesCatchUp
catching_up laws types task run_before w earlier now shapes is run silent streams cached behind kept room =
    catches_up_so laws task w now (suc (length run_before)) (begins task w now (stands_after laws task types run_before w earlier shapes is run) silent streams cached behind) kept room

-- where some lines fit there is room for one
some_lines : (most turns n : ℕ) → n < turns * most → 0 < most
some_lines zero turns n few = let none : turns * 0 ≡ 0 = mul-zero turns in absurd (omega (arith, few, none))
some_lines (suc most) turns n few = omega arith

pub telling_all : Laws → WatchesTell
telling_all laws types task run_before w earlier now most turns shapes is run silent streams cached behind kept few room =
    tells_so laws task w now (suc (length run_before)) (begins task w now (stands_after laws task types run_before w earlier shapes is run) silent streams cached behind) kept room most turns
    (some_lines most turns (length (changes_after task w.hub.machine now.revision)) few) few
