-- A client that reads a watch: what is written comes to it, then what is left to be written, then a bookmark; and where no more comes its connection is cut.
use Rattle.std.proofs.Common.{◌≡◌, ◌⊎◌, ◌∙◌, inl, inr, ℕ, suc, ◌<◌, ◌≤◌, Bool, true, false, List, [], ◌++◌, length, take, Option, Some, None, refl, sym, ap, ap₂, subst, arith, append-nil, ltb-true, ltb-false, take_all, true≢false}
use Rattle.std.specs.FinMap as fin
use Rattle.std.specs.Prelude.{nat_lt, option_map}
use Rattle.history.specs.History.{History, last_revision}
use Rattle.api_request.specs.Calls.{Call, Plan, at_tick}
use Rattle.verbs.specs.Machine as machines
use Rattle.requests.specs.Asks.{Asks, CallDecision}
use Rattle.requests.specs.Decision.{accepted, undecided}
use Rattle.requests.specs.Refusals.{head_too_large, refuse}
use Rattle.wire_laws.proofs.Listings.{watch_expired, watch_opens, watches_at}
use Rattle.watchline.specs.Watches.{is_bookmark_due}
use Rattle.httpedge.proofs.Connected.{got_each, put_there}
use Rattle.httpedge.proofs.Outcomes.{ComesBy, ComesOn}
use Rattle.httpedge.specs.Connections.{Connection, Phase, ended, gone, has_ended, is_open, waiting, watching}
use Rattle.httpedge.specs.Runs as runs
use Rattle.httpedge.specs.Steps as edge
use Rattle.httpedge.specs.Watches.{Turn, Watch, pumped, ticked}
use Rattle.decoder.specs.Wanted.{Wanted}
use Rattle.reflector.proofs.Reached.{all_stay}
use Rattle.reflector.specs.Client.{Cache, Client, SyncPhase, first, next, streaming}
use Rattle.reflector.specs.FollowsLaws.{Follows, IsCacheOf, IsReplyTo, IsSyncSound, Server}
use Rattle.reflector.specs.Requests.{query_at, request_of, watch_query}
use Rattle.reflector.specs.Run.{receives_all, taken}
use Rattle.wireclient.specs.Reads.{Items, has_closed}
use Rattle.wireclient.specs.Reply.{ReplyItem}
use Rattle.liveness_laws.proofs.Connected.{closed_silent}
use Rattle.liveness_laws.proofs.Keeping.{Keeps, keeps_hub, keeps_replaced, keeps_ticked}
use Rattle.liveness_laws.proofs.Leads.{IsDone, Leads, by_move, here, within}
use Rattle.liveness_laws.proofs.Levels.{IsLevel, IsQuiet, pump_levels, tick_quiets}
use Rattle.liveness_laws.proofs.OnWatch.{IsReading, asked, asks, asks_next, cut_off, cuts, cuts_other, cuts_watch, keeps_cut, keeps_told, on_hub, over_in, own_asked, own_told, pumped_by, pumps, pumps_next, told, told_end, tells, tells_next, ticked_all, ticks, ticks_next}
use Rattle.liveness_laws.proofs.Standing.{Stands, stands_on}
use Rattle.liveness_laws.proofs.Unclosed.{UnclosedBy}
use Rattle.liveness_laws.specs.Leading.{AnyPhase}
use Rattle.world_laws.specs.Moves.{is_current, next_move}
use Rattle.liveness_laws.specs.Progress.{is_own}
use Rattle.world_laws.proofs.Asking.{asks_watch}
use Rattle.world_laws.proofs.Laws.{Laws}
use Rattle.world_laws.proofs.Mirror.{server_of}
use Rattle.world_laws.proofs.OneWorld.{same_rest}
use Rattle.world_laws.proofs.Passes.{AsksFor, IsWatchCall, request_with, task_watch, watch_values}
use Rattle.world_laws.proofs.RunInvariant.{Goes, IsRead, IsServed, IsServedOn, ReadInvariant}
use Rattle.world_laws.specs.Tasks.{Task, client_settings, wanted_by, with_shape}
use Rattle.world_laws.specs.World.{ClientConnection, Steps, World, WorldEvent, cut, other, to_client, to_server}

wrong : false ≡ true → ⊥
wrong e = absurd (true≢false (sym e))

-- ---- what a client awaits

-- it awaits a watch in a world after a run
pub record Awaits (task : Task) (w : World) : Type 0 where
  pub stands : Stands task w
  pub own : ClientConnection
  pub conn : Connection
  pub reading : IsReading w own conn
  pub served : IsServed task w.hub.machine stands.highest w.client own conn
  pub still : (items : List ReplyItem) → Items (take own.handed conn.written) items → has_closed items ≡ false

some_conn : (x y : Connection) → Some x ≡ Some y → x ≡ y
some_conn x y e = cc

some_own : (x y : ClientConnection) → Some x ≡ Some y → x ≡ y
some_own x y e = cc

module _ (task : Task) (w : World) (stands : Stands task w) (awaits : w.client.is_awaiting_reply ≡ true) (sync : w.client.sync ≡ streaming) (behind : is_current w ≡ false) where
  goes : Goes task w.hub.machine stands.highest w.client true w.connection w.hub.connections
  goes = subst (λ (b : Bool). Goes task w.hub.machine stands.highest w.client b w.connection w.hub.connections) awaits stands.holds.goes

  unclosed : UnclosedBy true w.connection w.hub.connections
  unclosed = subst (λ (b : Bool). UnclosedBy b w.connection w.hub.connections) awaits stands.unclosed

  on : (own : Option ClientConnection) → w.connection ≡ own → Goes task w.hub.machine stands.highest w.client true own w.hub.connections → UnclosedBy true own w.hub.connections → Awaits task w
  on None has goes still = absurd goes
  on (Some own) has goes still = record {
    stands = stands;
    own = own;
    conn = still.conn;
    reading = record { awaits = awaits; sync = sync; behind = behind; has = has; got = still.got };
    served = subst (IsServedOn task w.hub.machine stands.highest w.client own) still.got goes;
    still = still.still;
  }

  pub awaits_on : Awaits task w
  awaits_on = on w.connection refl goes unclosed

-- it is on this connection
module _ (task : Task) (v : World) (b : Awaits task v) (own : ClientConnection) (has : v.connection ≡ Some own) where
  own_is : b.own ≡ own
  own_is = some_own b.own own (sym b.reading.has ∙ has)

  conn_is : (c : Connection) → fin.get v.hub.connections own.id ≡ Some c → b.conn ≡ c
  conn_is c got = some_conn b.conn c (sym b.reading.got ∙ ap (λ (o : ClientConnection). fin.get v.hub.connections o.id) own_is ∙ got)

-- ---- what comes next, wherever a move led to

abbrev pub Done : World → Type 0
Done = IsDone AnyPhase

told_end_stays : (b : Bool) (d : Client) → (d.is_awaiting_reply ≡ true → d.sync ≡ streaming) → (told_end b d).is_awaiting_reply ≡ true → (told_end b d).sync ≡ streaming
told_end_stays true d stays awaits = absurd (wrong (sym (closed_silent d) ∙ awaits))
told_end_stays false d stays awaits = stays awaits

-- ---- where a watch stands

-- a client that was told all of it has a revision from 1 on, and the watch stands there or above
begins_above : (server : Server) (wanted : Wanted) (m to : ℕ) (c : Client) → Follows server wanted m c [] to → 1 ≤ m → c.is_awaiting_reply ≡ true → c.sync ≡ streaming → 1 ≤ to
begins_above server wanted m to c follows begun awaits sync = go c.sync c.cache sync follows.cache follows.sync (follows.coming awaits)
  where
    go : (sync : SyncPhase) (cache : Option Cache) → sync ≡ streaming → IsCacheOf server m cache → IsSyncSound server m sync cache → IsReplyTo server wanted m sync cache [] to → 1 ≤ to
    go first cache is cached sound comes = absurd cc
    go (next revision token paged) cache is cached sound comes = absurd cc
    go streaming None is cached sound comes = absurd (wrong sound)
    go streaming (Some now) is cached sound comes =
        let same : now.revision ≡ m = cached.0 in
        let low : now.revision ≤ to = comes.0 in
        omega (arith, same, low, begun)

-- it keeps a revision
keeps_one : (server : Server) (m : ℕ) (c : Client) → IsCacheOf server m c.cache → IsSyncSound server m c.sync c.cache → c.sync ≡ streaming → (now : Cache) × (c.cache ≡ Some now) × (now.revision ≡ m)
keeps_one server m c cached sound sync = go c.sync c.cache refl sync cached sound
  where
    go : (sync : SyncPhase) (cache : Option Cache) → c.cache ≡ cache → sync ≡ streaming → IsCacheOf server m cache → IsSyncSound server m sync cache → (now : Cache) × (c.cache ≡ Some now) × (now.revision ≡ m)
    go first cache same is cached sound = absurd cc
    go (next revision token paged) cache same is cached sound = absurd cc
    go streaming None same is cached sound = absurd (wrong sound)
    go streaming (Some now) same is cached sound = (now, same, cached.0)

module _ (laws : Laws) (task : Task) where
  -- where it awaits a watch, and isn't current, so many moves are left
  decide : (i most : ℕ) (w : World) → Stands task w → (w.client.is_awaiting_reply ≡ true → w.client.sync ≡ streaming) → (Awaits task w → Leads task i w most 0 Done) → Leads task i w most 0 Done
  decide i most w stands sync rest = by_current (is_current w) refl
    where
      by_awaiting : (b : Bool) → w.client.is_awaiting_reply ≡ b → is_current w ≡ false → Leads task i w most 0 Done
      by_awaiting false silent behind = here task i most w Done (inr (silent, refl))
      by_awaiting true awaits behind = rest (awaits_on task w stands awaits (sync awaits) behind)

      by_current : (b : Bool) → is_current w ≡ b → Leads task i w most 0 Done
      by_current true current = here task i most w Done (inl current)
      by_current false behind = by_awaiting w.client.is_awaiting_reply refl behind

  module _ (w : World) (is : Awaits task w) where
    abbrev own : ClientConnection
    own = is.own

    abbrev conn : Connection
    conn = is.conn

    abbrev machine : History
    machine = w.hub.machine

    abbrev current : ℕ
    current = w.hub.machine.current

    abbrev server : Server
    server = server_of task w.hub.machine

    -- ---- what is written comes to it

    abbrev after_tell : World
    after_tell = told task w own conn is.reading (receives_all (wanted_by task) w.client is.served.coming)

    -- all of the same connection is told
    abbrev IsTold : (v : World) → Awaits task v → Type 0
    IsTold v b = (length b.conn.written ≤ b.own.handed) × (b.own.unsent ≡ own.unsent) × (b.conn ≡ conn) × (v.hub ≡ w.hub)

    told_there : (b : Awaits task after_tell) → IsTold after_tell b
    told_there b =
        let same : b.own ≡ own_told task w own conn is.reading = own_is task after_tell b (own_told task w own conn is.reading) refl in
        let there : b.conn ≡ conn = conn_is task after_tell b (own_told task w own conn is.reading) refl conn is.reading.got in
        let long : length b.conn.written ≡ length conn.written = ap (λ (c : Connection). length c.written) there in
        let handed : b.own.handed ≡ length conn.written = ap (λ (o : ClientConnection). o.handed) same in
        (omega (arith, long, handed), ap (λ (o : ClientConnection). o.unsent) same, there, refl)

    telling : (i most : ℕ) → ((j : ℕ) (v : World) (b : Awaits task v) → IsTold v b → Leads task j v most 0 Done) → Leads task i w (suc most) 0 Done
    telling i most rest = by_test (nat_lt own.handed (length conn.written)) refl
      where
        more_comes : own.handed < length conn.written → Leads task i w (suc most) 0 Done
        more_comes more =
            let steps : Steps task w (to_client (length conn.written)) after_tell = tells task w own conn is.reading is.served.within more is.served.sent is.served.coming is.served.read is.served.all in
            by_move task i most 0 0 0 w after_tell (to_client (length conn.written)) Done (omega arith) (tells_next task w own conn is.reading more) steps
            (keeps_told task w own conn is.reading (receives_all (wanted_by task) w.client is.served.coming))
            (decide (suc i) most after_tell (stands_on laws task w after_tell (to_client (length conn.written)) is.stands steps)
            (told_end_stays (has_ended conn.phase) (receives_all (wanted_by task) w.client is.served.coming) (all_stay (wanted_by task) w.client is.served.coming is.reading.sync))
            (λ b. rest (suc i) after_tell b (told_there b)))

        by_test : (b : Bool) → nat_lt own.handed (length conn.written) ≡ b → Leads task i w (suc most) 0 Done
        by_test true test = more_comes (ltb-true own.handed (length conn.written) test)
        by_test false test =
            within task i most (suc most) 0 w Done (omega arith) (rest i w is (ltb-false own.handed (length conn.written) test, refl, refl, refl))

    -- ---- where all is told

    module _ (told : length conn.written ≤ own.handed) where
      whole : take own.handed conn.written ≡ conn.written
      whole = take_all own.handed conn.written told

      none_comes : is.served.coming ≡ []
      none_comes =
          let read : Items conn.written is.served.sent = subst (λ (l : List ℕ). Items l is.served.sent) whole is.served.read in
          sym (same_rest is.served.sent [] is.served.coming (append-nil is.served.sent ∙ laws.one conn.written is.served.sent (is.served.sent ++ is.served.coming) read is.served.all))

      reads_watch : (watch : Watch) → conn.phase ≡ watching watch → IsRead task machine w.client is.served.to (is.served.sent ++ is.served.coming) conn.written watch
      reads_watch watch watches = go (subst (ReadInvariant task machine w.client own.unsent is.served.to (is.served.sent ++ is.served.coming) conn.written) watches is.served.represents)
        where
          go : IsRead task machine w.client is.served.to (is.served.sent ++ is.served.coming) conn.written watch ⊎ (has_closed (is.served.sent ++ is.served.coming) ≡ true)
              → IsRead task machine w.client is.served.to (is.served.sent ++ is.served.coming) conn.written watch
          go (inl reads) = reads
          go (inr closed) = absurd (wrong (sym (is.still (is.served.sent ++ is.served.coming) (subst (λ (l : List ℕ). Items l (is.served.sent ++ is.served.coming)) (sym whole) is.served.all)) ∙ closed))

      stands_above : 1 ≤ is.served.to
      stands_above =
          begins_above server (wanted_by task) is.stands.highest is.served.to w.client (subst (λ (xs : List ReplyItem). Follows server (wanted_by task) is.stands.highest w.client xs is.served.to) none_comes is.served.follows)
          is.stands.holds.begun is.reading.awaits is.reading.sync

      -- a pump brings the watch to the current revision
      levels : (watch : Watch) → conn.phase ≡ watching watch → IsLevel current (edge.phase_after (pumped machine current watch).next)
      levels watch watches =
          let reads = reads_watch watch watches in
          let at : watch.cursor.position ≡ is.served.to = reads.position in
          let above : 1 ≤ is.served.to = stands_above in
          let come : is.served.to ≤ current = reads.come in
          pump_levels task w.hub.types machine is.stands.holds.machine watch reads.own (omega (arith, at, above)) (omega (arith, at, come))

      -- after a tick no bookmark is due
      quiets : (watch : Watch) → conn.phase ≡ watching watch → current ≤ watch.cursor.position → IsQuiet current (edge.phase_after (ticked w.hub.types w.hub.last_tick watch).next)
      quiets watch watches level =
          tick_quiets current watch level task w.hub.types w.hub.last_tick (reads_watch watch watches).own is.stands.holds.task_is

    -- ---- the rest of its request comes to the server

    -- what its request asks changes nothing
    record Decides (bytes : List ℕ) : Type 0 where
      decided : CallDecision
      asked_so : Asks w.hub.types bytes decided
      unchanged : edge.machine_after w.hub.types machine w.hub.last_tick decided ≡ machine

    abbrev task_now : Task
    task_now = with_shape task is.stands.holds.task_is.0

    asks_still : (call : Call) (r : ℕ) → 1 ≤ r → IsWatchCall w.hub.types task_now r call → edge.machine_after w.hub.types machine w.hub.last_tick (accepted call) ≡ machine
    asks_still call r some such = by_test (nat_lt r machine.compacted) refl
      where
        still : IsWatchCall w.hub.types task_now r (at_tick w.hub.last_tick call)
        still = watches_at w.hub.last_tick such

        by_test : (b : Bool) → nat_lt r machine.compacted ≡ b → edge.machine_after w.hub.types machine w.hub.last_tick (accepted call) ≡ machine
        by_test true past =
            ap (λ (p : Plan). machines.after machine p.changes) (watch_expired w.hub.types machine (at_tick w.hub.last_tick call) task_now.t task_now.settings.kind task_now.settings.namespace (watch_values task_now r) task_watch r still some (ltb-true r machine.compacted past))
        by_test false low =
            ap (λ (p : Plan). machines.after machine p.changes) (watch_opens w.hub.types machine (at_tick w.hub.last_tick call) task_now.t task_now.settings.kind task_now.settings.namespace (watch_values task_now r) task_watch r still some (ltb-false r machine.compacted low))

    decides : (bytes : List ℕ) → bytes ≡ request_of (client_settings task) w.client → Decides bytes
    decides bytes is_request =
        let kept = keeps_one server is.stands.highest w.client is.served.follows.cache is.served.follows.sync is.reading.sync in
        let r : ℕ = kept.0.revision in
        let same : r ≡ is.stands.highest = kept.2 in
        let begun : 1 ≤ is.stands.highest = is.stands.holds.begun in
        let low : is.stands.highest ≤ current = is.served.follows.low in
        let high : current ≤ last_revision = is.stands.holds.machine.whole.high in
        let query : bytes ≡ request_with task (watch_query (client_settings task) r) =
        is_request ∙ ap₂ (λ (sync : SyncPhase) (cache : Option Cache). request_with task (query_at (client_settings task) sync (option_map (λ (now : Cache). now.revision) cache))) is.reading.sync kept.1 in
        go r (omega (arith, same, begun)) (subst (λ (l : List ℕ). AsksFor w.hub.types l (IsWatchCall w.hub.types task_now r)) (sym query) (asks_watch w.hub.types task_now r is.stands.holds.task_is.1 (omega (arith, same, low, high))))
      where
        go : (r : ℕ) → 1 ≤ r → AsksFor w.hub.types bytes (IsWatchCall w.hub.types task_now r) → Decides bytes
        go r some (inl too_long) = record { decided = refuse head_too_large; asked_so = too_long; unchanged = refl }
        go r some (inr (call, so, such)) = record { decided = accepted call; asked_so = so; unchanged = asks_still call r some such }

    record Delivered : Type 0 where
      to : edge.State
      steps : runs.Steps w.hub (edge.comes own.id own.unsent) to
      keeps : Keeps w (asked task w own conn is.reading to) 0

    comes_by : (st : Phase) (t : edge.State) → conn.phase ≡ st → ComesOn w.hub own.id conn st own.unsent t → runs.Steps w.hub (edge.comes own.id own.unsent) t
    comes_by st t stands on =
        let there : ComesOn w.hub own.id conn conn.phase own.unsent t = subst (λ (x : Phase). ComesOn w.hub own.id conn x own.unsent t) (sym stands) on in
        let by : ComesBy w.hub own.id (Some conn) own.unsent t = (there.0, there.1, there.2) in
        subst (λ (o : Option Connection). ComesBy w.hub own.id o own.unsent t) (sym is.reading.got) by

    -- one that doesn't wait stays as it is
    idle : (st : Phase) → conn.phase ≡ st → ComesOn w.hub own.id conn st own.unsent w.hub → Delivered
    idle st stands on = record {
      to = w.hub;
      steps = comes_by st w.hub stands on;
      keeps = keeps_hub w (told_end (over_in task w own conn is.reading w.hub) w.client) (Some (own_asked task w own conn is.reading)) (λ id isnt. sym (ap (λ (o : Option ClientConnection). is_own o id) is.reading.has) ∙ isnt);
    }

    waited : (prefix : List ℕ) → conn.phase ≡ waiting prefix → Decides (prefix ++ own.unsent) → Delivered
    waited prefix waits d =
        let c : Connection = edge.connection_after w.hub.types machine w.hub.last_tick conn (prefix ++ own.unsent) d.decided in
        let t : edge.State = edge.with_connection w.hub own.id c in
        let on : ComesOn w.hub own.id conn (waiting prefix) own.unsent t = (
          d.decided,
          d.asked_so,
          sym (ap (λ (m : History). edge.with_connection (edge.with_machine w.hub m) own.id c) d.unchanged),
        ) in
        record {
          to = t;
          steps = comes_by (waiting prefix) t waits on;
          keeps = keeps_replaced w own conn c (told_end (over_in task w own conn is.reading t) w.client) (Some (own_asked task w own conn is.reading)) is.reading.has is.reading.got (λ id. refl) (λ e. ap is_open waits);
        }

    delivered : Delivered
    delivered = by_phase conn.phase refl
      where
        by_phase : (st : Phase) → conn.phase ≡ st → Delivered
        by_phase (waiting prefix) stands =
            waited prefix stands (decides (prefix ++ own.unsent) (subst (ReadInvariant task machine w.client own.unsent is.served.to (is.served.sent ++ is.served.coming) conn.written) stands is.served.represents).1)
        by_phase (watching watch) stands = idle (watching watch) stands (undecided, refl, refl)
        by_phase ended stands = idle ended stands (undecided, refl, refl)
        by_phase (gone had_ended) stands = idle (gone had_ended) stands (undecided, refl, refl)

  -- ---- what comes behind, from the end

  none_of : (l k : List ℕ) → l ≡ k → length k ≡ 0 → length l ≡ 0
  none_of l k same none = ap length same ∙ none

  -- no more comes: it is cut
  ends_quiet : (w : World) (is : Awaits task w) (i : ℕ) → length is.conn.written ≤ is.own.handed → length is.own.unsent ≡ 0 → IsQuiet w.hub.machine.current is.conn.phase → Leads task i w 1 0 Done
  ends_quiet w is i all sent quiet =
      by_move task i 0 0 0 0 w (cut_off task w is.own is.conn is.reading) cut Done (omega arith) (by_phase is.conn.phase refl quiet) (cuts task w is.own is.conn is.reading) (keeps_cut task w is.own is.conn is.reading)
      (here task (suc i) 0 (cut_off task w is.own is.conn is.reading) Done (inr (closed_silent w.client, refl)))
    where
      by_phase : (st : Phase) → is.conn.phase ≡ st → IsQuiet w.hub.machine.current st → next_move w ≡ Some cut
      by_phase (waiting prefix) stands quiet = cuts_other task w is.own is.conn is.reading all sent (waiting prefix) stands refl
      by_phase (watching watch) stands quiet = cuts_watch task w is.own is.conn is.reading all sent watch stands quiet.0 quiet.1
      by_phase ended stands quiet = cuts_other task w is.own is.conn is.reading all sent ended stands refl
      by_phase (gone had_ended) stands quiet = cuts_other task w is.own is.conn is.reading all sent (gone had_ended) stands refl

  moved_to : (P : ℕ → Phase → Type 0) (w v : World) (is : Awaits task w) (b : Awaits task v) → b.conn ≡ is.conn → v.hub ≡ w.hub → P w.hub.machine.current is.conn.phase → P v.hub.machine.current b.conn.phase
  moved_to P w v is b same hub holds =
      subst (λ (s : edge.State). P s.machine.current b.conn.phase) (sym hub) (subst (λ (c : Connection). P w.hub.machine.current c.phase) (sym same) holds)

  -- a bookmark was written
  ends_marked : (w : World) (is : Awaits task w) (i : ℕ) → length is.own.unsent ≡ 0 → IsQuiet w.hub.machine.current is.conn.phase → Leads task i w 2 0 Done
  ends_marked w is i sent quiet =
      telling w is i 1 (λ j v b told. ends_quiet v b j told.0 (none_of b.own.unsent is.own.unsent told.1 sent) (moved_to IsQuiet w v is b told.2 told.3 quiet))

  after_turn_is : (turn : Watch → Turn) (c : Connection) (watch : Watch) → c.phase ≡ watching watch → (edge.with_turn turn c).phase ≡ edge.phase_after (turn watch).next
  after_turn_is turn c watch watches = ap (λ (st : Phase). (edge.after_turn turn c st).phase) watches

  -- all lines were told
  ends_level : (w : World) (is : Awaits task w) (i : ℕ) → length is.conn.written ≤ is.own.handed → length is.own.unsent ≡ 0 → IsLevel w.hub.machine.current is.conn.phase → Leads task i w 3 0 Done
  ends_level w is i all sent level = by_phase is.conn.phase refl level
    where
      v : World
      v = on_hub task w is.own is.conn is.reading (ticked_all task w is.own is.conn is.reading)

      ticks_on : (watch : Watch) → is.conn.phase ≡ watching watch → w.hub.machine.current ≤ watch.cursor.position → is_bookmark_due watch.cursor ≡ true → Leads task i w 3 0 Done
      ticks_on watch stands level due =
          let turn = ticked w.hub.types w.hub.last_tick in
          let steps : Steps task w (other (edge.ticks w.hub.last_tick)) v = ticks task w is.own is.conn is.reading in
          by_move task i 2 0 0 0 w v (other (edge.ticks w.hub.last_tick)) Done (omega arith) (ticks_next task w is.own is.conn is.reading all sent watch stands level due) steps (keeps_ticked w (taken w.client))
          (decide (suc i) 2 v (stands_on laws task w v (other (edge.ticks w.hub.last_tick)) is.stands steps) (λ e. is.reading.sync)
          (λ b.
          let there : b.conn ≡ edge.with_turn turn is.conn =
          conn_is task v b is.own is.reading.has (edge.with_turn turn is.conn) (got_each (λ id c. edge.with_turn turn c) w.hub.connections is.own.id ∙ ap (option_map (edge.with_turn turn)) is.reading.got) in
          let phase : b.conn.phase ≡ edge.phase_after (turn watch).next = ap (λ (c : Connection). c.phase) there ∙ after_turn_is turn is.conn watch stands in
          ends_marked v b (suc i) (none_of b.own.unsent is.own.unsent (ap (λ (o : ClientConnection). o.unsent) (own_is task v b is.own is.reading.has)) sent)
          (subst (IsQuiet w.hub.machine.current) (sym phase) (quiets w is all watch stands level))))

      by_due : (watch : Watch) → is.conn.phase ≡ watching watch → w.hub.machine.current ≤ watch.cursor.position → (b : Bool) → is_bookmark_due watch.cursor ≡ b → Leads task i w 3 0 Done
      by_due watch stands level true due = ticks_on watch stands level due
      by_due watch stands level false due = within task i 1 3 0 w Done (omega arith) (ends_quiet w is i all sent (subst (IsQuiet w.hub.machine.current) (sym stands) (level, due)))

      quiet_by : (st : Phase) → is.conn.phase ≡ st → IsQuiet w.hub.machine.current st → Leads task i w 3 0 Done
      quiet_by st stands quiet = within task i 1 3 0 w Done (omega arith) (ends_quiet w is i all sent (subst (IsQuiet w.hub.machine.current) (sym stands) quiet))

      by_phase : (st : Phase) → is.conn.phase ≡ st → IsLevel w.hub.machine.current st → Leads task i w 3 0 Done
      by_phase (waiting prefix) stands level = quiet_by (waiting prefix) stands tt
      by_phase (watching watch) stands level = by_due watch stands level (is_bookmark_due watch.cursor) refl
      by_phase ended stands level = quiet_by ended stands tt
      by_phase (gone had_ended) stands level = quiet_by (gone had_ended) stands tt

  -- all lines were written
  ends_written : (w : World) (is : Awaits task w) (i : ℕ) → length is.own.unsent ≡ 0 → IsLevel w.hub.machine.current is.conn.phase → Leads task i w 4 0 Done
  ends_written w is i sent level =
      telling w is i 3 (λ j v b told. ends_level v b j told.0 (none_of b.own.unsent is.own.unsent told.1 sent) (moved_to IsLevel w v is b told.2 told.3 level))

  -- its lines may be left
  ends_read : (w : World) (is : Awaits task w) (i : ℕ) → length is.conn.written ≤ is.own.handed → length is.own.unsent ≡ 0 → Leads task i w 5 0 Done
  ends_read w is i all sent = by_phase is.conn.phase refl
    where
      v : World
      v = on_hub task w is.own is.conn is.reading (pumped_by task w is.own is.conn is.reading w.hub.machine.current)

      turned_open : (watch : Watch) (c : Connection) → is.conn.phase ≡ watching watch → is_open c.phase ≡ true → is_open is.conn.phase ≡ true
      turned_open watch c stands e = ap is_open stands

      pumps_on : (watch : Watch) → is.conn.phase ≡ watching watch → watch.cursor.position < w.hub.machine.current → Leads task i w 5 0 Done
      pumps_on watch stands low =
          let turn = pumped w.hub.machine w.hub.machine.current in
          let c : Connection = edge.with_turn turn is.conn in
          let e : WorldEvent = other (edge.pumps is.own.id w.hub.machine.current) in
          let steps : Steps task w e v = pumps task w is.own is.conn is.reading w.hub.machine.current (omega (arith, low)) in
          by_move task i 4 0 0 0 w v e Done (omega arith) (pumps_next task w is.own is.conn is.reading all sent watch stands low) steps
          (keeps_replaced w is.own is.conn c (taken w.client) w.connection is.reading.has is.reading.got (λ id. ap (λ (o : Option ClientConnection). is_own o id) is.reading.has) (turned_open watch c stands))
          (decide (suc i) 4 v (stands_on laws task w v e is.stands steps) (λ e. is.reading.sync)
          (λ b.
          let there : b.conn ≡ c = conn_is task v b is.own is.reading.has c (put_there w.hub.connections is.own.id c) in
          let phase : b.conn.phase ≡ edge.phase_after (turn watch).next = ap (λ (c : Connection). c.phase) there ∙ after_turn_is turn is.conn watch stands in
          ends_written v b (suc i) (none_of b.own.unsent is.own.unsent (ap (λ (o : ClientConnection). o.unsent) (own_is task v b is.own is.reading.has)) sent)
          (subst (IsLevel w.hub.machine.current) (sym phase) (levels w is all watch stands))))

      level_by : (st : Phase) → is.conn.phase ≡ st → IsLevel w.hub.machine.current st → Leads task i w 5 0 Done
      level_by st stands level = within task i 3 5 0 w Done (omega arith) (ends_level w is i all sent (subst (IsLevel w.hub.machine.current) (sym stands) level))

      by_position : (watch : Watch) → is.conn.phase ≡ watching watch → (b : Bool) → nat_lt watch.cursor.position w.hub.machine.current ≡ b → Leads task i w 5 0 Done
      by_position watch stands true low = pumps_on watch stands (ltb-true watch.cursor.position w.hub.machine.current low)
      by_position watch stands false high = level_by (watching watch) stands (ltb-false watch.cursor.position w.hub.machine.current high)

      by_phase : (st : Phase) → is.conn.phase ≡ st → Leads task i w 5 0 Done
      by_phase (waiting prefix) stands = level_by (waiting prefix) stands tt
      by_phase (watching watch) stands = by_position watch stands (nat_lt watch.cursor.position w.hub.machine.current) refl
      by_phase ended stands = level_by ended stands tt
      by_phase (gone had_ended) stands = level_by (gone had_ended) stands tt

  -- all of its request came
  ends_asked : (w : World) (is : Awaits task w) (i : ℕ) → length is.own.unsent ≡ 0 → Leads task i w 6 0 Done
  ends_asked w is i sent = telling w is i 5 (λ j v b told. ends_read v b j told.0 (none_of b.own.unsent is.own.unsent told.1 sent))

  -- a part of its request may be left
  ends_told : (w : World) (is : Awaits task w) (i : ℕ) → length is.conn.written ≤ is.own.handed → Leads task i w 7 0 Done
  ends_told w is i all = by_test (nat_lt 0 (length is.own.unsent)) refl
    where
      to : edge.State
      to = (delivered w is).to

      v : World
      v = asked task w is.own is.conn is.reading to

      asks_on : 0 < length is.own.unsent → Leads task i w 7 0 Done
      asks_on some =
          let e : WorldEvent = to_server (length is.own.unsent) in
          let steps : Steps task w e v = asks task w is.own is.conn is.reading some to (delivered w is).steps in
          by_move task i 6 0 0 0 w v e Done (omega arith) (asks_next task w is.own is.conn is.reading all some) steps (delivered w is).keeps
          (decide (suc i) 6 v (stands_on laws task w v e is.stands steps) (told_end_stays (over_in task w is.own is.conn is.reading to) w.client (λ e. is.reading.sync))
          (λ b. ends_asked v b (suc i) (ap (λ (o : ClientConnection). length o.unsent) (own_is task v b (own_asked task w is.own is.conn is.reading) refl))))

      by_test : (b : Bool) → nat_lt 0 (length is.own.unsent) ≡ b → Leads task i w 7 0 Done
      by_test true test = asks_on (ltb-true 0 (length is.own.unsent) test)
      by_test false test =
          let low : length is.own.unsent ≤ 0 = ltb-false 0 (length is.own.unsent) test in
          within task i 5 7 0 w Done (omega arith) (ends_read w is i all (omega (arith, low)))

  pub ends : (w : World) (is : Awaits task w) (i : ℕ) → Leads task i w 8 0 Done
  ends w is i = telling w is i 7 (λ j v b told. ends_told v b j told.0)
