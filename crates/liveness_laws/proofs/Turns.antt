-- Turns of a watch lead its client on: to where the machine is, or to where it asks for the first page.
use Rattle.std.proofs.Common.{◌≡◌, ◌∙◌, inl, inr, ℕ, zero, suc, ◌+◌, ◌-◌, ◌*◌, ◌<◌, ◌≤◌, max, Bool, true, false, List, [], ◌∷◌, ◌++◌, drop, length, Option, Some, option_map, refl, sym, ap, subst, arith, length-drop, ltb-false, ltb-true, true≢false}
use Rattle.std.specs.FinMap as fin
use Rattle.std.specs.Prelude.{nat_lt}
use Rattle.history.specs.Seen.{SeenChange, seen_changes}
use Rattle.watchline.specs.Watches.{is_bookmark_due, position_by}
use Rattle.httpedge.proofs.Connected.{got_each, put_there}
use Rattle.httpedge.specs.Connections.{Connection, Phase, is_open, watching}
use Rattle.httpedge.specs.Steps as edge
use Rattle.httpedge.specs.Watches.{Turn, Watch, pumped, ticked}
use Rattle.reflector.specs.Client.{Client, SyncPhase, first, streaming}
use Rattle.reflector.specs.Run.{taken}
use Rattle.liveness_laws.proofs.Keeping.{keeps_replaced, keeps_ticked}
use Rattle.liveness_laws.proofs.Leads.{IsDone, LeadsBy, by_event, here_by, within_by}
use Rattle.liveness_laws.proofs.OnWatch.{IsReading, pumped_by, pumps, ticked_all, ticks}
use Rattle.liveness_laws.proofs.Reached.{ReadsOrRelists}
use Rattle.liveness_laws.proofs.Rounds.{room_for}
use Rattle.liveness_laws.proofs.Stages.{IsStage, IsToldOf, ahead, bookmark, due_there, last, marked_watch, marks_there, next_stage, one_plain, own_then, position_then, prefix, pump_plain, pump_tells, pumped_conn, pumped_watch, reader, reader_so, tick_tells, told_texts, turn_told, turned_conn, turned_reading}
use Rattle.world_laws.specs.Moves.{is_at, is_current}
use Rattle.liveness_laws.specs.Progress.{is_own}
use Rattle.world_laws.proofs.Laws.{Laws}
use Rattle.world_laws.specs.Tasks.{Task, selection}
use Rattle.world_laws.specs.World.{ClientConnection, World, WorldEvent, other, to_client, to_server}

wrong : false ≡ true → ⊥
wrong e = absurd (true≢false (sym e))

-- what may happen on the connection of a client that reads a watch: all that is written comes, the rest of its request does, a pump of so many lines while the machine is at this revision, and a tick
-- while the clock stands there
pub record Mays (May : World → WorldEvent → Type 0) (top clock most : ℕ) : Type 0 where
  pub tells : (v : World) (own : ClientConnection) (conn : Connection) → IsReading v own conn → own.handed < length conn.written → May v (to_client (length conn.written))
  pub asks : (v : World) (own : ClientConnection) (conn : Connection) → IsReading v own conn → length conn.written ≤ own.handed → 0 < length own.unsent → May v (to_server (length own.unsent))
  pub pumps : (v : World) (own : ClientConnection) (conn : Connection) → IsReading v own conn → length conn.written ≤ own.handed → length own.unsent ≡ 0 → (watch : Watch) → conn.phase ≡ watching watch
      → watch.cursor.position < v.hub.machine.current → v.hub.machine.current ≡ top → May v (other (edge.pumps own.id most))
  pub ticks : (v : World) (own : ClientConnection) (conn : Connection) → IsReading v own conn → length conn.written ≤ own.handed → length own.unsent ≡ 0 → (watch : Watch) → conn.phase ≡ watching watch
      → v.hub.machine.current ≤ watch.cursor.position → is_bookmark_due watch.cursor ≡ true → v.hub.last_tick ≡ clock → May v (other (edge.ticks v.hub.last_tick))

-- the client asks for the first page next
abbrev pub IsFirst : SyncPhase → Type 0
IsFirst phase = (phase ≡ first)

abbrev pub Done : World → Type 0
Done = IsDone IsFirst

module _ (laws : Laws) (task : Task) (May : World → WorldEvent → Type 0) (top clock most : ℕ) (some : 0 < most) (mays : Mays May top clock most) where
  -- where it goes on the others follow; else it is current, or asks for the first page
  decide : (i n : ℕ) (w : World) (d : Client) → w.client.is_awaiting_reply ≡ d.is_awaiting_reply → w.client.sync ≡ d.sync → ReadsOrRelists d
      → (d.is_awaiting_reply ≡ true → d.sync ≡ streaming → is_current w ≡ false → LeadsBy May task i w n 0 Done) → LeadsBy May task i w n 0 Done
  decide i n w d awaits sync so rest = by_current (is_current w) refl
    where
      by_so : ReadsOrRelists d → is_current w ≡ false → LeadsBy May task i w n 0 Done
      by_so (inl reads_on) behind = rest reads_on.0 reads_on.1 behind
      by_so (inr relists) behind = here_by May task i n w Done (inr (awaits ∙ relists.0, sync ∙ relists.1))

      by_current : (b : Bool) → is_current w ≡ b → LeadsBy May task i w n 0 Done
      by_current true current = here_by May task i n w Done (inl current)
      by_current false behind = by_so so behind

  module _ (w : World) (own : ClientConnection) (conn : Connection) (watch : Watch) (texts : List (List ℕ)) (st : IsStage task w own conn watch texts) (at_top : w.hub.machine.current ≡ top)
      (at_clock : w.hub.last_tick ≡ clock) where
    all_told : length conn.written ≤ own.handed
    all_told = let from : own.handed ≡ length conn.written = st.handed in omega (arith, from)

    -- ---- a bookmark

    marks : (i : ℕ) → watch.cursor.position ≡ w.hub.machine.current → LeadsBy May task i w 2 0 Done
    marks i position =
        let at : watch.cursor.position ≡ w.hub.machine.current = position in
        let due : is_bookmark_due watch.cursor ≡ true = due_there laws task w own conn watch texts st position in
        let turn : Watch → Turn = ticked w.hub.types w.hub.last_tick in
        let more : List (List ℕ) = bookmark laws task w own conn watch texts st position due ∷ [] in
        let next : Watch = marked_watch laws task w own conn watch texts st position due in
        let tells_so = tick_tells laws task w own conn watch texts st position due in
        let plain = one_plain laws task w own conn watch texts st position due in
        let hub : edge.State = ticked_all task w own conn st.reading in
        let c : Connection = turned_conn laws task w own conn watch texts st turn more next tells_so plain in
        let got : fin.get hub.connections own.id ≡ Some c = got_each (λ id x. edge.with_turn turn x) w.hub.connections own.id ∙ ap (option_map (edge.with_turn turn)) st.reading.got in
        let after : World = record w { hub = hub; client = taken w.client } in
        let d : Client = reader laws task w own conn watch texts st turn more next tells_so plain in
        by_event May task i 1 0 0 0 w after (other (edge.ticks w.hub.last_tick)) Done (omega arith)
        (mays.ticks w own conn st.reading all_told st.asked_all watch st.watches (omega (arith, at)) due at_clock) (ticks task w own conn st.reading) (keeps_ticked w (taken w.client))
        (turn_told laws task w own conn watch texts st turn more next tells_so plain hub got refl May Done (suc i) 0
        (mays.tells after own c (turned_reading laws task w own conn watch texts st turn more next tells_so plain hub got refl))
        (λ j k o came. decide j 0 (record after { client = k; connection = o }) d came.awaits came.sync (reader_so laws task w own conn watch texts st turn more next tells_so plain)
        (λ awaits sync behind. absurd (wrong (sym behind ∙ ap (is_at w.hub.machine.current) came.cache ∙ marks_there laws task w own conn watch texts st position due d refl awaits)))))

  -- ---- pumps

  -- so many turns tell all
  abbrev pub Turns : ℕ → Type 0
  Turns n =
      (w : World) (own : ClientConnection) (conn : Connection) (watch : Watch) (texts : List (List ℕ)) → IsStage task w own conn watch texts → w.hub.machine.current ≡ top → w.hub.last_tick ≡ clock
      → length (seen_changes (selection task) w.hub.machine.changes watch.cursor.position w.hub.machine.current) < room_for n most → (i : ℕ) → LeadsBy May task i w (2 * n + 2) 0 Done

  module _ (n : ℕ) (later : Turns n) (w : World) (own : ClientConnection) (conn : Connection) (watch : Watch) (texts : List (List ℕ)) (st : IsStage task w own conn watch texts) (at_top : w.hub.machine.current ≡ top)
      (at_clock : w.hub.last_tick ≡ clock) (few : length (seen_changes (selection task) w.hub.machine.changes watch.cursor.position w.hub.machine.current) < room_for (suc n) most) where
    abbrev turn : Watch → Turn
    turn = pumped w.hub.machine most

    abbrev next : Watch
    next = pumped_watch laws task w own conn watch texts st most

    abbrev more : List (List ℕ)
    more = told_texts laws task w own conn watch texts st most

    abbrev then : Connection
    then = pumped_conn laws task w own conn watch texts st most

    abbrev hub : edge.State
    hub = pumped_by task w own conn st.reading most

    abbrev after : World
    after = record w { hub = hub; client = taken w.client }

    abbrev d : Client
    d = reader laws task w own conn watch texts st turn more next (pump_tells laws task w own conn watch texts st most) (pump_plain laws task w own conn watch texts st most)

    got : fin.get hub.connections own.id ≡ Some then
    got = put_there w.hub.connections own.id then

    -- behind the turn
    goes_on : (j : ℕ) (k : Client) (o : Option ClientConnection) → IsToldOf own then d k o → d.is_awaiting_reply ≡ true → d.sync ≡ streaming → is_at w.hub.machine.current k.cache ≡ false
        → LeadsBy May task j (record after { client = k; connection = o }) (2 * n + 2) 0 Done
    goes_on j k o came awaits sync behind = by_room (nat_lt (length (ahead laws task w own conn watch texts st most)) most) refl
      where
        st_then : IsStage task (record after { client = k; connection = o }) (own_then laws task w own conn watch texts st most) then next (texts ++ more)
        st_then = next_stage laws task w own conn watch texts st most hub k o got refl refl came awaits sync behind

        stands : (b : Bool) → nat_lt (length (ahead laws task w own conn watch texts st most)) most ≡ b → next.cursor.position ≡ position_by b w.hub.machine.current (last laws task w own conn watch texts st most)
        stands b is = position_then laws task w own conn watch texts st most ∙ ap (λ (x : Bool). position_by x w.hub.machine.current (last laws task w own conn watch texts st most)) is

        by_room : (b : Bool) → nat_lt (length (ahead laws task w own conn watch texts st most)) most ≡ b → LeadsBy May task j (record after { client = k; connection = o }) (2 * n + 2) 0 Done
        by_room true room =
            let high : last laws task w own conn watch texts st most ≤ w.hub.machine.current = (prefix laws task w own conn watch texts st most).high in
            let top_is : max (last laws task w own conn watch texts st most) w.hub.machine.current ≡ w.hub.machine.current = omega (arith, high) in
            within_by May task j 2 (2 * n + 2) 0 (record after { client = k; connection = o }) Done (omega arith)
            (marks (record after { client = k; connection = o }) (own_then laws task w own conn watch texts st most) then next (texts ++ more) st_then at_top at_clock j (stands true room ∙ top_is))
        by_room false full =
            let long : most ≤ length (ahead laws task w own conn watch texts st most) = ltb-false (length (ahead laws task w own conn watch texts st most)) most full in
            let left : length (drop most (ahead laws task w own conn watch texts st most)) ≡ length (ahead laws task w own conn watch texts st most) - most = length-drop most (ahead laws task w own conn watch texts st most) in
            let fit : length (ahead laws task w own conn watch texts st most) < most + room_for n most = few in
            let fewer : length (drop most (ahead laws task w own conn watch texts st most)) < room_for n most = omega (arith, long, left, fit) in
            later (record after { client = k; connection = o }) (own_then laws task w own conn watch texts st most) then next (texts ++ more) st_then at_top at_clock
            (subst (λ (p : ℕ). length (seen_changes (selection task) w.hub.machine.changes p w.hub.machine.current) < room_for n most) (sym (stands false full))
            (subst (λ (xs : List SeenChange). length xs < room_for n most) (sym (prefix laws task w own conn watch texts st most).left) fewer)) j

    pump_on : (i : ℕ) → watch.cursor.position < w.hub.machine.current → LeadsBy May task i w (2 * suc n + 2) 0 Done
    pump_on i low =
        within_by May task i (suc (suc (2 * n + 2))) (2 * suc n + 2) 0 w Done (omega arith)
        (by_event May task i (suc (2 * n + 2)) 0 0 0 w after (other (edge.pumps own.id most)) Done (omega arith)
        (mays.pumps w own conn st.reading (all_told w own conn watch texts st at_top at_clock) st.asked_all watch st.watches low at_top) (pumps task w own conn st.reading most some)
        (keeps_replaced w own conn then (taken w.client) w.connection st.reading.has st.reading.got (λ id. ap (λ (o : Option ClientConnection). is_own o id) st.reading.has) (λ e. ap (λ (x : Phase). is_open x) st.watches))
        (turn_told laws task w own conn watch texts st turn more next (pump_tells laws task w own conn watch texts st most) (pump_plain laws task w own conn watch texts st most) hub got refl May Done (suc i) (2 * n + 2)
        (mays.tells after own then (turned_reading laws task w own conn watch texts st turn more next (pump_tells laws task w own conn watch texts st most) (pump_plain laws task w own conn watch texts st most) hub got refl))
        (λ j k o came. decide j (2 * n + 2) (record after { client = k; connection = o }) d came.awaits came.sync
        (reader_so laws task w own conn watch texts st turn more next (pump_tells laws task w own conn watch texts st most) (pump_plain laws task w own conn watch texts st most))
        (λ awaits sync behind. goes_on j k o came awaits sync behind))))

    turn_on : (i : ℕ) → LeadsBy May task i w (2 * suc n + 2) 0 Done
    turn_on i = by_test (nat_lt watch.cursor.position w.hub.machine.current) refl
      where
        by_test : (b : Bool) → nat_lt watch.cursor.position w.hub.machine.current ≡ b → LeadsBy May task i w (2 * suc n + 2) 0 Done
        by_test true test = pump_on i (ltb-true watch.cursor.position w.hub.machine.current test)
        by_test false test =
            let high : w.hub.machine.current ≤ watch.cursor.position = ltb-false watch.cursor.position w.hub.machine.current test in
            let come : watch.cursor.position ≤ w.hub.machine.current = st.come in
            within_by May task i 2 (2 * suc n + 2) 0 w Done (omega arith) (marks w own conn watch texts st at_top at_clock i (omega (arith, high, come)))

  pub turns_tell : (n : ℕ) → Turns n
  turns_tell zero w own conn watch texts st at_top at_clock few i = absurd (omega (arith, few))
  turns_tell (suc n) w own conn watch texts st at_top at_clock few i = turn_on n (turns_tell n) w own conn watch texts st at_top at_clock few i
