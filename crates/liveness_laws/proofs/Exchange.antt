-- A client that awaits no reply asks, its request comes to the server in one piece, and the reply to the client: three moves.
use Rattle.std.proofs.Common.{◌≡◌, ℕ, suc, ◌+◌, ◌<◌, ◌≤◌, Bool, true, false, cond, List, [], ◌∷◌, ◌++◌, length, take, drop, Option, Some, None, refl, sym, ap, ap₂, subst, ◌∙◌, arith, append-nil, take_all, le_refl}
use Rattle.std.proofs.lemmas.Bool.{le-leb, le-ltb, lt-leb, lt-ltb}
use Rattle.std.proofs.lemmas.List.{drop_all}
use Rattle.std.specs.FinMap as fin
use Rattle.std.specs.Prelude.{◌&&◌, nat_le, nat_lt, option_map, unwrap_or}
use Rattle.history.specs.History.{History}
use Rattle.requests.specs.Asks.{Asks, CallDecision}
use Rattle.httpedge.proofs.Connected.{put_again, put_there}
use Rattle.httpedge.proofs.NextIds.{next_is_new}
use Rattle.httpedge.proofs.Outcomes.{ComesBy}
use Rattle.httpedge.specs.Connections.{Connection, Connections, ended, has_ended, max_open, next_id, open_count, new_connection, with_written}
use Rattle.httpedge.specs.Runs as runs
use Rattle.httpedge.specs.Steps as edge
use Rattle.liveness_laws.proofs.Hub.{goes_so, left_by, left_count, left_new, opens_so}
use Rattle.world_laws.specs.Moves.{Pursues, is_at, is_old, move_on, next_move, wait_on}
use Rattle.reflector.specs.Client.{Cache, Client, Notice, SyncPhase}
use Rattle.reflector.specs.Requests.{request_of}
use Rattle.reflector.specs.Run.{asked, closed, receives_all, taken}
use Rattle.wireclient.specs.Reads.{Items}
use Rattle.wireclient.specs.Reply.{ReplyItem}
use Rattle.world_laws.proofs.Sending.{nothing_read}
use Rattle.world_laws.specs.Reports.{Report, reports_between}
use Rattle.world_laws.specs.Tasks.{Task, client_settings, wanted_by}
use Rattle.world_laws.specs.World.{ClientConnection, Delivers, Hands, HubTakes, Leaves, Sends, Steps, World, after_move, cut, is_over, reply_on, send, to_client, to_server}

-- ---- no report

-- where the revision is the same there is none
pub unreported : (event : ℕ) (m : History) (cache : Option Cache) → reports_between event m cache cache ≡ []
unreported event m None = refl
unreported event m (Some now) = ap (λ (b : Bool). cond b (record { event = event; machine = m; now = now } ∷ []) []) (le-ltb now.revision now.revision (omega arith))

-- ---- the client

pub leaves_so : (s : edge.State) (requested : List ℕ) (c : Client) (own : Option ClientConnection)
    → Leaves (record { hub = s; requested = requested; client = c; connection = own }) own (record { hub = edge.with_connections s (left_by s.connections own); requested = requested; client = c; connection = None })
leaves_so s requested c None = refl
leaves_so s requested c (Some own) = (edge.with_connections s (left_by s.connections (Some own)), goes_so s own.id, refl)

abbrev pub asking : Option Cache → SyncPhase → Bool → List Notice → Client
asking cache sync awaiting notices = record { cache = cache; sync = sync; is_awaiting_reply = awaiting; notices = notices }

module _ (task : Task) (s : edge.State) (requested : List ℕ) (cache : Option Cache) (sync : SyncPhase) (notices : List Notice) (own : Option ClientConnection) where
  abbrev pub idle : Client
  idle = asking cache sync false notices

  abbrev pub awaits : Client
  awaits = asking cache sync true []

  abbrev pub bytes : List ℕ
  bytes = request_of (client_settings task) idle

  abbrev pub at : edge.State → Client → Option ClientConnection → World
  at t c o = record { hub = t; requested = requested; client = c; connection = o }

  abbrev pub w : World
  w = at s idle own

  -- ---- it asks

  module _ (id : ℕ) (next : next_id s.connections ≡ Some id) (room : open_count s.connections < max_open) where
    abbrev pub left : Connections
    left = left_by s.connections own

    abbrev pub with : Connection → edge.State
    with c = edge.with_connections s (fin.insert left id c)

    abbrev pub first_own : ClientConnection
    first_own = record { id = id; unsent = bytes; handed = 0 }

    abbrev pub sent : World
    sent = at (with new_connection) awaits (Some first_own)

    opens : HubTakes (at (edge.with_connections s left) idle None) (edge.opens id) (at (with new_connection) idle None)
    opens =
        let fewer : open_count left ≤ open_count s.connections = left_count s.connections own in (
          with new_connection,
          opens_so (edge.with_connections s left) id (left_new s.connections own id ∙ next_is_new s.connections id next) (omega (arith, fewer, room)),
          refl,
        )

    pub sends : Steps task w send sent
    sends = (
      at (with new_connection) (asked idle) (Some first_own),
      subst (λ (o : Option ℕ). Sends w o (Some bytes) (at (with new_connection) (asked idle) (Some first_own))) (sym next) (at (edge.with_connections s left) idle None, at (with new_connection) idle None, leaves_so s requested idle own, opens, refl),
      refl,
    )

    there : (c : Connection) → fin.get (fin.insert left id c) id ≡ Some c
    there c = put_there left id c

    module _ (behind : is_at s.machine.current cache ≡ false) (recent : is_old s.machine.current sync ≡ false) where
      -- ---- its request comes to the server

      module _ (b : ℕ) (bs : List ℕ) (decided : CallDecision) (asks : Asks s.types bytes decided)
          (answers : edge.connection_after s.types s.machine s.last_tick new_connection bytes decided ≡ with_written new_connection (b ∷ bs) ended) (still : edge.machine_after s.types s.machine s.last_tick decided ≡ s.machine) where
        abbrev replied : Connection
        replied = with_written new_connection (b ∷ bs) ended

        abbrev second_own : ClientConnection
        second_own = record { id = id; unsent = []; handed = 0 }

        abbrev answered : World
        answered = at (with replied) awaits (Some second_own)

        comes : runs.Steps (with new_connection) (edge.comes id bytes) (with replied)
        comes =
            let same : with replied ≡ edge.received (with new_connection) id new_connection bytes decided =
            sym (ap₂ (λ (m : History) (c : Connection). edge.with_connection (edge.with_machine (with new_connection) m) id c) still answers ∙ ap (edge.with_connections s) (put_again left id new_connection replied)) in
            subst (λ (o : Option Connection). ComesBy (with new_connection) id o bytes (with replied)) (sym (there new_connection)) (decided, asks, same)

        -- nothing of the reply has come
        unread : is_over (at (with replied) awaits (Some second_own)) second_own ≡ false
        unread =
            ap (λ (o : Option Connection). unwrap_or (option_map (λ c. has_ended c.phase) o) false && nat_le (length (unwrap_or (option_map (λ c. c.written) o) [])) 0) (there replied)
            ∙ lt-leb (length (b ∷ bs)) 0 (omega arith)

        moved : answered ≡ after_move (at (with replied) awaits (Some first_own)) (record first_own { unsent = drop (length bytes) bytes })
        moved = sym (
            ap (λ (l : List ℕ). after_move (at (with replied) awaits (Some first_own)) (record first_own { unsent = l })) (drop_all (length bytes) bytes (le_refl (length bytes)))
            ∙ ap (λ (x : Bool). at (with replied) (cond x (closed awaits) awaits) (Some second_own)) unread)

        delivers : Steps task sent (to_server (length bytes)) answered
        delivers = (
          answered,
          subst (λ (piece : List ℕ). Delivers sent first_own (length bytes) piece answered) (sym (take_all (length bytes) bytes (le_refl (length bytes))))
              (at (with replied) awaits (Some first_own), (with replied, comes, refl), moved),
          refl,
        )

        reply_is : reply_on answered second_own ≡ b ∷ bs
        reply_is = ap (λ (o : Option Connection). unwrap_or (option_map (λ c. c.written) o) []) (there replied)

        -- ---- the reply comes to the client

        module _ (items : List ReplyItem) (reads : Items (b ∷ bs) items) where
          abbrev reader : Client
          reader = receives_all (wanted_by task) awaits items

          abbrev third_own : ClientConnection
          third_own = record { id = id; unsent = []; handed = 0 + length (b ∷ bs) }

          abbrev received : World
          received = at (with replied) (taken (closed reader)) (Some third_own)

          ended_there : is_over (at (with replied) reader (Some second_own)) third_own ≡ true
          ended_there =
              ap (λ (o : Option Connection). unwrap_or (option_map (λ c. has_ended c.phase) o) false && nat_le (length (unwrap_or (option_map (λ c. c.written) o) [])) (0 + length (b ∷ bs))) (there replied)
              ∙ le-leb (length (b ∷ bs)) (0 + length (b ∷ bs)) (omega arith)

          closes : at (with replied) (closed reader) (Some third_own) ≡ after_move (at (with replied) reader (Some second_own)) third_own
          closes = sym (ap (λ (x : Bool). at (with replied) (cond x (closed reader) reader) (Some third_own)) ended_there)

          piece_is : take (length (b ∷ bs)) (drop 0 (reply_on answered second_own)) ≡ b ∷ bs
          piece_is = ap (λ (l : List ℕ). take (length (b ∷ bs)) l) reply_is ∙ take_all (length (b ∷ bs)) (b ∷ bs) (le_refl (length (b ∷ bs)))

          hands : Steps task answered (to_client (length (b ∷ bs))) received
          hands = (
            at (with replied) (closed reader) (Some third_own),
            subst (λ (piece : List ℕ). Hands (wanted_by task) answered second_own piece (at (with replied) (closed reader) (Some third_own))) (sym piece_is)
                (reader, ([], items, nothing_read, reads, refl), closes),
            refl,
          )

          -- ---- these are the next moves

          send_is_next : next_move w ≡ Some send
          send_is_next = ap (λ (b : Bool). cond b None (Some send)) behind

          nothing_replied : reply_on sent first_own ≡ []
          nothing_replied = ap (λ (o : Option Connection). unwrap_or (option_map (λ c. c.written) o) []) (there new_connection)

          request_is_next : next_move sent ≡ Some (to_server (length bytes))
          request_is_next =
              ap (λ (x : Bool). cond x None (Some (cond (is_old s.machine.current sync) cut (move_on sent first_own)))) behind ∙ ap (λ (x : Bool). Some (cond x cut (move_on sent first_own))) recent
              ∙ ap (λ (l : List ℕ). Some (cond (nat_lt 0 (length l)) (to_client (length l)) (cond (nat_lt 0 (length bytes)) (to_server (length bytes)) (wait_on sent first_own)))) nothing_replied
              ∙ ap (λ (x : Bool). Some (cond x (to_server (length bytes)) (wait_on sent first_own))) (lt-ltb 0 (length bytes) (omega arith))

          reply_is_next : next_move answered ≡ Some (to_client (length (b ∷ bs)))
          reply_is_next =
              ap (λ (x : Bool). cond x None (Some (cond (is_old s.machine.current sync) cut (move_on answered second_own)))) behind ∙ ap (λ (x : Bool). Some (cond x cut (move_on answered second_own))) recent
              ∙ ap (λ (l : List ℕ). Some (cond (nat_lt 0 (length l)) (to_client (length l)) (cond (nat_lt 0 0) (to_server 0) (wait_on answered second_own)))) reply_is
              ∙ ap (λ (x : Bool). Some (cond x (to_client (length (b ∷ bs))) (cond (nat_lt 0 0) (to_server 0) (wait_on answered second_own)))) (lt-ltb 0 (length (b ∷ bs)) (omega arith))

          abbrev reported : ℕ → List Report
          reported i = reports_between (suc (suc i)) s.machine cache (closed reader).cache

          pub pursued : (i : ℕ) → Pursues task i w (send ∷ to_server (length bytes) ∷ to_client (length (b ∷ bs)) ∷ []) received (reported i)
          pursued i = (
            sent,
            reported i,
            send_is_next,
            sends,
            (
              answered,
              reported i,
              request_is_next,
              delivers,
              (received, [], reply_is_next, hands, (refl, refl), sym (append-nil (reported i))),
              ap (λ (l : List Report). l ++ reported i) (sym (unreported (suc i) s.machine cache)),
            ),
            ap (λ (l : List Report). l ++ reported i) (sym (unreported i s.machine cache)),
          )
