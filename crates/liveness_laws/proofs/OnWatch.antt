-- The moves of the schedule on the connection of a client that reads a watch: what is next, and what it leads to.
use Rattle.std.proofs.Common.{◌≡◌, ◌∙◌, ℕ, ◌+◌, ◌-◌, ◌<◌, ◌≤◌, ◌==◌, ◌&&◌, Bool, true, false, cond, List, [], ◌∷◌, ◌++◌, drop, length, take, Option, Some, None, refl, sym, ap, subst, arith, le_refl, length-drop, ne_eqb, take-append-drop, take_all}
use Rattle.std.proofs.lemmas.Bool.{le-leb, le-ltb, lt-ltb}
use Rattle.std.proofs.lemmas.List.{drop_all}
use Rattle.std.specs.FinMap as fin
use Rattle.std.specs.Prelude.{if◌then◌else◌, is_some, nat_le, nat_lt, option_map, unwrap_or}
use Rattle.requests.specs.Decision.{undecided}
use Rattle.watchline.specs.Watches.{is_bookmark_due}
use Rattle.httpedge.specs.Connections.{Connection, Phase, each, ended_on, has_ended, watching, written_on}
use Rattle.httpedge.specs.Runs as runs
use Rattle.httpedge.specs.Steps as edge
use Rattle.httpedge.specs.Watches.{Watch, pumped, ticked}
use Rattle.liveness_laws.proofs.Exchange.{leaves_so}
use Rattle.liveness_laws.proofs.Hub.{left_by}
use Rattle.liveness_laws.proofs.Keeping.{Keeps, keeps_hub, keeps_left}
use Rattle.world_laws.specs.Moves.{is_current, is_old, move_by, move_on, next_move, wait_by, wait_on}
use Rattle.liveness_laws.specs.Progress.{is_own}
use Rattle.reflector.specs.Client.{Client, SyncPhase, streaming}
use Rattle.reflector.specs.Run.{closed, receives_all, taken}
use Rattle.wireclient.specs.Reads.{Items}
use Rattle.wireclient.specs.Reply.{ReplyItem}
use Rattle.world_laws.specs.Tasks.{Task, wanted_by}
use Rattle.world_laws.specs.World.{ClientConnection, Cuts, Delivers, Hands, Receives, Steps, TakesUnless, ToClient, ToServer, World, WorldEvent, after_move, cut, is_by_peer_on, is_over, other, reply_on, to_client, to_server}

-- the client awaits a watch on this connection, and isn't where the machine is
pub record IsReading (w : World) (own : ClientConnection) (conn : Connection) : Type 0 where
  pub awaits : w.client.is_awaiting_reply ≡ true
  pub sync : w.client.sync ≡ streaming
  pub behind : is_current w ≡ false
  pub has : w.connection ≡ Some own
  pub got : fin.get w.hub.connections own.id ≡ Some conn

some_first : (l : List ℕ) → 0 < length l → (b : ℕ) × (bs : List ℕ) × (l ≡ b ∷ bs)
some_first [] some = absurd (omega (arith, some))
some_first (b ∷ bs) some = (b, bs, refl)

and_true : (b c : Bool) → c ≡ true → (b && c) ≡ b
and_true true c is = is
and_true false c is = refl

-- what the client is after bytes moved on a connection that has ended, or hasn't
abbrev pub told_end : Bool → Client → Client
told_end has_ended c = taken (if has_ended then closed c else c)

module _ (task : Task) (w : World) (own : ClientConnection) (conn : Connection) (is : IsReading w own conn) where
  reply_is : reply_on w own ≡ conn.written
  reply_is = ap (λ (o : Option Connection). unwrap_or (option_map (λ c. c.written) o) []) is.got

  -- ---- what is next

  move_is : next_move w ≡ Some (move_on w own)
  move_is =
      ap (λ (b : Bool). cond b None (Some (move_by w w.client.is_awaiting_reply w.connection))) is.behind
      ∙ ap (λ (b : Bool). Some (move_by w b w.connection)) is.awaits
      ∙ ap (λ (o : Option ClientConnection). Some (move_by w true o)) is.has
      ∙ ap (λ (sync : SyncPhase). Some (cond (is_old w.hub.machine.current sync) cut (move_on w own))) is.sync

  abbrev asks_or_waits : WorldEvent
  asks_or_waits = cond (nat_lt 0 (length own.unsent)) (to_server (length own.unsent)) (wait_on w own)

  by_told : (b : Bool) → nat_lt own.handed (length conn.written) ≡ b → next_move w ≡ Some (cond b (to_client (length conn.written)) asks_or_waits)
  by_told b test =
      move_is
      ∙ ap (λ (l : List ℕ). Some (cond (nat_lt own.handed (length l)) (to_client (length l)) asks_or_waits)) reply_is
      ∙ ap (λ (x : Bool). Some (cond x (to_client (length conn.written)) asks_or_waits)) test

  pub tells_next : own.handed < length conn.written → next_move w ≡ Some (to_client (length conn.written))
  tells_next more = by_told true (lt-ltb own.handed (length conn.written) more)

  -- all is told
  module _ (told : length conn.written ≤ own.handed) where
    after_told : next_move w ≡ Some asks_or_waits
    after_told = by_told false (le-ltb own.handed (length conn.written) told)

    pub asks_next : 0 < length own.unsent → next_move w ≡ Some (to_server (length own.unsent))
    asks_next some = after_told ∙ ap (λ (b : Bool). Some (cond b (to_server (length own.unsent)) (wait_on w own))) (lt-ltb 0 (length own.unsent) some)

    -- all is asked
    module _ (sent : length own.unsent ≡ 0) where
      waits_next : next_move w ≡ Some (wait_by w own.id conn.phase)
      waits_next =
          after_told
          ∙ ap (λ (b : Bool). Some (cond b (to_server (length own.unsent)) (wait_on w own))) (le-ltb 0 (length own.unsent) (omega (arith, sent)))
          ∙ ap (λ (o : Option Connection). Some (unwrap_or (option_map (λ c. wait_by w own.id c.phase) o) cut)) is.got

      pub pumps_next : (watch : Watch) → conn.phase ≡ watching watch → watch.cursor.position < w.hub.machine.current → next_move w ≡ Some (other (edge.pumps own.id w.hub.machine.current))
      pumps_next watch watches low =
          waits_next ∙ ap (λ (st : Phase). Some (wait_by w own.id st)) watches
          ∙ ap (λ (b : Bool). Some (cond b (other (edge.pumps own.id w.hub.machine.current)) (cond (is_bookmark_due watch.cursor) (other (edge.ticks w.hub.last_tick)) cut))) (lt-ltb watch.cursor.position w.hub.machine.current low)

      by_due : (watch : Watch) → conn.phase ≡ watching watch → w.hub.machine.current ≤ watch.cursor.position → (b : Bool) → is_bookmark_due watch.cursor ≡ b
          → next_move w ≡ Some (cond b (other (edge.ticks w.hub.last_tick)) cut)
      by_due watch watches level b due =
          waits_next ∙ ap (λ (st : Phase). Some (wait_by w own.id st)) watches
          ∙ ap (λ (x : Bool). Some (cond x (other (edge.pumps own.id w.hub.machine.current)) (cond (is_bookmark_due watch.cursor) (other (edge.ticks w.hub.last_tick)) cut))) (le-ltb watch.cursor.position w.hub.machine.current level)
          ∙ ap (λ (x : Bool). Some (cond x (other (edge.ticks w.hub.last_tick)) cut)) due

      pub ticks_next : (watch : Watch) → conn.phase ≡ watching watch → w.hub.machine.current ≤ watch.cursor.position → is_bookmark_due watch.cursor ≡ true → next_move w ≡ Some (other (edge.ticks w.hub.last_tick))
      ticks_next watch watches level due = by_due watch watches level true due

      pub cuts_watch : (watch : Watch) → conn.phase ≡ watching watch → w.hub.machine.current ≤ watch.cursor.position → is_bookmark_due watch.cursor ≡ false → next_move w ≡ Some cut
      cuts_watch watch watches level due = by_due watch watches level false due

      -- one that doesn't watch is cut
      pub cuts_other : (st : Phase) → conn.phase ≡ st → wait_by w own.id st ≡ cut → next_move w ≡ Some cut
      cuts_other st stands is_cut = waits_next ∙ ap (λ (x : Phase). Some (wait_by w own.id x)) stands ∙ ap (λ e. Some e) is_cut

  -- ---- all that is written comes to the client

  abbrev pub own_told : ClientConnection
  own_told = record own { handed = length conn.written }

  abbrev pub told : Client → World
  told d = record w { client = told_end (has_ended conn.phase) d; connection = Some own_told }

  module _ (within : own.handed ≤ length conn.written) (more : own.handed < length conn.written) (sent coming : List ReplyItem) (read : Items (take own.handed conn.written) sent) (all : Items conn.written (sent ++ coming)) where
    abbrev reader : Client
    reader = receives_all (wanted_by task) w.client coming

    rest_length : length (drop own.handed conn.written) ≡ length conn.written - own.handed
    rest_length = length-drop own.handed conn.written

    first_of : (b : ℕ) × (bs : List ℕ) × (drop own.handed conn.written ≡ b ∷ bs)
    first_of = let long : length (drop own.handed conn.written) ≡ length conn.written - own.handed = rest_length in some_first (drop own.handed conn.written) (omega (arith, long, more))

    abbrev b : ℕ
    b = first_of.0

    abbrev bs : List ℕ
    bs = first_of.1

    piece_is : take (length conn.written) (drop own.handed (reply_on w own)) ≡ b ∷ bs
    piece_is =
        let long : length (drop own.handed conn.written) ≡ length conn.written - own.handed = rest_length in
        ap (λ (l : List ℕ). take (length conn.written) (drop own.handed l)) reply_is
        ∙ take_all (length conn.written) (drop own.handed conn.written) (omega (arith, long)) ∙ first_of.2

    handed_is : own.handed + length (b ∷ bs) ≡ length conn.written
    handed_is =
        let long : length (drop own.handed conn.written) ≡ length conn.written - own.handed = rest_length in
        let same : length (drop own.handed conn.written) ≡ length (b ∷ bs) = ap length first_of.2 in
        omega (arith, long, same, within)

    receives : Receives true (wanted_by task) w.client (take own.handed (reply_on w own)) (b ∷ bs) reader
    receives = (
      sent,
      coming,
      subst (λ (l : List ℕ). Items (take own.handed l) sent) (sym reply_is) read,
      subst (λ (l : List ℕ). Items l (sent ++ coming))
          (sym (ap (λ (l : List ℕ). take own.handed l ++ b ∷ bs) reply_is ∙ ap (λ (l : List ℕ). take own.handed conn.written ++ l) (sym first_of.2) ∙ take-append-drop own.handed conn.written)) all,
      refl,
    )

    abbrev mid : World
    mid = record w { client = if has_ended conn.phase then closed reader else reader; connection = Some own_told }

    over_is : is_over (record w { client = reader }) own_told ≡ has_ended conn.phase
    over_is =
        ap (λ (o : Option Connection). unwrap_or (option_map (λ c. has_ended c.phase) o) false && nat_le (length (unwrap_or (option_map (λ c. c.written) o) [])) (length conn.written)) is.got
        ∙ and_true (has_ended conn.phase) (nat_le (length conn.written) (length conn.written)) (le-leb (length conn.written) (length conn.written) (omega arith))

    moved : mid ≡ after_move (record w { client = reader }) (record own { handed = own.handed + length (b ∷ bs) })
    moved = sym (
        ap (λ (n : ℕ). after_move (record w { client = reader }) (record own { handed = n })) handed_is
        ∙ ap (λ (x : Bool). record w { client = if x then closed reader else reader; connection = Some own_told }) over_is)

    hands : ToClient (wanted_by task) w (length conn.written) (Some own) mid
    hands =
        subst (λ (piece : List ℕ). Hands (wanted_by task) w own piece mid) (sym piece_is)
        (reader, subst (λ (x : Bool). Receives x (wanted_by task) w.client (take own.handed (reply_on w own)) (b ∷ bs) reader) (sym is.awaits) receives, moved)

    pub tells : Steps task w (to_client (length conn.written)) (told reader)
    tells = (mid, subst (λ (o : Option ClientConnection). ToClient (wanted_by task) w (length conn.written) o mid) (sym is.has) hands, refl)

  pub keeps_told : (d : Client) → Keeps w (told d) 0
  keeps_told d = keeps_hub w (told_end (has_ended conn.phase) d) (Some own_told) (λ id isnt. sym (ap (λ (o : Option ClientConnection). is_own o id) is.has) ∙ isnt)

  -- ---- the rest of the request comes to the server

  abbrev pub own_asked : ClientConnection
  own_asked = record own { unsent = [] }

  -- whether nothing more comes of what the hub has written then
  abbrev pub over_in : edge.State → Bool
  over_in t = ended_on t.connections own.id && nat_le (length (written_on t.connections own.id)) own.handed

  abbrev pub asked : edge.State → World
  asked t = record w { hub = t; client = told_end (over_in t) w.client; connection = Some own_asked }

  module _ (some : 0 < length own.unsent) (t : edge.State) (steps : runs.Steps w.hub (edge.comes own.id own.unsent) t) where
    asked_first : (b : ℕ) × (bs : List ℕ) × (own.unsent ≡ b ∷ bs)
    asked_first = some_first own.unsent some

    abbrev delivered : World
    delivered = record w { hub = t; client = if over_in t then closed w.client else w.client; connection = Some own_asked }

    brings : Delivers w own (length own.unsent) (asked_first.0 ∷ asked_first.1) delivered
    brings = (
      record w { hub = t },
      (t, subst (λ (l : List ℕ). runs.Steps w.hub (edge.comes own.id l) t) asked_first.2 steps, refl),
      sym (ap (λ (l : List ℕ). after_move (record w { hub = t }) (record own { unsent = l })) (drop_all (length own.unsent) own.unsent (le_refl (length own.unsent)))),
    )

    pub asks : Steps task w (to_server (length own.unsent)) (asked t)
    asks =
        let piece : take (length own.unsent) own.unsent ≡ asked_first.0 ∷ asked_first.1 = take_all (length own.unsent) own.unsent (le_refl (length own.unsent)) ∙ asked_first.2 in
        let moves : ToServer w (length own.unsent) (Some own) delivered = subst (λ (l : List ℕ). Delivers w own (length own.unsent) l delivered) (sym piece) brings in
        (delivered, subst (λ (o : Option ClientConnection). ToServer w (length own.unsent) o delivered) (sym is.has) moves, refl)

  -- ---- the hub alone moves

  abbrev pub on_hub : edge.State → World
  on_hub t = record w { hub = t; client = taken w.client }

  by_hub : (e : edge.Event) (t : edge.State) → ((o : Option ClientConnection) → is_by_peer_on o e ≡ false) → runs.Steps w.hub e t → Steps task w (other e) (on_hub t)
  by_hub e t isnt steps = (record w { hub = t }, subst (λ (b : Bool). TakesUnless b w e (record w { hub = t })) (sym (isnt w.connection)) (t, steps, refl), refl)

  -- a watch writes at most so many lines
  abbrev pub pumped_by : ℕ → edge.State
  pumped_by max = edge.with_connection w.hub own.id (edge.with_turn (pumped w.hub.machine max) conn)

  pub pumps : (max : ℕ) → 0 < max → Steps task w (other (edge.pumps own.id max)) (on_hub (pumped_by max))
  pumps max some = by_hub (edge.pumps own.id max) (pumped_by max) isnt (
    undecided,
    refl,
    sym (
        ap (λ (o : Option Connection). edge.unless_refused (cond (is_some o) (cond (max == 0) (Some edge.no_lines) None) (Some edge.unknown_id)) w.hub
        (edge.by_connection w.hub o (λ c. edge.with_connection w.hub own.id (edge.with_turn (pumped w.hub.machine max) c)))) is.got
        ∙ ap (λ (b : Bool). edge.unless_refused (cond b (Some edge.no_lines) None) w.hub (pumped_by max)) (ne_eqb max 0 (λ none. omega (arith, none, some)))),
  )
    where
      isnt : (o : Option ClientConnection) → is_by_peer_on o (edge.pumps own.id max) ≡ false
      isnt None = refl
      isnt (Some own) = refl

  -- a tick, while the clock stands still
  abbrev pub ticked_all : edge.State
  ticked_all = edge.with_tick w.hub w.hub.last_tick (each (λ id c. edge.with_turn (ticked w.hub.types w.hub.last_tick) c) w.hub.connections)

  pub ticks : Steps task w (other (edge.ticks w.hub.last_tick)) (on_hub ticked_all)
  ticks = by_hub (edge.ticks w.hub.last_tick) ticked_all isnt (
    undecided,
    refl,
    sym (
        ap (λ (b : Bool). edge.unless_refused (cond b (Some edge.tick_back) None) w.hub ticked_all) (le-ltb w.hub.last_tick w.hub.last_tick (omega arith))),
  )
    where
      isnt : (o : Option ClientConnection) → is_by_peer_on o (edge.ticks w.hub.last_tick) ≡ false
      isnt None = refl
      isnt (Some own) = refl

  -- ---- the connection is cut

  abbrev pub cut_off : World
  cut_off = record w { hub = edge.with_connections w.hub (left_by w.hub.connections (Some own)); client = taken (closed w.client); connection = None }

  pub cuts : Steps task w cut cut_off
  cuts = (
    record w { hub = edge.with_connections w.hub (left_by w.hub.connections (Some own)); client = closed w.client; connection = None },
    subst (λ (o : Option ClientConnection). Cuts w o (record w { hub = edge.with_connections w.hub (left_by w.hub.connections (Some own)); client = closed w.client; connection = None })) (sym is.has)
        (leaves_so w.hub w.requested (closed w.client) (Some own)),
    refl,
  )

  pub keeps_cut : Keeps w cut_off 0
  keeps_cut = keeps_left w own (taken (closed w.client)) is.has
