-- A client awaits a page of the list that stands now, of which a part may have come: at most two moves end the reply.
use Rattle.std.proofs.Common.{◌≡◌, ◌≢◌, ◌∙◌, inr, ℕ, suc, ◌+◌, ◌<◌, ◌≤◌, ◌==◌, not, Bool, true, false, cond, List, [], ◌∷◌, ◌++◌, drop, length, take, Option, Some, None, option_map, refl, sym, ap, ap₂, subst, arith, eq-eqb, le-leb, le_refl, length-append, length-take-le, take-append-drop, take_all, true≢false}
use Rattle.std.proofs.lemmas.Bool.{le-ltb, lt-leb, lt-ltb, ltb-false, ltb-true}
use Rattle.std.specs.FinMap as fin
use Rattle.std.specs.Prelude.{◌&&◌, nat_le, nat_lt, unwrap_or}
use Rattle.history.specs.History.{History}
use Rattle.requests.specs.Decision.{undecided}
use Rattle.httpedge.proofs.Connected.{new_still, put_there}
use Rattle.httpedge.proofs.NextIds.{above_all, below_all}
use Rattle.httpedge.proofs.Outcomes.{ComesBy, ComesOn}
use Rattle.httpedge.proofs.Staying.{put_elsewhere}
use Rattle.httpedge.specs.Connections.{Connection, Connections, Phase, ended, gone, has_ended, highest, is_new, open_count, waiting, watching, with_written}
use Rattle.httpedge.specs.Runs as runs
use Rattle.httpedge.specs.Steps as edge
use Rattle.reflector.specs.Client.{Cache, Client, Notice, SyncPhase, first, next, streaming}
use Rattle.reflector.specs.Run.{after_cut, closed, receives_all, taken}
use Rattle.wireclient.specs.Reads.{Items}
use Rattle.wireclient.specs.Reply.{ReplyItem}
use Rattle.liveness_laws.proofs.AfterRun.{IsKnown, known_after}
use Rattle.liveness_laws.proofs.Exchange.{asking, leaves_so}
use Rattle.liveness_laws.proofs.Held.{IsHeld, IsHeldBy, IsHeldOn}
use Rattle.liveness_laws.proofs.Hub.{closed_count, left_by, left_count}
use Rattle.liveness_laws.proofs.ListAnswers.{IsRepliedTo, replied_to}
use Rattle.liveness_laws.proofs.Restart.{left_highest}
use Rattle.liveness_laws.proofs.Rounds.{left_stays}
use Rattle.liveness_laws.specs.Leading.{AnyPhase, IsCurrentOrIdle, IsListPhase, LeadsTo, RepliesEnd}
use Rattle.world_laws.specs.Moves.{is_at, is_old, move_on, next_move, wait_by}
use Rattle.liveness_laws.specs.Progress.{is_own}
use Rattle.world_laws.proofs.Laws.{Laws}
use Rattle.world_laws.proofs.Moving.{closed_silent}
use Rattle.world_laws.proofs.RunInvariant.{Goes, IsServed, IsServedOn, ReadInvariant}
use Rattle.world_laws.proofs.Sending.{nothing_read}
use Rattle.world_laws.specs.Reports.{reports_after}
use Rattle.world_laws.specs.Tasks.{Task, wanted_by}
use Rattle.world_laws.specs.World.{ClientConnection, Delivers, Hands, Receives, Steps, World, WorldEvent, after_move, cut, is_over, reply_on, to_client, to_server}

-- ---- one move, and what it leaves

-- one world follows from the other by the next move. No id is higher in it, no more connections are open, and those of other peers are as they were, and theirs
pub record MovesOn (task : Task) (w v : World) : Type 0 where
  pub move : WorldEvent
  pub is_next : next_move w ≡ Some move
  pub steps : Steps task w move v
  pub machine : v.hub.machine ≡ w.hub.machine
  pub types : v.hub.types ≡ w.hub.types
  pub tick : v.hub.last_tick ≡ w.hub.last_tick
  pub others : (q : ℕ) (c : Connection) → fin.get w.hub.connections q ≡ Some c → is_own w.connection q ≡ false → fin.get v.hub.connections q ≡ Some c
  pub remain : (q : ℕ) → is_own w.connection q ≡ false → is_own v.connection q ≡ false
  pub ids : highest (fin.keys v.hub.connections) ≤ highest (fin.keys w.hub.connections)
  pub room : open_count v.hub.connections ≤ open_count w.hub.connections

-- and in it the client awaits no reply
pub record EndsBy (task : Task) (w : World) : Type 0 where
  pub end : World
  pub moves : MovesOn task w end
  pub silent : end.client.is_awaiting_reply ≡ false

abbrev pub Ends : Task → ℕ → World → Type 0
Ends task i w = LeadsTo task i w 2 (IsCurrentOrIdle 0 AnyPhase w)

module _ (task : Task) (i : ℕ) (w : World) where
  pub by_one : EndsBy task w → Ends task i w
  by_one ends =
      let last : MovesOn task w ends.end = ends.moves in
      let high : highest (fin.keys ends.end.hub.connections) ≤ highest (fin.keys w.hub.connections) = last.ids in
      let few : open_count ends.end.hub.connections ≤ open_count w.hub.connections = last.room in
      record {
        moves = last.move ∷ [];
        end = ends.end;
        reports = reports_after i w ends.end ++ [];
        pursues = (ends.end, [], last.is_next, last.steps, (refl, refl), refl);
        bound = omega arith;
        server = (last.machine, last.types, last.tick);
        others = λ q c got isnt. (0, last.others q c got isnt);
        goal = inr (record { silent = ends.silent; ids = omega (arith, high); room = omega (arith, few); others = λ q c got isnt. last.remain q isnt }, refl);
      }

  pub by_two : (mid : World) → MovesOn task w mid → EndsBy task mid → Ends task i w
  by_two mid one ends =
      let last : MovesOn task mid ends.end = ends.moves in
      let high : highest (fin.keys mid.hub.connections) ≤ highest (fin.keys w.hub.connections) = one.ids in
      let higher : highest (fin.keys ends.end.hub.connections) ≤ highest (fin.keys mid.hub.connections) = last.ids in
      let few : open_count mid.hub.connections ≤ open_count w.hub.connections = one.room in
      let fewer : open_count ends.end.hub.connections ≤ open_count mid.hub.connections = last.room in
      record {
        moves = one.move ∷ last.move ∷ [];
        end = ends.end;
        reports = reports_after i w mid ++ (reports_after (suc i) mid ends.end ++ []);
        pursues = (mid, reports_after (suc i) mid ends.end ++ [], one.is_next, one.steps, (ends.end, [], last.is_next, last.steps, (refl, refl), refl), refl);
        bound = omega arith;
        server = (last.machine ∙ one.machine, last.types ∙ one.types, last.tick ∙ one.tick);
        others = λ q c got isnt. (0, last.others q c (one.others q c got isnt) (one.remain q isnt));
        goal = inr (record { silent = ends.silent; ids = omega (arith, high, higher); room = omega (arith, few, fewer); others = λ q c got isnt. last.remain q (one.remain q isnt) }, refl);
      }

-- ---- the client on its connection

module _ (task : Task) (s : edge.State) (requested : List ℕ) (cache : Option Cache) (sync : SyncPhase) (notices : List Notice) (own : ClientConnection) (c : Connection)
    (got : fin.get s.connections own.id ≡ Some c) (behind : is_at s.machine.current cache ≡ false) (recent : is_old s.machine.current sync ≡ false) where
  abbrev reads : Client
  reads = asking cache sync true notices

  abbrev w : World
  w = record { hub = s; requested = requested; client = reads; connection = Some own }

  reply_is : reply_on w own ≡ c.written
  reply_is = ap (λ (o : Option Connection). unwrap_or (option_map (λ c. c.written) o) []) got

  -- what moves next, by what is written and what is left to send
  abbrev moves_by : Bool → Bool → WorldEvent
  moves_by more left = cond more (to_client (length c.written)) (cond left (to_server (length own.unsent)) (wait_by w own.id c.phase))

  next_by : next_move w ≡ Some (moves_by (nat_lt own.handed (length c.written)) (nat_lt 0 (length own.unsent)))
  next_by =
      ap (λ (b : Bool). cond b None (Some (cond (is_old s.machine.current sync) cut (move_on w own)))) behind ∙ ap (λ (b : Bool). Some (cond b cut (move_on w own))) recent
      ∙ ap (λ (o : Option Connection). Some (cond (nat_lt own.handed (length (unwrap_or (option_map (λ c. c.written) o) []))) (to_client (length (unwrap_or (option_map (λ c. c.written) o) [])))
      (cond (nat_lt 0 (length own.unsent)) (to_server (length own.unsent)) (unwrap_or (option_map (λ c. wait_by w own.id c.phase) o) cut)))) got

  -- ---- nothing more comes: it is cut

  abbrev left : World
  left = record { hub = edge.with_connections s (left_by s.connections (Some own)); requested = requested; client = asking cache (after_cut sync) false []; connection = None }

  pub is_cut : nat_lt own.handed (length c.written) ≡ false → nat_lt 0 (length own.unsent) ≡ false → wait_by w own.id c.phase ≡ cut → EndsBy task w
  is_cut none_written none_left waits = record {
    end = left;
    moves = record {
      move = cut;
      is_next = next_by ∙ ap (λ (b : Bool). Some (moves_by b (nat_lt 0 (length own.unsent)))) none_written ∙ ap (λ (b : Bool). Some (moves_by false b)) none_left ∙ ap Some waits;
      steps = (record left { client = asking cache (after_cut sync) false notices }, leaves_so s requested (asking cache (after_cut sync) false notices) (Some own), refl);
      machine = refl;
      types = refl;
      tick = refl;
      others = λ q d there isnt. left_stays task s s.connections (Some own) q isnt ∙ there;
      remain = λ q isnt. refl;
      ids = left_highest s.connections w;
      room = left_count s.connections (Some own);
    };
    silent = refl;
  }

  -- ---- the server has ended it

  module _ (over : c.phase ≡ ended) where
    -- where all has come the client is told
    told : (d : Client) (rest : ClientConnection) → rest.id ≡ own.id → length c.written ≤ rest.handed → is_over (record w { client = d }) rest ≡ true
    told d rest same most =
        ap (λ (q : ℕ). is_over (record w { client = d }) (record rest { id = q })) same
        ∙ ap (λ (o : Option Connection). unwrap_or (option_map (λ c. has_ended c.phase) o) false && nat_le (length (unwrap_or (option_map (λ c. c.written) o) [])) rest.handed) got
        ∙ ap (λ (p : Phase). has_ended p && nat_le (length c.written) rest.handed) over ∙ le-leb (length c.written) rest.handed most

    closes : (d : Client) (rest : ClientConnection) → rest.id ≡ own.id → length c.written ≤ rest.handed → record w { client = closed d; connection = Some rest } ≡ after_move (record w { client = d }) rest
    closes d rest same most = sym (ap (λ (x : Bool). record w { client = cond x (closed d) d; connection = Some rest }) (told d rest same most))

    -- so it awaits no reply
    ends_so : (move : WorldEvent) (d : Client) (rest : ClientConnection) → rest.id ≡ own.id → next_move w ≡ Some move → Steps task w move (record w { client = taken (closed d); connection = Some rest }) → EndsBy task w
    ends_so move d rest same is_next steps = record {
      end = record w { client = taken (closed d); connection = Some rest };
      moves = record {
        move = move;
        is_next = is_next;
        steps = steps;
        machine = refl;
        types = refl;
        tick = refl;
        others = λ q d there isnt. there;
        remain = λ q isnt. ap (λ (id : ℕ). id == q) same ∙ isnt;
        ids = le_refl (highest (fin.keys s.connections));
        room = le_refl (open_count s.connections);
      };
      silent = closed_silent d;
    }

    -- the rest of the reply comes
    module _ (sent coming : List ReplyItem) (read : Items (take own.handed c.written) sent) (all : Items c.written (sent ++ coming)) (more : own.handed < length c.written) where
      abbrev n : ℕ
      n = length c.written

      abbrev reader : Client
      reader = receives_all (wanted_by task) reads coming

      parts : (piece : List ℕ) → drop own.handed c.written ≡ piece → n ≡ own.handed + length piece
      parts piece is =
          let whole : length (take own.handed c.written ++ piece) ≡ length (take own.handed c.written) + length piece = length-append (take own.handed c.written) piece in
          let both : n ≡ length (take own.handed c.written ++ piece) = ap length (sym (take-append-drop own.handed c.written) ∙ ap (λ (l : List ℕ). take own.handed c.written ++ l) is) in
          let first_part : length (take own.handed c.written) ≡ own.handed = length-take-le own.handed c.written (omega (arith, more)) in
          omega (arith, whole, both, first_part)

      by_piece : (piece : List ℕ) → drop own.handed c.written ≡ piece → EndsBy task w
      by_piece [] is = let none : n ≡ own.handed + 0 = parts [] is in absurd (omega (arith, none, more))
      by_piece (b ∷ bs) is = ends_so (to_client n) reader rest refl is_next (record w { client = closed reader; connection = Some rest }, hands, refl)
        where
          rest : ClientConnection
          rest = record own { handed = own.handed + length (b ∷ bs) }

          is_next : next_move w ≡ Some (to_client n)
          is_next = next_by ∙ ap (λ (x : Bool). Some (moves_by x (nat_lt 0 (length own.unsent)))) (lt-ltb own.handed n more)

          short : length (b ∷ bs) ≤ n
          short = let whole : n ≡ own.handed + length (b ∷ bs) = parts (b ∷ bs) is in omega (arith, whole)

          piece_is : take n (drop own.handed (reply_on w own)) ≡ b ∷ bs
          piece_is = ap (λ (l : List ℕ). take n (drop own.handed l)) reply_is ∙ ap (take n) is ∙ take_all n (b ∷ bs) short

          whole_is : c.written ≡ take own.handed c.written ++ b ∷ bs
          whole_is = sym (take-append-drop own.handed c.written) ∙ ap (λ (l : List ℕ). take own.handed c.written ++ l) is

          receives : Receives true (wanted_by task) reads (take own.handed (reply_on w own)) (b ∷ bs) reader
          receives =
              subst (λ (l : List ℕ). Receives true (wanted_by task) reads (take own.handed l) (b ∷ bs) reader) (sym reply_is)
              (sent, coming, read, subst (λ (l : List ℕ). Items l (sent ++ coming)) whole_is all, refl)

          most : n ≤ rest.handed
          most = let whole : n ≡ own.handed + length (b ∷ bs) = parts (b ∷ bs) is in omega (arith, whole)

          hands : Hands (wanted_by task) w own (take n (drop own.handed (reply_on w own))) (record w { client = closed reader; connection = Some rest })
          hands = subst (λ (piece : List ℕ). Hands (wanted_by task) w own piece (record w { client = closed reader; connection = Some rest })) (sym piece_is) (reader, receives, closes reader rest refl most)

      pub rest_comes : EndsBy task w
      rest_comes = by_piece (drop own.handed c.written) refl

    -- all has come. What is left of the request changes nothing
    module _ (none_more : length c.written ≤ own.handed) where
      stays : (bytes : List ℕ) → runs.Steps s (edge.comes own.id bytes) s
      stays bytes =
          let on : ComesOn s own.id c c.phase bytes s = subst (λ (p : Phase). ComesOn s own.id c p bytes s) (sym over) (undecided, refl, refl) in
          subst (λ (o : Option Connection). ComesBy s own.id o bytes s) (sym got) (on.0, on.1, on.2)

      rest_goes : (b : ℕ) (bs : List ℕ) → own.unsent ≡ b ∷ bs → EndsBy task w
      rest_goes b bs is = ends_so (to_server (length own.unsent)) reads rest refl is_next (record w { client = closed reads; connection = Some rest }, delivers, refl)
        where
          rest : ClientConnection
          rest = record own { unsent = drop (length own.unsent) own.unsent }

          is_next : next_move w ≡ Some (to_server (length own.unsent))
          is_next =
              next_by ∙ ap (λ (x : Bool). Some (moves_by x (nat_lt 0 (length own.unsent)))) (le-ltb own.handed (length c.written) none_more)
              ∙ ap (λ (x : Bool). Some (moves_by false x)) (ap (λ (l : List ℕ). nat_lt 0 (length l)) is ∙ lt-ltb 0 (length (b ∷ bs)) (omega arith))

          piece_is : take (length own.unsent) own.unsent ≡ b ∷ bs
          piece_is = take_all (length own.unsent) own.unsent (le_refl (length own.unsent)) ∙ is

          delivers : Delivers w own (length own.unsent) (take (length own.unsent) own.unsent) (record w { client = closed reads; connection = Some rest })
          delivers = subst (λ (piece : List ℕ). Delivers w own (length own.unsent) piece (record w { client = closed reads; connection = Some rest })) (sym piece_is)
              (w, (s, stays (b ∷ bs), refl), closes reads rest refl none_more)

      pub none_comes : EndsBy task w
      none_comes = by_left own.unsent refl
        where
          by_left : (l : List ℕ) → own.unsent ≡ l → EndsBy task w
          by_left [] is =
              is_cut (le-ltb own.handed (length c.written) none_more) (ap (λ (l : List ℕ). nat_lt 0 (length l)) is) (ap (wait_by w own.id) over)
          by_left (b ∷ bs) is = rest_goes b bs is

    pub ends : (sent coming : List ReplyItem) → Items (take own.handed c.written) sent → Items c.written (sent ++ coming) → EndsBy task w
    ends sent coming read all = go (nat_lt own.handed (length c.written)) refl
      where
        go : (b : Bool) → nat_lt own.handed (length c.written) ≡ b → EndsBy task w
        go true more = rest_comes sent coming read all (ltb-true own.handed (length c.written) more)
        go false none = none_comes (ltb-false own.handed (length c.written) none)

  -- ---- the server waits for the rest of the request

  module _ (prefix : List ℕ) (waits : c.phase ≡ waiting prefix) (unwritten : c.written ≡ []) (within : own.handed ≤ length c.written) (replied : IsRepliedTo s c (prefix ++ own.unsent)) where
    abbrev answered : Connection
    answered = with_written c (replied.b ∷ replied.bs) ended

    abbrev t : edge.State
    t = edge.with_connections s (fin.insert s.connections own.id answered)

    at_start : own.handed ≡ 0
    at_start = let none : length c.written ≡ 0 = ap length unwritten in omega (arith, none, within)

    none_written : nat_lt own.handed (length c.written) ≡ false
    none_written = ap (λ (l : List ℕ). nat_lt own.handed (length l)) unwritten ∙ le-ltb own.handed 0 (omega arith)

    written_is : answered.written ≡ replied.b ∷ replied.bs
    written_is = ap (λ (l : List ℕ). l ++ replied.b ∷ replied.bs) unwritten

    unread : own.handed < length answered.written
    unread = let whole : length answered.written ≡ length (replied.b ∷ replied.bs) = ap length written_is in let none : own.handed ≡ 0 = at_start in omega (arith, whole, none)

    comes : runs.Steps s (edge.comes own.id own.unsent) t
    comes =
        let is : t ≡ edge.received s own.id c (prefix ++ own.unsent) replied.decided =
        sym (ap₂ (λ (m : History) (d : Connection). edge.with_connection (edge.with_machine s m) own.id d) replied.still replied.answers) in
        let on : ComesOn s own.id c c.phase own.unsent t = subst (λ (p : Phase). ComesOn s own.id c p own.unsent t) (sym waits) (replied.decided, replied.asks, is) in
        subst (λ (o : Option Connection). ComesBy s own.id o own.unsent t) (sym got) (on.0, on.1, on.2)

    abbrev rest : ClientConnection
    rest = record own { unsent = drop (length own.unsent) own.unsent }

    abbrev mid : World
    mid = record { hub = t; requested = requested; client = asking cache sync true []; connection = Some rest }

    there : fin.get t.connections own.id ≡ Some answered
    there = put_there s.connections own.id answered

    -- the reply is still to come
    not_over : is_over (record { hub = t; requested = requested; client = reads; connection = Some own }) rest ≡ false
    not_over =
        ap (λ (o : Option Connection). unwrap_or (option_map (λ c. has_ended c.phase) o) false && nat_le (length (unwrap_or (option_map (λ c. c.written) o) [])) own.handed) there
        ∙ lt-leb (length answered.written) own.handed unread

    goes_on : record { hub = t; requested = requested; client = reads; connection = Some rest } ≡ after_move (record { hub = t; requested = requested; client = reads; connection = Some own }) rest
    goes_on = sym (ap (λ (x : Bool). record { hub = t; requested = requested; client = cond x (closed reads) reads; connection = Some rest }) not_over)

    ids_stay : highest (fin.keys t.connections) ≤ highest (fin.keys s.connections)
    ids_stay =
        let q : ℕ = highest (fin.keys s.connections) + 1 in
        let new : is_new t.connections q ≡ true = new_still s.connections own.id q c answered got ∙ above_all (fin.keys s.connections) q (omega arith) in
        let low : highest (fin.keys t.connections) < q = below_all (fin.keys t.connections) q (omega arith) new in
        omega (arith, low)

    elsewhere : (q : ℕ) → is_own (Some own) q ≡ false → q ≢ own.id
    elsewhere q isnt same = true≢false (sym (eq-eqb own.id q (sym same)) ∙ isnt)

    module _ (b : ℕ) (bs : List ℕ) (some : own.unsent ≡ b ∷ bs) where
      sends_next : next_move w ≡ Some (to_server (length own.unsent))
      sends_next =
          next_by ∙ ap (λ (x : Bool). Some (moves_by x (nat_lt 0 (length own.unsent)))) none_written
          ∙ ap (λ (x : Bool). Some (moves_by false x)) (ap (λ (l : List ℕ). nat_lt 0 (length l)) some ∙ lt-ltb 0 (length (b ∷ bs)) (omega arith))

      piece_is : take (length own.unsent) own.unsent ≡ b ∷ bs
      piece_is = take_all (length own.unsent) own.unsent (le_refl (length own.unsent)) ∙ some

      delivers : Delivers w own (length own.unsent) (take (length own.unsent) own.unsent) (record mid { client = reads })
      delivers = subst (λ (piece : List ℕ). Delivers w own (length own.unsent) piece (record mid { client = reads })) (sym piece_is)
          (record w { hub = t }, (t, subst (λ (l : List ℕ). runs.Steps s (edge.comes own.id l) t) some comes, refl), goes_on)

      one : MovesOn task w mid
      one = record {
        move = to_server (length own.unsent);
        is_next = sends_next;
        steps = (record mid { client = reads }, delivers, refl);
        machine = refl;
        types = refl;
        tick = refl;
        others = λ q d found isnt. put_elsewhere s.connections own.id q answered (elsewhere q isnt) ∙ found;
        remain = λ q isnt. isnt;
        ids = ids_stay;
        room = closed_count s.connections own.id answered refl;
      }

-- and then the reply comes

module _ (task : Task) (i : ℕ) (s : edge.State) (requested : List ℕ) (cache : Option Cache) (sync : SyncPhase) (notices : List Notice) (own : ClientConnection) (c : Connection)
    (got : fin.get s.connections own.id ≡ Some c) (behind : is_at s.machine.current cache ≡ false) (recent : is_old s.machine.current sync ≡ false)
    (prefix : List ℕ) (waits : c.phase ≡ waiting prefix) (unwritten : c.written ≡ []) (within : own.handed ≤ length c.written) (replied : IsRepliedTo s c (prefix ++ own.unsent)) where
  abbrev awaits : World
  awaits = record { hub = s; requested = requested; client = asking cache sync true notices; connection = Some own }

  abbrev reply : Connection
  reply = answered task s requested cache sync notices own c got behind recent prefix waits unwritten within replied

  abbrev after : edge.State
  after = edge.with_connections s (fin.insert s.connections own.id reply)

  begun : Items (take own.handed reply.written) []
  begun = subst (λ (k : ℕ). Items (take k reply.written) []) (sym (at_start task s requested cache sync notices own c got behind recent prefix waits unwritten within replied)) nothing_read

  whole : Items reply.written replied.items
  whole = subst (λ (l : List ℕ). Items l replied.items) (sym (written_is task s requested cache sync notices own c got behind recent prefix waits unwritten within replied)) replied.reads

  by_left : (l : List ℕ) → own.unsent ≡ l → Ends task i awaits
  by_left [] is =
      by_one task i awaits (is_cut task s requested cache sync notices own c got behind recent (none_written task s requested cache sync notices own c got behind recent prefix waits unwritten within replied)
      (ap (λ (l : List ℕ). nat_lt 0 (length l)) is) (ap (wait_by awaits own.id) waits))
  by_left (b ∷ bs) is =
      by_two task i awaits (mid task s requested cache sync notices own c got behind recent prefix waits unwritten within replied)
      (one task s requested cache sync notices own c got behind recent prefix waits unwritten within replied b bs is)
      (ends task after requested cache sync [] (record own { unsent = drop (length own.unsent) own.unsent }) reply (put_there s.connections own.id reply) behind recent refl [] replied.items begun whole)

  pub replied_ends : Ends task i awaits
  replied_ends = by_left own.unsent refl

-- ---- by how its connection stands

recent_by : (current : ℕ) (sync : SyncPhase) → IsListPhase current sync → is_old current sync ≡ false
recent_by current first phase = refl
recent_by current (next r token paged) same = ap not (eq-eqb r current same)
recent_by current streaming phase = refl

lists_all : (current : ℕ) (sync : SyncPhase) → IsListPhase current sync → sync ≡ streaming → ⊥
lists_all current first phase is = cc
lists_all current (next r token paged) phase is = cc
lists_all current streaming phase is = phase

module _ (laws : Laws) (task : Task) (i : ℕ) (w : World) (known : IsKnown task w) (awaits : w.client.is_awaiting_reply ≡ true) (phase : IsListPhase w.hub.machine.current w.client.sync)
    (behind : is_at w.hub.machine.current w.client.cache ≡ false) where
  abbrev all : Connections
  all = w.hub.connections

  abbrev sync : SyncPhase
  sync = w.client.sync

  abbrev on : Option ClientConnection → World
  on own = record { hub = w.hub; requested = w.requested; client = asking w.client.cache sync true w.client.notices; connection = own }

  recent : is_old w.hub.machine.current sync ≡ false
  recent = recent_by w.hub.machine.current sync phase

  module _ (own : ClientConnection) (c : Connection) (got : fin.get all own.id ≡ Some c) (is : IsServed task w.hub.machine known.highest w.client own c) where
    by_phase : (st : Phase) → c.phase ≡ st → ReadInvariant task w.hub.machine w.client own.unsent is.to (is.sent ++ is.coming) c.written st → IsHeld sync st → Ends task i (on (Some own))
    by_phase (waiting prefix) stands (unwritten, is_request) held =
        replied_ends task i w.hub w.requested w.client.cache sync w.client.notices own c got behind recent prefix stands unwritten is.within
        (replied_to laws task w.hub known.follows.task_is known.follows.machine c (prefix ++ own.unsent) known.highest sync w.client.cache phase is.follows.sync (option_map (λ now. now.revision) w.client.cache) is_request)
    by_phase (watching watch) stands invariant held = absurd (lists_all w.hub.machine.current sync phase held)
    by_phase ended stands invariant held =
        by_one task i (on (Some own)) (ends task w.hub w.requested w.client.cache sync w.client.notices own c got behind recent stands is.sent is.coming is.read is.all)
    by_phase (gone had_ended) stands invariant held = absurd held

  by_connection : (own : ClientConnection) (o : Option Connection) → fin.get all own.id ≡ o → IsServedOn task w.hub.machine known.highest w.client own o → IsHeldBy sync o → Ends task i (on (Some own))
  by_connection own None got is held = absurd is
  by_connection own (Some c) got is held = by_phase own c got is c.phase refl is.represents held

  by_own : (own : Option ClientConnection) → Goes task w.hub.machine known.highest w.client true own all → IsHeldOn sync all own → Ends task i (on own)
  by_own None is held = absurd is
  by_own (Some own) is held = by_connection own (fin.get all own.id) refl is held

  pub reply_ends : Ends task i w
  reply_ends =
      subst (λ (b : Bool). Ends task i (record { hub = w.hub; requested = w.requested; client = asking w.client.cache sync b w.client.notices; connection = w.connection })) (sym awaits)
      (by_own w.connection (subst (λ (b : Bool). Goes task w.hub.machine known.highest w.client b w.connection all) awaits known.follows.goes) (known.held awaits))

pub replies_end : Laws → RepliesEnd
replies_end laws types task before w earlier shapes is run awaits phase behind =
    reply_ends laws task (suc (length before)) w (known_after laws task types before w earlier shapes is run) awaits phase behind
