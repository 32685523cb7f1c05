-- What holds of a hub and a client holds after each event of the world.
use Rattle.std.proofs.Common.{◌≡◌, inl, inr, ℕ, ◌+◌, ◌≤◌, Bool, true, false, List, [], ◌∷◌, ◌++◌, length, take, drop, Option, Some, None, refl, sym, ap, subst, ◌∙◌, arith}
use Rattle.std.specs.FinMap as fin
use Rattle.std.specs.Prelude.{nat_le, if◌then◌else◌}
use Rattle.history.specs.History.{History}
use Rattle.api_request.specs.Reasons.{code_of}
use Rattle.requests.specs.Refusals.{as_denied, too_many_connections}
use Rattle.requests.specs.Replies.{refusal_reply}
use Rattle.httpedge.proofs.NextIds.{next_is_new}
use Rattle.httpedge.specs.Connections.{Connection, Connections, Phase, ended, gone, is_new, max_open, next_id, open_count, new_connection, waiting, watching, with_written}
use Rattle.httpedge.specs.Runs as runs
use Rattle.httpedge.specs.Steps as edge
use Rattle.reflector.specs.Client.{Cache, Client}
use Rattle.reflector.specs.FollowsLaws.{Follows}
use Rattle.reflector.specs.Requests.{request_of}
use Rattle.reflector.specs.Run.{asked, closed, restarted, taken}
use Rattle.wireclient.specs.Reply.{ReplyItem, head}
use Rattle.wire_laws.proofs.BegunAnswers.{opens_so}
use Rattle.world_laws.proofs.Edges.{goes_new}
use Rattle.world_laws.proofs.RunInvariant.{Goes, RunInvariant, IsServed, IsServedOn, ReadInvariant}
use Rattle.world_laws.proofs.Mirror.{server_of}
use Rattle.world_laws.proofs.Moving.{GoesHigher, NotBy, closed_goes, closed_silent, goes_follows, goes_received, holds_after, holds_by_others, holds_came, new_apart, not_by, silent_goes, sent_goes}
use Rattle.world_laws.proofs.Laws.{Laws}
use Rattle.world_laws.proofs.Sending.{nothing_comes, nothing_read, refusal_comes}
use Rattle.world_laws.specs.Tasks.{Task, client_settings, wanted_by}
use Rattle.world_laws.specs.World.{ClientConnection, ComesInOnePiece, Cuts, Delivers, Hands, Happens, HubTakes, Leaves, Reconciles, Requests, Sends, Steps, TakesUnless, ToClient, ToServer, World, WorldEvent, after_move, cut, is_by_peer_on, is_over, other, reconcile, reply_on, request, restart, send, to_client, to_server}

-- ---- the events

module _ (laws : Laws) (task : Task) where
  -- it holds on, from a revision that isn't below
  abbrev pub HoldsOn : ℕ → World → Type 0
  HoldsOn m v = (n : ℕ) × (m ≤ n) × RunInvariant task n v

  on_as_before : (m : ℕ) (v : World) → RunInvariant task m v → HoldsOn m v
  on_as_before m v is = (m, omega arith, is)

  same_holds : (m : ℕ) (w v : World) → v ≡ w → RunInvariant task m w → RunInvariant task m v
  same_holds m w v same is = subst (RunInvariant task m) (sym same) is

  -- other peers

  takes_hold : (m : ℕ) (w v : World) (e : edge.Event) → is_by_peer_on w.connection e ≡ false → RunInvariant task m w → HubTakes w e v → RunInvariant task m v
  takes_hold m w v e isnt is (t, steps, same) =
      same_holds m (record w { hub = t }) v same (holds_by_others laws task m w e t w.requested is (not_by w.client.is_awaiting_reply w.connection e isnt) steps)

  unless_hold : (m : ℕ) (w v : World) (b : Bool) (e : edge.Event) → is_by_peer_on w.connection e ≡ b → RunInvariant task m w → TakesUnless b w e v → RunInvariant task m v
  unless_hold m w v true e by is same = same_holds m w v same is
  unless_hold m w v false e by is takes = takes_hold m w v e by is takes

  -- the client's connection is another one
  comes_hold : (m : ℕ) (w v : World) (id : ℕ) (bytes : List ℕ) → is_new w.hub.connections id ≡ true → RunInvariant task m w → ComesInOnePiece w id bytes v → RunInvariant task m v
  comes_hold m w v id bytes new is (mid, (s, opens, is_mid), (t, comes, same)) =
      let apart = new_apart task w.hub.machine m w.client w.client.is_awaiting_reply w.connection w.hub.connections id new is.goes in
      let first : RunInvariant task m (record w { hub = s }) = holds_by_others laws task m w (edge.opens id) s w.requested is apart opens in
      let second : RunInvariant task m (record w { hub = t }) = holds_by_others laws task m (record w { hub = s }) (edge.comes id bytes) t w.requested first
      (apart_comes w.client.is_awaiting_reply w.connection apart) (subst (λ (x : World). runs.Steps x.hub (edge.comes id bytes) t) is_mid comes) in
      same_holds m (record w { hub = t }) v (same ∙ ap (λ (x : World). record x { hub = t }) is_mid) second
    where
      apart_comes : (b : Bool) (own : Option ClientConnection) → NotBy b own (edge.opens id) → NotBy b own (edge.comes id bytes)
      apart_comes false own isnt = tt
      apart_comes true None isnt = tt
      apart_comes true (Some own) isnt = isnt

  requests_hold : (m : ℕ) (w v : World) (id : Option ℕ) (bytes : List ℕ) → next_id w.hub.connections ≡ id → RunInvariant task m w → Requests w id bytes v → RunInvariant task m v
  requests_hold m w v None bytes is_next is same = same_holds m w v same is
  requests_hold m w v (Some id) bytes is_next is comes =
      comes_hold m (record w { requested = w.requested ++ id ∷ [] }) v id bytes (next_is_new w.hub.connections id is_next)
      (record { begun = is.begun; task_is = is.task_is; machine = is.machine; goes = is.goes }) comes

  reconciles_hold : (m : ℕ) (w v : World) (now : Option Cache) (id : Option ℕ) → next_id w.hub.connections ≡ id → RunInvariant task m w → Reconciles task w now id v → RunInvariant task m v
  reconciles_hold m w v None id is_next is same = same_holds m w v same is
  reconciles_hold m w v (Some now) None is_next is same = same_holds m w v same is
  reconciles_hold m w v (Some now) (Some id) is_next is comes = comes_hold m w v id _ (next_is_new w.hub.connections id is_next) is comes

  -- the client leaves its connection

  -- a client that asks nothing follows on
  pub record Left (m : ℕ) (w v : World) : Type 0 where
    holds : RunInvariant task m v
    same : v.client ≡ w.client
    new : (id : ℕ) → is_new v.hub.connections id ≡ is_new w.hub.connections id

  leaves_hold : (m : ℕ) (w v : World) (own : Option ClientConnection) → w.client.is_awaiting_reply ≡ false → RunInvariant task m w → Leaves w own v → Left m w v
  leaves_hold m w v None silent is same = record { holds = same_holds m w v same is; same = ap (λ (x : World). x.client) same; new = λ id. ap (λ (x : World). is_new x.hub.connections id) same }
  leaves_hold m w v (Some own) silent is (t, steps, same) =
      let any = goes_follows task w.hub.machine m w.client w.client.is_awaiting_reply w.connection w.hub.connections is.goes in
      record {
        holds = same_holds m (record w { connection = None; hub = t }) v same (holds_after laws task m m w (edge.goes own.id) t w.client None w.requested is (omega arith) steps
            (silent_goes task w.hub.machine m w.client None t.connections any.0 any.1 silent any.2));
        same = ap (λ (x : World). x.client) same;
        new = λ id. ap (λ (x : World). is_new x.hub.connections id) same ∙ goes_new w.hub t own.id id steps;
      }

  with_client : (m : ℕ) (w : World) (c : Client) → RunInvariant task m w → Goes task w.hub.machine m c c.is_awaiting_reply w.connection w.hub.connections → RunInvariant task m (record w { client = c })
  with_client m w c is goes = record { begun = is.begun; task_is = is.task_is; machine = is.machine; goes = goes }

  cuts_hold : (m : ℕ) (w v : World) (own : Option ClientConnection) → RunInvariant task m w → Cuts w own v → RunInvariant task m v
  cuts_hold m w v None is same = same_holds m w v same is
  cuts_hold m w v (Some own) is leaves =
      (leaves_hold m (record w { client = closed w.client }) v (Some own) (closed_silent w.client)
      (with_client m w (closed w.client) is (closed_goes task w.hub.machine m laws w.client w.client.is_awaiting_reply w.connection w.connection w.hub.connections w.hub.connections is.goes)) leaves).holds

  restarts_hold : (m : ℕ) (w v : World) → RunInvariant task m w → Leaves (record w { client = restarted w.client }) w.connection v → RunInvariant task m v
  restarts_hold m w v is leaves =
      let any = goes_follows task w.hub.machine m w.client w.client.is_awaiting_reply w.connection w.hub.connections is.goes in
      (leaves_hold m (record w { client = restarted w.client }) v w.connection refl
      (with_client m w (restarted w.client) is (laws.client.is_restarted (server_of task w.hub.machine) (wanted_by task) m w.client [] 0 any.2.low)) leaves).holds

  -- the client asks

  -- its connection is open, or too many were
  opening_served : (h : History) (m : ℕ) (c : Client) (id : ℕ) (b : Bool) (bytes : List ℕ) → bytes ≡ request_of (client_settings task) c → Follows (server_of task h) (wanted_by task) m c [] 0
      → IsServed task h m (asked c) (record { id = id; unsent = bytes; handed = 0 }) (if b then with_written new_connection (refusal_reply (as_denied too_many_connections)) ended else new_connection)
  opening_served h m c id false bytes is_request follows =
      let nothing = nothing_comes (server_of task h) (wanted_by task) m c.sync c.cache follows.low follows.cache in
      record {
        within = omega arith;
        sent = [];
        coming = [];
        to = nothing.0;
        read = nothing_read;
        all = nothing_read;
        follows = laws.client.is_asked (server_of task h) (wanted_by task) m c [] [] 0 nothing.0 follows nothing.1;
        represents = (refl, is_request);
      }
  opening_served h m c id true bytes is_request follows =
      let status : ℕ = code_of (as_denied too_many_connections).reason in
      let items : List ReplyItem = head status ∷ laws.full.0 in
      record {
        within = omega arith;
        sent = [];
        coming = items;
        to = 0;
        read = nothing_read;
        all = laws.full.1;
        follows = laws.client.is_asked (server_of task h) (wanted_by task) m c [] items 0 0 follows (refusal_comes (server_of task h) (wanted_by task) m c.sync c.cache status laws.full.0 0 refl);
        represents = tt;
      }

  opens_hold : (m : ℕ) (w : World) (id : ℕ) (bytes : List ℕ) (t : edge.State) → w.client.is_awaiting_reply ≡ false → is_new w.hub.connections id ≡ true → bytes ≡ request_of (client_settings task) w.client → RunInvariant task m w
      → runs.Steps w.hub (edge.opens id) t
      → RunInvariant task m (record { hub = t; requested = w.requested; client = asked w.client; connection = Some (record { id = id; unsent = bytes; handed = 0 }) })
  opens_hold m w id bytes t silent new is_request is steps =
      let own : ClientConnection = record { id = id; unsent = bytes; handed = 0 } in
      let follows = subst (λ (b : Bool). Goes task w.hub.machine m w.client b w.connection w.hub.connections) silent is.goes in
      holds_after laws task m m w (edge.opens id) t (asked w.client) (Some own) w.requested is (omega arith) steps
      (subst (IsServedOn task w.hub.machine m (asked w.client) own) (sym (opens_so w.hub t id new steps))
      (opening_served w.hub.machine m w.client id (nat_le max_open (open_count w.hub.connections)) bytes is_request follows))

  sends_hold : (m : ℕ) (w v : World) (id : ℕ) (bytes : List ℕ) → w.client.is_awaiting_reply ≡ false → is_new w.hub.connections id ≡ true → bytes ≡ request_of (client_settings task) w.client → RunInvariant task m w
      → Sends w (Some id) (Some bytes) v → RunInvariant task m v
  sends_hold m w v id bytes silent new is_request is (alone, mid, leaves, (t, steps, is_mid), same) =
      let left = leaves_hold m w alone w.connection silent is leaves in
      let own : ClientConnection = record { id = id; unsent = bytes; handed = 0 } in
      let f : World → World = λ x. record x { client = asked x.client; connection = Some own } in
      same_holds m (f (record alone { hub = t })) v (same ∙ ap f is_mid)
      (opens_hold m alone id bytes t (ap (λ (c : Client). c.is_awaiting_reply) left.same ∙ silent) (left.new id ∙ new) (is_request ∙ ap (request_of (client_settings task)) (sym left.same)) left.holds steps)

  send_by : (m : ℕ) (w v : World) (id : Option ℕ) (b : Bool) → next_id w.hub.connections ≡ id → w.client.is_awaiting_reply ≡ b → RunInvariant task m w → Sends w id (if b then None else Some (request_of (client_settings task) w.client)) v → RunInvariant task m v
  send_by m w v None b is_next asks is same = same_holds m w v same is
  send_by m w v (Some id) true is_next asks is same = same_holds m w v same is
  send_by m w v (Some id) false is_next asks is sends = sends_hold m w v id (request_of (client_settings task) w.client) asks (next_is_new w.hub.connections id is_next) refl is sends

  -- bytes move

  -- where the reply is over the client is told
  moved_holds : (m : ℕ) (w : World) (own : ClientConnection) → w.connection ≡ Some own → RunInvariant task m w → RunInvariant task m (after_move w own)
  moved_holds m w own has is =
      let there : Goes task w.hub.machine m w.client w.client.is_awaiting_reply (Some own) w.hub.connections = subst (λ (o : Option ClientConnection). Goes task w.hub.machine m w.client w.client.is_awaiting_reply o w.hub.connections) has is.goes in
      record {
        begun = is.begun;
        task_is = is.task_is;
        machine = is.machine;
        goes = sent_goes task w.hub.machine m laws w.client (is_over w own) (Some own) w.hub.connections there;
      }

  delivers_hold : (m : ℕ) (w v : World) (own : ClientConnection) (n : ℕ) (piece : List ℕ) → take n own.unsent ≡ piece → w.connection ≡ Some own → RunInvariant task m w → Delivers w own n piece v → RunInvariant task m v
  delivers_hold m w v own n [] is_piece has is same = same_holds m w v same is
  delivers_hold m w v own n (b ∷ bs) is_piece has is (mid, (t, steps, is_mid), same) =
      let rest : ClientConnection = record own { unsent = drop n own.unsent } in
      let x : World = record { hub = t; requested = w.requested; client = w.client; connection = Some rest } in
      let came : RunInvariant task m x = holds_came laws task m w own n (b ∷ bs) t is_piece has is steps in
      same_holds m (after_move x rest) v (same ∙ ap (λ (y : World). after_move y rest) is_mid) (moved_holds m x rest refl came)

  to_server_hold : (m : ℕ) (w v : World) (n : ℕ) (own : Option ClientConnection) → w.connection ≡ own → RunInvariant task m w → ToServer w n own v → RunInvariant task m v
  to_server_hold m w v n None has is same = same_holds m w v same is
  to_server_hold m w v n (Some own) has is delivers = delivers_hold m w v own n (take n own.unsent) refl has is delivers

  hands_hold : (m : ℕ) (w v : World) (own : ClientConnection) (n : ℕ) (piece : List ℕ) → take n (drop own.handed (reply_on w own)) ≡ piece → w.connection ≡ Some own → RunInvariant task m w
      → Hands (wanted_by task) w own piece v → HoldsOn m v
  hands_hold m w v own n [] is_piece has is same = on_as_before m v (same_holds m w v same is)
  hands_hold m w v own n (b ∷ bs) is_piece has is (d, receives, same) =
      let rest : ClientConnection = record own { handed = own.handed + length (b ∷ bs) } in
      let there : Goes task w.hub.machine m w.client w.client.is_awaiting_reply (Some own) w.hub.connections = subst (λ (o : Option ClientConnection). Goes task w.hub.machine m w.client w.client.is_awaiting_reply o w.hub.connections) has is.goes in
      let on : GoesHigher task w.hub.machine m d (Some rest) w.hub.connections = goes_received laws task w.hub.machine m w.client w.client.is_awaiting_reply own w.hub.connections n b bs d refl is_piece receives there in
      let begun : 1 ≤ m = is.begun in
      let higher : m ≤ on.0 = on.1 in
      let x : World = record w { client = d; connection = Some rest } in
      let received : RunInvariant task on.0 x = record { begun = omega (arith, begun, higher); task_is = is.task_is; machine = is.machine; goes = on.2 } in
      (on.0, higher, same_holds on.0 (after_move x rest) v same (moved_holds on.0 x rest refl received))

  to_client_hold : (m : ℕ) (w v : World) (n : ℕ) (own : Option ClientConnection) → w.connection ≡ own → RunInvariant task m w → ToClient (wanted_by task) w n own v → HoldsOn m v
  to_client_hold m w v n None has is same = on_as_before m v (same_holds m w v same is)
  to_client_hold m w v n (Some own) has is hands = hands_hold m w v own n (take n (drop own.handed (reply_on w own))) refl has is hands

  -- ---- one event

  happens_hold : (m : ℕ) (w v : World) (e : WorldEvent) → RunInvariant task m w → Happens task w e v → HoldsOn m v
  happens_hold m w v (other e) is takes =
      on_as_before m v (unless_hold m w v (is_by_peer_on w.connection e) e refl is takes)
  happens_hold m w v (request bytes) is requests = on_as_before m v (requests_hold m w v (next_id w.hub.connections) bytes refl is requests)
  happens_hold m w v send is sends = on_as_before m v (send_by m w v (next_id w.hub.connections) w.client.is_awaiting_reply refl refl is sends)
  happens_hold m w v (to_server n) is moves = on_as_before m v (to_server_hold m w v n w.connection refl is moves)
  happens_hold m w v (to_client n) is moves = to_client_hold m w v n w.connection refl is moves
  happens_hold m w v cut is cuts = on_as_before m v (cuts_hold m w v w.connection is cuts)
  happens_hold m w v restart is leaves = on_as_before m v (restarts_hold m w v is leaves)
  happens_hold m w v reconcile is reconciles = on_as_before m v (reconciles_hold m w v w.client.cache (next_id w.hub.connections) refl is reconciles)

  taken_served : (h : History) (m : ℕ) (c : Client) (own : ClientConnection) (o : Option Connection) → IsServedOn task h m c own o → IsServedOn task h m (taken c) own o
  taken_served h m c own None is = is
  taken_served h m c own (Some conn) is =
      record {
        within = is.within;
        sent = is.sent;
        coming = is.coming;
        to = is.to;
        read = is.read;
        all = is.all;
        follows = laws.client.is_taken (server_of task h) (wanted_by task) m c is.coming is.to is.follows;
        represents = represents_taken is.to (is.sent ++ is.coming) conn.written conn.phase is.represents;
      }
    where
      represents_taken : (to : ℕ) (items : List ReplyItem) (written : List ℕ) (st : Phase) → ReadInvariant task h c own.unsent to items written st → ReadInvariant task h (taken c) own.unsent to items written st
      represents_taken to items written (waiting prefix) is = is
      represents_taken to items written (watching w) (inl reads_on) =
          inl (record { own = reads_on.own; position = reads_on.position; come = reads_on.come; sync = reads_on.sync; texts = reads_on.texts; lines = reads_on.lines; is_written = reads_on.is_written; are = reads_on.are })
      represents_taken to items written (watching w) (inr closed) = inr closed
      represents_taken to items written ended is = tt
      represents_taken to items written (gone had_ended) is = tt

  taken_goes : (h : History) (m : ℕ) (c : Client) (b : Bool) (own : Option ClientConnection) (all : Connections) → Goes task h m c b own all → Goes task h m (taken c) b own all
  taken_goes h m c false own all is = laws.client.is_taken (server_of task h) (wanted_by task) m c [] 0 is
  taken_goes h m c true None all is = is
  taken_goes h m c true (Some own) all is = taken_served h m c own (fin.get all own.id) is

  pub steps_hold : (m : ℕ) (w v : World) (e : WorldEvent) → RunInvariant task m w → Steps task w e v → HoldsOn m v
  steps_hold m w v e is (mid, happens, same) =
      let on : HoldsOn m mid = happens_hold m w mid e is happens in (
        on.0,
        on.1,
        same_holds on.0 (record mid { client = taken mid.client }) v same
            (with_client on.0 mid (taken mid.client) on.2 (taken_goes mid.hub.machine on.0 mid.client mid.client.is_awaiting_reply mid.connection mid.hub.connections on.2.goes)),
      )
