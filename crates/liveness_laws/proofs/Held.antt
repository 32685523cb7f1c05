-- The connection on which a client awaits a reply: nobody has left it, and where the reply is a list it doesn't watch.
use Rattle.std.proofs.Common.{◌≡◌, ◌⊎◌, inl, inr, ℕ, ◌+◌, ◌≤◌, Bool, true, false, List, [], ◌∷◌, ◌++◌, drop, length, take, Option, Some, None, option_map, refl, sym, ap, subst, ◌∙◌, append_assoc, ne_eqb, take-append-drop, true≢false}
use Rattle.std.specs.FinMap as fin
use Rattle.std.specs.Prelude.{nat_le, if◌then◌else◌, ⊤}
use Rattle.api_types.specs.TypesFile.{ServedShape}
use Rattle.history.specs.History.{History}
use Rattle.verbs.specs.Machine.{IsMachine}
use Rattle.verbs.specs.Step.{planned}
use Rattle.answers.specs.WatchFrom.{WatchFrom}
use Rattle.api_request.specs.Calls.{Call, at_tick}
use Rattle.requests.proofs.Deciding.{asks_more, asks_one}
use Rattle.requests.specs.Asks.{Asks, CallDecision}
use Rattle.requests.specs.Decision.{accepted, refused, undecided}
use Rattle.requests.specs.Refusals.{as_denied, head_too_large, refuse, too_many_connections}
use Rattle.requests.specs.Replies.{refusal_reply}
use Rattle.httpedge.proofs.Connected.{unknown}
use Rattle.httpedge.proofs.NextIds.{next_is_new}
use Rattle.httpedge.specs.Connections.{Connection, Connections, Phase, ended, gone, is_new, max_open, new_connection, next_id, open_count, waiting, watching, with_written}
use Rattle.httpedge.specs.Runs as runs
use Rattle.httpedge.specs.Steps as edge
use Rattle.httpedge.specs.Watches.{Watch}
use Rattle.decoder.specs.Wanted.{Wanted}
use Rattle.reflector.proofs.Reached.{all_stay}
use Rattle.reflector.specs.Client.{Cache, Client, SyncPhase, first, next, streaming}
use Rattle.reflector.specs.FollowsLaws.{IsSyncSound}
use Rattle.reflector.specs.InformerViews.{due}
use Rattle.reflector.specs.Requests.{query_at, request_of}
use Rattle.reflector.specs.Run.{asked, closed, restarted}
use Rattle.wire_laws.proofs.BegunAnswers.{opens_so}
use Rattle.wire_laws.proofs.Listings.{lists_at}
use Rattle.world_laws.proofs.Asking.{asks_first, asks_next}
use Rattle.world_laws.proofs.Edges.{CameOn, StaysOrTurns, came, goes_new, stays_or_turns}
use Rattle.world_laws.proofs.Mirror.{server_of}
use Rattle.world_laws.proofs.Moving.{closed_silent}
use Rattle.world_laws.proofs.Pages.{first_page_comes, next_page_comes}
use Rattle.world_laws.proofs.Passes.{AsksFor, IsListCall, IsNextCall, request_with}
use Rattle.world_laws.proofs.RunInvariant.{Goes, IsServed, IsServedOn, ReadInvariant, RunInvariant}
use Rattle.world_laws.specs.Tasks.{IsStillTask, Task, client_settings, wanted_by, with_shape}
use Rattle.world_laws.specs.World.{ClientConnection, ComesInOnePiece, Cuts, Delivers, Hands, Happens, HubTakes, Leaves, Receives, Reconciles, Requests, Sends, Steps, TakesUnless, ToClient, ToServer, World, WorldEvent, after_move, cut, is_by_peer_on, is_over, other, reconcile, reply_on, request, restart, send, to_client, to_server}

abbrev pub IsHeld : SyncPhase → Phase → Type 0
IsHeld sync (waiting bytes) = ⊤
IsHeld sync (watching w) = sync ≡ streaming
IsHeld sync ended = ⊤
IsHeld sync (gone had_ended) = ⊥

abbrev pub IsHeldBy : SyncPhase → Option Connection → Type 0
IsHeldBy sync None = ⊥
IsHeldBy sync (Some c) = IsHeld sync c.phase

abbrev pub IsHeldOn : SyncPhase → Connections → Option ClientConnection → Type 0
IsHeldOn sync all None = ⊥
IsHeldOn sync all (Some own) = IsHeldBy sync (fin.get all own.id)

-- where a reply is awaited
abbrev pub IsHeldIn : World → Type 0
IsHeldIn w = w.client.is_awaiting_reply ≡ true → IsHeldOn w.client.sync w.hub.connections w.connection

same : (w v : World) → v ≡ w → IsHeldIn w → IsHeldIn v
same w v is h = subst IsHeldIn (sym is) h

pub silent : (v : World) → v.client.is_awaiting_reply ≡ false → IsHeldIn v
silent v is awaits = absurd (true≢false (sym awaits ∙ is))

-- ---- an event of another peer

module _ (sync : SyncPhase) where
  after_turn : (o : Option Watch) → sync ≡ streaming → IsHeld sync (edge.phase_after o)
  after_turn None is = tt
  after_turn (Some w) is = is

  turned : (s : edge.State) (c : Connection) (o : Option Connection) → IsHeld sync c.phase → StaysOrTurns s c o → IsHeldBy sync o
  turned s c o held (inl stays) = subst (IsHeldBy sync) (sym stays) held
  turned s c o held (inr has) = subst (IsHeldBy sync) (sym has.is) (after_turn has.turn.next (subst (IsHeld sync) has.watches held))

  by_others : (s t : edge.State) (e : edge.Event) (own : ClientConnection) (o : Option Connection) → fin.get s.connections own.id ≡ o → is_by_peer_on (Some own) e ≡ false → runs.Steps s e t
      → IsHeldBy sync o → IsHeldBy sync (fin.get t.connections own.id)
  by_others s t e own None got isnt steps held = absurd held
  by_others s t e own (Some c) got isnt steps held = turned s c (fin.get t.connections own.id) held (stays_or_turns s t own e c isnt got steps)

  on_others : (s t : edge.State) (e : edge.Event) (own : Option ClientConnection) → is_by_peer_on own e ≡ false → runs.Steps s e t → IsHeldOn sync s.connections own → IsHeldOn sync t.connections own
  on_others s t e None isnt steps held = absurd held
  on_others s t e (Some own) isnt steps held = by_others s t e own (fin.get s.connections own.id) refl isnt steps held

  -- a new id isn't the client's
  new_opens : (all : Connections) (own : Option ClientConnection) (id : ℕ) → next_id all ≡ Some id → IsHeldOn sync all own → is_by_peer_on own (edge.opens id) ≡ false
  new_opens all None id is held = absurd held
  new_opens all (Some own) id is held = go (fin.get all own.id) refl held
    where
      go : (o : Option Connection) → fin.get all own.id ≡ o → IsHeldBy sync o → is_by_peer_on (Some own) (edge.opens id) ≡ false
      go None got held = absurd held
      go (Some c) got held = ne_eqb own.id id (λ one. none_there (unknown all id (Some c) (ap (fin.get all) (sym one) ∙ got) (next_is_new all id is)))
        where
          none_there : Some c ≡ None → ⊥
          none_there e = cc

  new_comes : (own : Option ClientConnection) (id : ℕ) (bytes : List ℕ) → is_by_peer_on own (edge.opens id) ≡ false → is_by_peer_on own (edge.comes id bytes) ≡ false
  new_comes None id bytes isnt = refl
  new_comes (Some own) id bytes isnt = isnt

takes : (w v : World) (e : edge.Event) → is_by_peer_on w.connection e ≡ false → HubTakes w e v → IsHeldIn w → IsHeldIn v
takes w v e isnt (t, steps, is) h = same (record w { hub = t }) v is (λ awaits. on_others w.client.sync w.hub t e w.connection isnt steps (h awaits))

unless : (b : Bool) (w v : World) (e : edge.Event) → is_by_peer_on w.connection e ≡ b → TakesUnless b w e v → IsHeldIn w → IsHeldIn v
unless true w v e by is h = same w v is h
unless false w v e by comes h = takes w v e by comes h

in_one_piece : (w v : World) (id : ℕ) (bytes : List ℕ) → next_id w.hub.connections ≡ Some id → ComesInOnePiece w id bytes v → IsHeldIn w → IsHeldIn v
in_one_piece w v id bytes next_is (mid, (s, opens, is_mid), (t, comes, is)) h =
    same (record w { hub = t }) v (is ∙ ap (λ (x : World). record x { hub = t }) is_mid) (λ awaits.
    let held = h awaits in
    let isnt = new_opens w.client.sync w.hub.connections w.connection id next_is held in
    on_others w.client.sync s t (edge.comes id bytes) w.connection (new_comes w.client.sync w.connection id bytes isnt) (subst (λ (x : World). runs.Steps x.hub (edge.comes id bytes) t) is_mid comes)
    (on_others w.client.sync w.hub s (edge.opens id) w.connection isnt opens held))

requests : (w v : World) (id : Option ℕ) (bytes : List ℕ) → next_id w.hub.connections ≡ id → Requests w id bytes v → IsHeldIn w → IsHeldIn v
requests w v None bytes next_is is h = same w v is h
requests w v (Some id) bytes next_is comes h = in_one_piece (record w { requested = w.requested ++ id ∷ [] }) v id bytes next_is comes h

reconciles : (task : Task) (w v : World) (cache : Option Cache) (id : Option ℕ) → next_id w.hub.connections ≡ id → Reconciles task w cache id v → IsHeldIn w → IsHeldIn v
reconciles task w v None id next_is is h = same w v is h
reconciles task w v (Some now) None next_is is h = same w v is h
reconciles task w v (Some now) (Some id) next_is comes h = in_one_piece w v id _ next_is comes h

-- ---- the client asks, is cut, or begins anew

left_new : (w alone : World) (own : Option ClientConnection) (id : ℕ) → Leaves w own alone → is_new alone.hub.connections id ≡ is_new w.hub.connections id
left_new w alone None id is = ap (λ (x : World). is_new x.hub.connections id) is
left_new w alone (Some own) id (t, steps, is) = ap (λ (x : World). is_new x.hub.connections id) is ∙ goes_new w.hub t own.id id steps

opened : (sync : SyncPhase) (b : Bool) → IsHeldBy sync (Some (if b then with_written new_connection (refusal_reply (as_denied too_many_connections)) ended else new_connection))
opened sync true = tt
opened sync false = tt

sends : (w v : World) (id : Option ℕ) (bytes : Option (List ℕ)) → next_id w.hub.connections ≡ id → Sends w id bytes v → IsHeldIn w → IsHeldIn v
sends w v None bytes next_is is h = same w v is h
sends w v (Some id) None next_is is h = same w v is h
sends w v (Some id) (Some bytes) next_is (alone, mid, leaves, (t, steps, is_mid), is) h =
    let own : ClientConnection = record { id = id; unsent = bytes; handed = 0 } in
    let f : World → World = λ x. record x { client = asked x.client; connection = Some own } in
    let new : is_new alone.hub.connections id ≡ true = left_new w alone w.connection id leaves ∙ next_is_new w.hub.connections id next_is in
    same (f (record alone { hub = t })) v (is ∙ ap f is_mid)
    (λ awaits. subst (IsHeldBy alone.client.sync) (sym (opens_so alone.hub t id new steps)) (opened alone.client.sync (nat_le max_open (open_count alone.hub.connections))))

cuts : (w v : World) (own : Option ClientConnection) → Cuts w own v → IsHeldIn w → IsHeldIn v
cuts w v None is h = same w v is h
cuts w v (Some own) (t, steps, is) h = silent v (ap (λ (x : World). x.client.is_awaiting_reply) is ∙ closed_silent w.client)

left_anew : (w v : World) (own : Option ClientConnection) → Leaves (record w { client = restarted w.client }) own v → IsHeldIn v
left_anew w v None is = silent v (ap (λ (x : World). x.client.is_awaiting_reply) is)
left_anew w v (Some own) (t, steps, is) = silent v (ap (λ (x : World). x.client.is_awaiting_reply) is)

-- ---- bytes move

-- where the reply is over nothing is awaited
moved : (x : World) (own : ClientConnection) → (x.client.is_awaiting_reply ≡ true → IsHeldBy x.client.sync (fin.get x.hub.connections own.id)) → IsHeldIn (after_move x own)
moved x own h = go (is_over x own)
  where
    go : (b : Bool) → IsHeldIn (record x { connection = Some own; client = if b then closed x.client else x.client })
    go true = silent (record x { connection = Some own; client = closed x.client }) (closed_silent x.client)
    go false = h

-- the reply that comes

still_phase : (a b : SyncPhase) (st : Phase) → (a ≡ streaming → b ≡ streaming) → IsHeld a st → IsHeld b st
still_phase a b (waiting bytes) stays held = tt
still_phase a b (watching w) stays held = stays held
still_phase a b ended stays held = tt
still_phase a b (gone had_ended) stays held = held

still : (a b : SyncPhase) (o : Option Connection) → (a ≡ streaming → b ≡ streaming) → IsHeldBy a o → IsHeldBy b o
still a b None stays held = held
still a b (Some c) stays held = still_phase a b c.phase stays held

received : (wanted : Wanted) (b : Bool) (c d : Client) (before piece : List ℕ) (o : Option Connection) → c.is_awaiting_reply ≡ b → Receives b wanted c before piece d → (c.is_awaiting_reply ≡ true → IsHeldBy c.sync o)
    → d.is_awaiting_reply ≡ true → IsHeldBy d.sync o
received wanted false c d before piece o asks is held awaits = absurd (true≢false (sym awaits ∙ ap (λ (x : Client). x.is_awaiting_reply) is ∙ asks))
received wanted true c d before piece o asks (sent, news, first_read, all_read, is) held awaits =
    still c.sync d.sync o (λ follows. subst (λ (x : Client). x.is_awaiting_reply ≡ true → x.sync ≡ streaming) (sym is) (all_stay wanted c news follows) awaits) (held asks)

hands : (wanted : Wanted) (w v : World) (own : ClientConnection) (piece : List ℕ) → w.connection ≡ Some own → Hands wanted w own piece v → IsHeldIn w → IsHeldIn v
hands wanted w v own [] has is h = same w v is h
hands wanted w v own (b ∷ bs) has (d, receives, is) h =
    let rest : ClientConnection = record own { handed = own.handed + length (b ∷ bs) } in
    same (after_move (record w { client = d }) rest) v is
    (moved (record w { client = d }) rest (received wanted w.client.is_awaiting_reply w.client d (take own.handed (reply_on w own)) (b ∷ bs) (fin.get w.hub.connections own.id) refl receives
    (λ awaits. subst (IsHeldOn w.client.sync w.hub.connections) has (h awaits))))

to_clients : (wanted : Wanted) (w v : World) (n : ℕ) (own : Option ClientConnection) → w.connection ≡ own → ToClient wanted w n own v → IsHeldIn w → IsHeldIn v
to_clients wanted w v n None has is h = same w v is h
to_clients wanted w v n (Some own) has comes h = hands wanted w v own (take n (drop own.handed (reply_on w own))) has comes h

-- the request that comes

module _ (types : List ServedShape) (task : Task) (h : History) (m last_tick : ℕ) (is : IsStillTask types task) (is_machine : IsMachine types h) (low : m ≤ h.current) (whole : List ℕ) (call : Call) (asks : Asks types whole (accepted call)) where
  abbrev task_now : Task
  task_now = with_shape task is.0

  -- what it asks is what it was to ask
  by_call : (IsSuch : Call → Type 0) → AsksFor types whole IsSuch → ((call : Call) → IsSuch call → (planned types h (at_tick last_tick call)).answer.watch ≡ None) → (planned types h (at_tick last_tick call)).answer.watch ≡ None
  by_call IsSuch (inl too_long) unwatched = absurd (other (asks_one types whole (accepted call) (refuse head_too_large) asks too_long))
    where
      other : accepted call ≡ refuse head_too_large → ⊥
      other e = cc
  by_call IsSuch (inr (listed, so, such)) unwatched =
      let one : listed ≡ call = one_call (asks_one types whole (accepted listed) (accepted call) so asks) in
      subst (λ (x : Call). (planned types h (at_tick last_tick x)).answer.watch ≡ None) one (unwatched listed such)
    where
      one_call : accepted listed ≡ accepted call → listed ≡ call
      one_call e = cc

  -- a list opens no watch
  lists_unwatched : (sync : SyncPhase) (cache : Option Cache) → IsSyncSound (server_of task h) m sync cache → (revision : Option ℕ) → whole ≡ request_with task (query_at (client_settings task) sync revision)
      → (sync ≡ streaming) ⊎ ((planned types h (at_tick last_tick call)).answer.watch ≡ None)
  lists_unwatched first cache sound revision is_whole =
      inr (by_call (IsListCall types task_now None) (subst (λ (l : List ℕ). AsksFor types l (IsListCall types task_now None)) (sym is_whole) (asks_first types task_now is.1))
      (λ call such. (first_page_comes types task_now h m (at_tick last_tick call) is.1 is_machine low (lists_at last_tick such)).unwatched))
  lists_unwatched (next r token paged) cache sound revision is_whole =
      inr (by_call (IsNextCall types task_now r paged)
      (subst (λ (l : List ℕ). AsksFor types l (IsNextCall types task_now r paged)) (sym is_whole) (asks_next types task_now h r token paged is.1 is_machine sound.1 sound.2))
      (λ call such. (next_page_comes types task_now h m r token paged (at_tick last_tick call) is.1 is_machine sound.0 sound.1 sound.2 (such.0, such.1, lists_at last_tick such.2)).unwatched))
  lists_unwatched streaming cache sound revision is_whole = inl refl

module _ (task : Task) where
  -- bytes that came, and those that still are to come, as they were cut
  decided : (m : ℕ) (s : edge.State) (c : Client) (own : ClientConnection) (conn : Connection) (n : ℕ) (piece prefix : List ℕ) (asked : CallDecision) → take n own.unsent ≡ piece → IsStillTask s.types task → IsMachine s.types s.machine
      → conn.phase ≡ waiting prefix → Asks s.types (prefix ++ piece) asked → IsServed task s.machine m c own conn
      → IsHeld c.sync (edge.connection_after s.types s.machine s.last_tick conn (prefix ++ piece) asked).phase
  decided m s c own conn n piece prefix undecided cut_so still_is is_machine waits asks is = tt
  decided m s c own conn n piece prefix (refused d) cut_so still_is is_machine waits asks is = tt
  decided m s c own conn n piece prefix (accepted call) cut_so still_is is_machine waits asks is = by_watch (planned s.types s.machine (at_tick s.last_tick call)).answer.watch unwatched
    where
      whole_is : (prefix ++ piece) ++ drop n own.unsent ≡ request_of (client_settings task) c
      whole_is =
          append_assoc prefix piece (drop n own.unsent) ∙ ap (λ (l : List ℕ). prefix ++ l) (ap (λ (l : List ℕ). l ++ drop n own.unsent) (sym cut_so) ∙ take-append-drop n own.unsent)
          ∙ (subst (ReadInvariant task s.machine c own.unsent is.to (is.sent ++ is.coming) conn.written) waits is.represents).1

      unwatched : (c.sync ≡ streaming) ⊎ ((planned s.types s.machine (at_tick s.last_tick call)).answer.watch ≡ None)
      unwatched =
          lists_unwatched s.types task s.machine m s.last_tick still_is is_machine is.follows.low ((prefix ++ piece) ++ drop n own.unsent) call
          (asks_more s.types (prefix ++ piece) (drop n own.unsent) (accepted call) asks (λ e. absurd cc)) c.sync c.cache is.follows.sync (option_map (λ now. now.revision) c.cache) whole_is

      by_watch : (o : Option WatchFrom) → (c.sync ≡ streaming) ⊎ (o ≡ None) → IsHeld c.sync (edge.answer_phase s.last_tick o)
      by_watch None either = tt
      by_watch (Some from) (inl is) = is
      by_watch (Some from) (inr is) = absurd cc

  came_held : (m : ℕ) (s t : edge.State) (c : Client) (own : ClientConnection) (conn : Connection) (n : ℕ) (piece : List ℕ) (st : Phase) → conn.phase ≡ st → take n own.unsent ≡ piece → IsStillTask s.types task → IsMachine s.types s.machine
      → CameOn s t own.id conn piece st → IsServed task s.machine m c own conn → IsHeld c.sync st → IsHeldBy c.sync (fin.get t.connections own.id)
  came_held m s t c own conn n piece (waiting prefix) stands cut_so still_is is_machine (asked, asks, got) is held =
      subst (IsHeldBy c.sync) (sym got) (decided m s c own conn n piece prefix asked cut_so still_is is_machine stands asks is)
  came_held m s t c own conn n piece (watching w) stands cut_so still_is is_machine got is held = subst (IsHeldBy c.sync) (sym got) (subst (IsHeld c.sync) (sym stands) held)
  came_held m s t c own conn n piece ended stands cut_so still_is is_machine got is held = subst (IsHeldBy c.sync) (sym got) (subst (IsHeld c.sync) (sym stands) held)
  came_held m s t c own conn n piece (gone had_ended) stands cut_so still_is is_machine got is held = absurd held

  came_on : (m : ℕ) (s t : edge.State) (c : Client) (own : ClientConnection) (o : Option Connection) (n : ℕ) (piece : List ℕ) → fin.get s.connections own.id ≡ o → take n own.unsent ≡ piece → IsStillTask s.types task → IsMachine s.types s.machine
      → runs.Steps s (edge.comes own.id piece) t → IsServedOn task s.machine m c own o → IsHeldBy c.sync o → IsHeldBy c.sync (fin.get t.connections own.id)
  came_on m s t c own None n piece got cut_so still_is is_machine steps is held = absurd held
  came_on m s t c own (Some conn) n piece got cut_so still_is is_machine steps is held =
      came_held m s t c own conn n piece conn.phase refl cut_so still_is is_machine (came s t own.id conn piece got steps) is held

  delivers : (m : ℕ) (w v : World) (own : ClientConnection) (n : ℕ) (piece : List ℕ) → take n own.unsent ≡ piece → w.connection ≡ Some own → RunInvariant task m w → Delivers w own n piece v → IsHeldIn w → IsHeldIn v
  delivers m w v own n [] cut_so has known is h = same w v is h
  delivers m w v own n (b ∷ bs) cut_so has known (mid, (t, steps, is_mid), is) h =
      let rest : ClientConnection = record own { unsent = drop n own.unsent } in
      same (after_move (record w { hub = t }) rest) v (is ∙ ap (λ (x : World). after_move x rest) is_mid)
      (moved (record w { hub = t }) rest (λ awaits.
      came_on m w.hub t w.client own (fin.get w.hub.connections own.id) n (b ∷ bs) refl cut_so known.task_is known.machine steps
      (subst (λ (o : Option ClientConnection). Goes task w.hub.machine m w.client true o w.hub.connections) has
      (subst (λ (x : Bool). Goes task w.hub.machine m w.client x w.connection w.hub.connections) awaits known.goes))
      (subst (IsHeldOn w.client.sync w.hub.connections) has (h awaits))))

  to_servers : (m : ℕ) (w v : World) (n : ℕ) (own : Option ClientConnection) → w.connection ≡ own → RunInvariant task m w → ToServer w n own v → IsHeldIn w → IsHeldIn v
  to_servers m w v n None has known is h = same w v is h
  to_servers m w v n (Some own) has known comes h = delivers m w v own n (take n own.unsent) refl has known comes h

  -- ---- an event

  happened : (m : ℕ) (w v : World) (e : WorldEvent) → RunInvariant task m w → Happens task w e v → IsHeldIn w → IsHeldIn v
  happened m w v (other e) known comes h = unless (is_by_peer_on w.connection e) w v e refl comes h
  happened m w v (request bytes) known comes h = requests w v (next_id w.hub.connections) bytes refl comes h
  happened m w v send known goes h = sends w v (next_id w.hub.connections) (due (client_settings task) w.client) refl goes h
  happened m w v (to_server n) known goes h = to_servers m w v n w.connection refl known goes h
  happened m w v (to_client n) known goes h = to_clients (wanted_by task) w v n w.connection refl goes h
  happened m w v cut known goes h = cuts w v w.connection goes h
  happened m w v restart known goes h = left_anew w v w.connection goes
  happened m w v reconcile known goes h = reconciles task w v w.client.cache (next_id w.hub.connections) refl goes h

  pub stepped : (m : ℕ) (w v : World) (e : WorldEvent) → RunInvariant task m w → Steps task w e v → IsHeldIn w → IsHeldIn v
  stepped m w v e known (mid, happens, is) h = subst IsHeldIn (sym is) (happened m w mid e known happens h)
