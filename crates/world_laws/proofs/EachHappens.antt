-- Each event leads on from each world, where the bytes that are read in it lie in memory.
use Rattle.std.proofs.Common.{◌≡◌, ◌∙◌, ℕ, Bool, true, false, List, [], ◌∷◌, ◌++◌, take, drop, Option, Some, None, refl, sym, ap, subst}
use Rattle.std.specs.Prelude.{IfSome, if◌then◌else◌, nat_le, option_and_then, option_map}
use Rattle.requests.specs.Refusals.{as_denied, too_many_connections}
use Rattle.requests.specs.Replies.{refusal_reply}
use Rattle.httpedge.proofs.NextIds.{next_is_new}
use Rattle.httpedge.specs.Connections.{ended, is_new, max_open, next_id, open_count, new_connection, with_written}
use Rattle.httpedge.specs.Runs as runs
use Rattle.httpedge.specs.Steps as edge
use Rattle.decoder.specs.Wanted.{Wanted}
use Rattle.reflector.specs.Client.{Cache, Client}
use Rattle.reflector.specs.InformerViews.{due}
use Rattle.reflector.specs.Run.{asked, closed, receives_all, restarted, taken}
use Rattle.wireclient.specs.Reads.{Items}
use Rattle.wireclient.specs.Reply.{ReplyItem}
use Rattle.summary.specs.Apply.{apply_request}
use Rattle.summary.specs.Counts.{summed_of}
use Rattle.wire_laws.proofs.BegunAnswers.{opens_so}
use Rattle.world_laws.specs.Reading.{client_reads, server_reads}
use Rattle.world_laws.specs.Tasks.{Task, client_settings, wanted_by}
use Rattle.world_laws.specs.World.{ClientConnection, ComesInOnePiece, Cuts, Delivers, Hands, Happens, HubTakes, Leaves, Receives, Reconciles, Requests, Sends, Steps, TakesUnless, ToClient, ToServer, World, WorldEvent, after_move, cut, is_by_peer_on, other, reconcile, reply_on, request, restart, send, to_client, to_server}

-- what the crates below say of these bytes: each event of the hub that brings the server's has a step, and so has each that brings none;
-- the client's hold items, and so does each prefix of them
pub record Reads (server client : List ℕ) : Type 0 where
  pub by_none : (s : edge.State) (e : edge.Event) → runs.bytes_at s e ≡ None → (t : edge.State) × runs.Steps s e t
  pub by_bytes : (s : edge.State) (e : edge.Event) → runs.bytes_at s e ≡ Some server → (t : edge.State) × runs.Steps s e t
  pub items : (items : List ReplyItem) × Items client items
  pub prefix : (bytes more : List ℕ) (items : List ReplyItem) → Items (bytes ++ more) items → (before : List ReplyItem) × (after : List ReplyItem) × Items bytes before × (items ≡ before ++ after)

-- ---- bytes that come

-- these are the bytes, if there are some
abbrev pub AreThese : List ℕ → Option (List ℕ) → Type 0
AreThese these o = IfSome o (λ bytes. bytes ≡ these)

module _ (server client : List ℕ) (reads : Reads server client) where
  hub_takes : (w : World) (e : edge.Event) → AreThese server (runs.bytes_at w.hub e) → (v : World) × HubTakes w e v
  hub_takes w e these = go (runs.bytes_at w.hub e) refl these
    where
      led : (t : edge.State) × runs.Steps w.hub e t → (v : World) × HubTakes w e v
      led (t, steps) = (record w { hub = t }, (t, steps, refl))

      go : (o : Option (List ℕ)) → runs.bytes_at w.hub e ≡ o → AreThese server o → (v : World) × HubTakes w e v
      go None is these = led (reads.by_none w.hub e is)
      go (Some bytes) is these = led (reads.by_bytes w.hub e (is ∙ ap Some these))

  -- on a connection that opens there was nothing before
  opened_bytes : (bytes : List ℕ) (b : Bool) → bytes ≡ server
      → AreThese server (runs.all_bytes ((if b then with_written new_connection (refusal_reply (as_denied too_many_connections)) ended else new_connection).phase) bytes)
  opened_bytes bytes true same = tt
  opened_bytes bytes false same = same

  new_bytes : (w mid : World) (id : ℕ) (bytes : List ℕ) → is_new w.hub.connections id ≡ true → bytes ≡ server → HubTakes w (edge.opens id) mid → AreThese server (runs.bytes_at mid.hub (edge.comes id bytes))
  new_bytes w mid id bytes new same (t, steps, is) =
      subst (λ (x : World). AreThese server (runs.bytes_at x.hub (edge.comes id bytes))) (sym is)
      (subst (λ o. AreThese server (option_and_then (λ c. runs.all_bytes c.phase bytes) o)) (sym (opens_so w.hub t id new steps)) (opened_bytes bytes (nat_le max_open (open_count w.hub.connections)) same))

  comes_in : (w : World) (id : ℕ) (bytes : List ℕ) → is_new w.hub.connections id ≡ true → bytes ≡ server → (v : World) × ComesInOnePiece w id bytes v
  comes_in w id bytes new same =
      let first = hub_takes w (edge.opens id) tt in
      let second = hub_takes first.0 (edge.comes id bytes) (new_bytes w first.0 id bytes new same first.1) in
      (second.0, (first.0, first.1, second.1))

  -- ---- the events

  unless : (w : World) (b : Bool) (e : edge.Event) → AreThese server (runs.bytes_at w.hub e) → (v : World) × TakesUnless b w e v
  unless w true e these = (w, refl)
  unless w false e these = hub_takes w e these

  requests : (w : World) (id : Option ℕ) (bytes : List ℕ) → next_id w.hub.connections ≡ id → bytes ≡ server → (v : World) × Requests w id bytes v
  requests w None bytes is same = (w, refl)
  requests w (Some id) bytes is same = comes_in (record w { requested = w.requested ++ id ∷ [] }) id bytes (next_is_new w.hub.connections id is) same

  leaves : (w : World) (own : Option ClientConnection) → (v : World) × Leaves w own v
  leaves w None = (w, refl)
  leaves w (Some own) = hub_takes (record w { connection = None }) (edge.goes own.id) tt

  sends : (w : World) (id : Option ℕ) (bytes : Option (List ℕ)) → (v : World) × Sends w id bytes v
  sends w None bytes = (w, refl)
  sends w (Some id) None = (w, refl)
  sends w (Some id) (Some bytes) =
      let alone = leaves w w.connection in
      let mid = hub_takes alone.0 (edge.opens id) tt in
      (record mid.0 { client = asked mid.0.client; connection = Some (record { id = id; unsent = bytes; handed = 0 }) }, (alone.0, mid.0, alone.1, mid.1, refl))

  delivers : (w : World) (own : ClientConnection) (n : ℕ) (piece : List ℕ) → AreThese server (runs.bytes_at w.hub (edge.comes own.id piece)) → (v : World) × Delivers w own n piece v
  delivers w own n [] these = (w, refl)
  delivers w own n (b ∷ bs) these =
      let mid = hub_takes w (edge.comes own.id (b ∷ bs)) these in
      (after_move mid.0 (record own { unsent = drop n own.unsent }), (mid.0, mid.1, refl))

  to_server_moves : (w : World) (n : ℕ) (own : Option ClientConnection) → AreThese server (option_and_then (λ c. runs.bytes_at w.hub (edge.comes c.id (take n c.unsent))) own) → (v : World) × ToServer w n own v
  to_server_moves w n None these = (w, refl)
  to_server_moves w n (Some own) these = delivers w own n (take n own.unsent) these

  receives : (b : Bool) (wanted : Wanted) (c : Client) (before piece : List ℕ) → before ++ piece ≡ client → (d : Client) × Receives b wanted c before piece d
  receives false wanted c before piece same = (c, refl)
  receives true wanted c before piece same =
      let all = reads.items in
      let whole : Items (before ++ piece) all.0 = subst (λ bytes. Items bytes all.0) (sym same) all.1 in
      let parts = reads.prefix before piece all.0 whole in
      (receives_all wanted c parts.1, (parts.0, parts.1, parts.2, subst (Items (before ++ piece)) parts.3 whole, refl))

  hands : (wanted : Wanted) (w : World) (own : ClientConnection) (piece : List ℕ) → take own.handed (reply_on w own) ++ piece ≡ client → (v : World) × Hands wanted w own piece v
  hands wanted w own [] same = (w, refl)
  hands wanted w own (b ∷ bs) same =
      let received = receives w.client.is_awaiting_reply wanted w.client (take own.handed (reply_on w own)) (b ∷ bs) same in
      (_, (received.0, received.1, refl))

  to_client_moves : (wanted : Wanted) (w : World) (n : ℕ) (own : Option ClientConnection) → AreThese client (option_map (λ c. take c.handed (reply_on w c) ++ take n (drop c.handed (reply_on w c))) own) → (v : World) × ToClient wanted w n own v
  to_client_moves wanted w n None these = (w, refl)
  to_client_moves wanted w n (Some own) these = hands wanted w own (take n (drop own.handed (reply_on w own))) these

  cuts : (w : World) (own : Option ClientConnection) → (v : World) × Cuts w own v
  cuts w None = (w, refl)
  cuts w (Some own) = leaves (record w { client = closed w.client }) (Some own)

  reconciles : (task : Task) (w : World) (now : Option Cache) (id : Option ℕ) → next_id w.hub.connections ≡ id
      → AreThese server (option_map (λ (c : Cache). apply_request (summed_of task.settings.label c.objects) task.settings.summary.0 task.settings.summary.1) now) → (v : World) × Reconciles task w now id v
  reconciles task w None id is these = (w, refl)
  reconciles task w (Some now) None is these = (w, refl)
  reconciles task w (Some now) (Some id) is these = comes_in w id _ (next_is_new w.hub.connections id is) these

  happens : (task : Task) (w : World) (e : WorldEvent) → AreThese server (server_reads task w e) → AreThese client (client_reads w e) → (v : World) × Happens task w e v
  happens task w (other e) these those = unless w (is_by_peer_on w.connection e) e these
  happens task w (request bytes) these those = requests w (next_id w.hub.connections) bytes refl these
  happens task w send these those = sends w (next_id w.hub.connections) (due (client_settings task) w.client)
  happens task w (to_server n) these those = to_server_moves w n w.connection these
  happens task w (to_client n) these those = to_client_moves (wanted_by task) w n w.connection those
  happens task w cut these those = cuts w w.connection
  happens task w restart these those = leaves (record w { client = restarted w.client }) w.connection
  happens task w reconcile these those = reconciles task w w.client.cache (next_id w.hub.connections) refl these

  pub each_steps : (task : Task) (w : World) (e : WorldEvent) → AreThese server (server_reads task w e) → AreThese client (client_reads w e) → (v : World) × Steps task w e v
  each_steps task w e these those =
      let mid = happens task w e these those in
      (record mid.0 { client = taken mid.0.client }, (mid.0, mid.1, refl))
