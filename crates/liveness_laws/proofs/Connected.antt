-- A client that awaits a reply has a connection, whatever happened before.
use Rattle.std.proofs.Common.{◌≡◌, ◌∙◌, ℕ, suc, ◌+◌, Bool, true, false, cond, List, [], ◌∷◌, ◌++◌, drop, length, take, Option, Some, None, refl, sym, ap, subst}
use Rattle.api_types.specs.TypesFile.{ServedShape}
use Rattle.httpedge.specs.Connections.{next_id}
use Rattle.httpedge.specs.Steps as edge
use Rattle.decoder.specs.Wanted.{Wanted}
use Rattle.reflector.specs.Client.{Cache, Client}
use Rattle.reflector.specs.InformerViews.{due}
use Rattle.reflector.specs.Run.{after_cut, closed, restarted}
use Rattle.summary.specs.Apply.{apply_request}
use Rattle.summary.specs.Counts.{summed_of}
use Rattle.world_laws.specs.Reports.{Report, Runs}
use Rattle.world_laws.specs.Tasks.{Task, client_settings, wanted_by}
use Rattle.world_laws.specs.World.{ClientConnection, ComesInOnePiece, Cuts, Delivers, Hands, Happens, HubTakes, Leaves, Reconciles, Requests, Sends, Steps, TakesUnless, ToClient, ToServer, World, WorldEvent, cut, is_by_peer_on, other, reconcile, reply_on, request, restart, send, start, to_client, to_server}

abbrev pub IsConnected : World → Type 0
IsConnected w = w.client.is_awaiting_reply ≡ true → (own : ClientConnection) × (w.connection ≡ Some own)

same : (w v : World) → v ≡ w → IsConnected w → IsConnected v
same w v is h = subst IsConnected (sym is) h

with_own : (v : World) (own : ClientConnection) → v.connection ≡ Some own → IsConnected v
with_own v own is awaits = (own, is)

silent : (v : World) → v.client.is_awaiting_reply ≡ false → IsConnected v
silent v is awaits = let bad : false ≡ true = sym is ∙ awaits in absurd cc

by_hub : (w v : World) (e : edge.Event) → HubTakes w e v → IsConnected w → IsConnected v
by_hub w v e (t, steps, is) h = subst IsConnected (sym is) h

in_one_piece : (w v : World) (id : ℕ) (bytes : List ℕ) → ComesInOnePiece w id bytes v → IsConnected w → IsConnected v
in_one_piece w v id bytes (mid, opens, comes) h = by_hub mid v (edge.comes id bytes) comes (by_hub w mid (edge.opens id) opens h)

unless : (b : Bool) (w v : World) (e : edge.Event) → TakesUnless b w e v → IsConnected w → IsConnected v
unless true w v e is h = same w v is h
unless false w v e takes h = by_hub w v e takes h

requests : (w v : World) (id : Option ℕ) (bytes : List ℕ) → Requests w id bytes v → IsConnected w → IsConnected v
requests w v None bytes is h = same w v is h
requests w v (Some id) bytes comes h = in_one_piece (record w { requested = w.requested ++ id ∷ [] }) v id bytes comes h

sends : (w v : World) (id : Option ℕ) (bytes : Option (List ℕ)) → Sends w id bytes v → IsConnected w → IsConnected v
sends w v None bytes is h = same w v is h
sends w v (Some id) None is h = same w v is h
sends w v (Some id) (Some bytes) (alone, opened, left, opens, is) h = with_own v (record { id = id; unsent = bytes; handed = 0 }) (ap (λ (x : World). x.connection) is)

delivers : (w v : World) (own : ClientConnection) (n : ℕ) (piece : List ℕ) → Delivers w own n piece v → IsConnected w → IsConnected v
delivers w v own n [] is h = same w v is h
delivers w v own n (b ∷ bs) (mid, comes, is) h = with_own v (record own { unsent = drop n own.unsent }) (ap (λ (x : World). x.connection) is)

to_servers : (w v : World) (n : ℕ) (own : Option ClientConnection) → ToServer w n own v → IsConnected w → IsConnected v
to_servers w v n None is h = same w v is h
to_servers w v n (Some own) comes h = delivers w v own n (take n own.unsent) comes h

hands : (wanted : Wanted) (w v : World) (own : ClientConnection) (piece : List ℕ) → Hands wanted w own piece v → IsConnected w → IsConnected v
hands wanted w v own [] is h = same w v is h
hands wanted w v own (b ∷ bs) (d, receives, is) h = with_own v (record own { handed = own.handed + length (b ∷ bs) }) (ap (λ (x : World). x.connection) is)

to_clients : (wanted : Wanted) (w v : World) (n : ℕ) (own : Option ClientConnection) → ToClient wanted w n own v → IsConnected w → IsConnected v
to_clients wanted w v n None is h = same w v is h
to_clients wanted w v n (Some own) comes h = hands wanted w v own (take n (drop own.handed (reply_on w own))) comes h

pub closed_silent : (c : Client) → (closed c).is_awaiting_reply ≡ false
closed_silent c = go c.is_awaiting_reply refl
  where
    go : (b : Bool) → c.is_awaiting_reply ≡ b → (cond b (record c { sync = after_cut c.sync; is_awaiting_reply = false }) c).is_awaiting_reply ≡ false
    go true is = refl
    go false is = is

cuts : (w v : World) (own : Option ClientConnection) → Cuts w own v → IsConnected w → IsConnected v
cuts w v None is h = same w v is h
cuts w v (Some own) (t, steps, is) h = silent v (ap (λ (x : World). x.client.is_awaiting_reply) is ∙ closed_silent w.client)

left_anew : (w v : World) (own : Option ClientConnection) → Leaves (record w { client = restarted w.client }) own v → IsConnected v
left_anew w v None is = silent v (ap (λ (x : World). x.client.is_awaiting_reply) is)
left_anew w v (Some own) (t, steps, is) = silent v (ap (λ (x : World). x.client.is_awaiting_reply) is)

reconciles : (task : Task) (w v : World) (cache : Option Cache) (id : Option ℕ) → Reconciles task w cache id v → IsConnected w → IsConnected v
reconciles task w v None id is h = same w v is h
reconciles task w v (Some now) None is h = same w v is h
reconciles task w v (Some now) (Some id) comes h =
    in_one_piece w v id (apply_request (summed_of task.settings.label now.objects) task.settings.summary.0 task.settings.summary.1) comes h

happened : (task : Task) (w v : World) (e : WorldEvent) → Happens task w e v → IsConnected w → IsConnected v
happened task w v (other e) takes h = unless (is_by_peer_on w.connection e) w v e takes h
happened task w v (request bytes) comes h = requests w v (next_id w.hub.connections) bytes comes h
happened task w v send goes h = sends w v (next_id w.hub.connections) (due (client_settings task) w.client) goes h
happened task w v (to_server n) goes h = to_servers w v n w.connection goes h
happened task w v (to_client n) goes h = to_clients (wanted_by task) w v n w.connection goes h
happened task w v cut goes h = cuts w v w.connection goes h
happened task w v restart goes h = left_anew w v w.connection goes
happened task w v reconcile goes h = reconciles task w v w.client.cache (next_id w.hub.connections) goes h

stepped : (task : Task) (w v : World) (e : WorldEvent) → Steps task w e v → IsConnected w → IsConnected v
stepped task w v e (mid, happens, is) h = subst IsConnected (sym is) (happened task w mid e happens h)

ran : (task : Task) (i : ℕ) (w : World) (es : List WorldEvent) (v : World) (reports : List Report) → Runs task i w es v reports → IsConnected w → IsConnected v
ran task i w [] v reports is h = same w v is.0 h
ran task i w (e ∷ es) v reports (mid, others, steps, runs, are) h = ran task (suc i) mid es v others runs (stepped task w mid e steps h)

-- after any run from the start
pub awaits_connected : (types : List ServedShape) (task : Task) (es : List WorldEvent) (w : World) (reports : List Report) → Runs task 1 (start types) es w reports → IsConnected w
awaits_connected types task es w reports runs = ran task 1 (start types) es w reports runs (silent (start types) refl)
