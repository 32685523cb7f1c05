-- An event of the world is some events of the hub, one after the other.
use Rattle.std.proofs.Common.{◌≡◌, ℕ, suc, Bool, true, false, List, [], ◌∷◌, ◌++◌, drop, take, Option, Some, None, refl, sym, subst}
use Rattle.httpedge.proofs.Handed.{runs_then}
use Rattle.httpedge.specs.Connections.{next_id}
use Rattle.httpedge.specs.Runs as runs
use Rattle.httpedge.specs.Steps as edge
use Rattle.reflector.specs.Client.{Cache}
use Rattle.reflector.specs.InformerViews.{due}
use Rattle.reflector.specs.Run.{closed, restarted}
use Rattle.world_laws.specs.Reports.{Report, Runs}
use Rattle.world_laws.specs.Tasks.{Task, client_settings, wanted_by}
use Rattle.world_laws.specs.World.{ClientConnection, ComesInOnePiece, Cuts, Delivers, Hands, Happens, HubTakes, Leaves, Reconciles, Requests, Sends, Steps, TakesUnless, ToClient, ToServer, World, WorldEvent, cut, is_by_peer_on, other, reconcile, reply_on, request, restart, send, to_client, to_server}

-- events of the hub lead from its state in one world to that in the other
abbrev pub HubRuns : World → World → Type 0
HubRuns w v = (hs : List runs.Action) × runs.Runs w.hub hs v.hub

stays : (w v : World) → v ≡ w → HubRuns w v
stays w v is = subst (HubRuns w) (sym is) ([], refl)

then : (w mid v : World) → HubRuns w mid → HubRuns mid v → HubRuns w v
then w mid v (hs, first) (gs, second) = (hs ++ gs, runs_then w.hub mid.hub v.hub hs gs first second)

takes : (w v : World) (e : edge.Event) → HubTakes w e v → HubRuns w v
takes w v e (t, steps, is) = subst (HubRuns w) (sym is) (runs.happens e ∷ [], (t, steps, refl))

comes : (w v : World) (id : ℕ) (bytes : List ℕ) → ComesInOnePiece w id bytes v → HubRuns w v
comes w v id bytes (mid, opens, brings) = then w mid v (takes w mid (edge.opens id) opens) (takes mid v (edge.comes id bytes) brings)

leaves : (w v : World) (own : Option ClientConnection) → Leaves w own v → HubRuns w v
leaves w v None is = stays w v is
leaves w v (Some own) goes = takes (record w { connection = None }) v (edge.goes own.id) goes

unless : (w v : World) (b : Bool) (e : edge.Event) → TakesUnless b w e v → HubRuns w v
unless w v true e is = stays w v is
unless w v false e steps = takes w v e steps

requests : (w v : World) (id : Option ℕ) (bytes : List ℕ) → Requests w id bytes v → HubRuns w v
requests w v None bytes is = stays w v is
requests w v (Some id) bytes brings = comes (record w { requested = w.requested ++ id ∷ [] }) v id bytes brings

sends : (w v : World) (id : Option ℕ) (bytes : Option (List ℕ)) → Sends w id bytes v → HubRuns w v
sends w v None bytes is = stays w v is
sends w v (Some id) None is = stays w v is
sends w v (Some id) (Some bytes) (alone, mid, goes, opens, is) =
    then w alone v (leaves w alone w.connection goes) (subst (HubRuns alone) (sym is) (takes alone mid (edge.opens id) opens))

delivers : (w v : World) (own : ClientConnection) (n : ℕ) (piece : List ℕ) → Delivers w own n piece v → HubRuns w v
delivers w v own n [] is = stays w v is
delivers w v own n (b ∷ bs) (mid, brings, is) = subst (HubRuns w) (sym is) (takes w mid (edge.comes own.id (b ∷ bs)) brings)

to_server_runs : (w v : World) (n : ℕ) (own : Option ClientConnection) → ToServer w n own v → HubRuns w v
to_server_runs w v n None is = stays w v is
to_server_runs w v n (Some own) moves = delivers w v own n (take n own.unsent) moves

hands : (task : Task) (w v : World) (own : ClientConnection) (piece : List ℕ) → Hands (wanted_by task) w own piece v → HubRuns w v
hands task w v own [] is = stays w v is
hands task w v own (b ∷ bs) (d, receives, is) = subst (HubRuns w) (sym is) ([], refl)

to_client_runs : (task : Task) (w v : World) (n : ℕ) (own : Option ClientConnection) → ToClient (wanted_by task) w n own v → HubRuns w v
to_client_runs task w v n None is = stays w v is
to_client_runs task w v n (Some own) moves = hands task w v own (take n (drop own.handed (reply_on w own))) moves

cuts : (w v : World) (own : Option ClientConnection) → Cuts w own v → HubRuns w v
cuts w v None is = stays w v is
cuts w v (Some own) goes = leaves (record w { client = closed w.client }) v (Some own) goes

reconciles : (task : Task) (w v : World) (now : Option Cache) (id : Option ℕ) → Reconciles task w now id v → HubRuns w v
reconciles task w v None id is = stays w v is
reconciles task w v (Some now) None is = stays w v is
reconciles task w v (Some now) (Some id) brings = comes w v id _ brings

happens_runs : (task : Task) (w v : World) (e : WorldEvent) → Happens task w e v → HubRuns w v
happens_runs task w v (other e) steps = unless w v (is_by_peer_on w.connection e) e steps
happens_runs task w v (request bytes) brings = requests w v (next_id w.hub.connections) bytes brings
happens_runs task w v send goes = sends w v (next_id w.hub.connections) (due (client_settings task) w.client) goes
happens_runs task w v (to_server n) moves = to_server_runs w v n w.connection moves
happens_runs task w v (to_client n) moves = to_client_runs task w v n w.connection moves
happens_runs task w v cut goes = cuts w v w.connection goes
happens_runs task w v restart goes = leaves (record w { client = restarted w.client }) v w.connection goes
happens_runs task w v reconcile brings = reconciles task w v w.client.cache (next_id w.hub.connections) brings

pub steps_run : (task : Task) (w v : World) (e : WorldEvent) → Steps task w e v → HubRuns w v
steps_run task w v e (mid, happens, is) = subst (HubRuns w) (sym is) (happens_runs task w mid e happens)

pub runs_run : (task : Task) (i : ℕ) (w : World) (es : List WorldEvent) (v : World) (reports : List Report) → Runs task i w es v reports → HubRuns w v
runs_run task i w [] v reports (same, none) = stays w v same
runs_run task i w (e ∷ es) v reports (mid, others, steps, rest, are) = then w mid v (steps_run task w mid e steps) (runs_run task (suc i) mid es v others rest)
