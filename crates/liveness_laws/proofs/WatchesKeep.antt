-- A client that is to watch, or does, keeps something, whatever happened before.
use Rattle.std.proofs.Common.{◌≡◌, ℕ, suc, ◌+◌, Bool, true, false, ◌&&◌, cond, nat_eq, nat_le, nat_lt, List, [], ◌∷◌, ◌++◌, drop, length, take, Option, Some, None, refl, sym, subst}
use Rattle.std.specs.FinMap as fin
use Rattle.api_types.specs.TypesFile.{ServedShape}
use Rattle.decoder.specs.Lines.{Line, put, deleted, bookmark, error}
use Rattle.decoder.specs.Pages.{Page}
use Rattle.decoder.specs.Wanted.{Wanted}
use Rattle.httpedge.specs.Connections.{next_id}
use Rattle.httpedge.specs.Steps as edge
use Rattle.indexer.specs.Objects.{Stored}
use Rattle.reflector.specs.Client.{Cache, Client, Notice, Objects, SyncPhase, first, max_objects, next, notice_of, place_in, streaming}
use Rattle.reflector.specs.InformerViews.{due}
use Rattle.reflector.specs.Items.{Response, begun, line, over, page, said_of_list, said_of_watch, unexpected}
use Rattle.reflector.specs.Run.{after_cut, ascends_within_limit, closed, keep_paged, moved, receives, receives_all, relisting, restarted, with_item, with_line, with_list, with_next, with_page, with_watch}
use Rattle.summary.specs.Apply.{apply_request}
use Rattle.summary.specs.Counts.{summed_of}
use Rattle.wireclient.specs.Reply.{ReplyItem}
use Rattle.world_laws.specs.Reports.{Report, Runs}
use Rattle.world_laws.specs.Tasks.{Task, client_settings, wanted_by}
use Rattle.world_laws.specs.World.{ClientConnection, ComesInOnePiece, Cuts, Delivers, Hands, Happens, HubTakes, Leaves, Receives, Reconciles, Requests, Sends, Steps, TakesUnless, ToClient, ToServer, World, WorldEvent, after_move, cut, is_by_peer_on, is_over, other, reconcile, reply_on, request, restart, send, start, to_client, to_server}

abbrev pub Keeps : Client → Type 0
Keeps c = c.sync ≡ streaming → (now : Cache) × (c.cache ≡ Some now)

-- ---- the client

either : (b : Bool) (c d : Client) → Keeps c → Keeps d → Keeps (cond b c d)
either true c d one another = one
either false c d one another = another

by_list : (c : Client) → Keeps (relisting c)
by_list c watches = absurd cc

by_move : (c : Client) (revision : ℕ) (objects : Objects) (notices : List Notice) → Keeps (moved c revision objects notices)
by_move c revision objects notices watches = (record { revision = revision; objects = objects }, refl)

by_paged : (c : Client) (revision : ℕ) (all : List Stored) (token : Option (List ℕ)) → Keeps (keep_paged c revision all token)
by_paged c revision all None watches = (_, refl)
by_paged c revision all (Some token) watches = absurd cc

by_page : (c : Client) (paged : List Stored) (p : Page) → Keeps (with_page c paged p)
by_page c paged p =
    either (ascends_within_limit (paged ++ p.objects)) (keep_paged c p.revision (paged ++ p.objects) p.token) (relisting c) (by_paged c p.revision (paged ++ p.objects) p.token) (by_list c)

by_next : (c : Client) (revision : ℕ) (paged : List Stored) (p : Page) → Keeps (with_next c revision paged p)
by_next c revision paged p = either (nat_eq p.revision revision) (with_page c paged p) (relisting c) (by_page c paged p) (by_list c)

by_answer : (c : Client) (on_page : Page → Client) (x : Response) → Keeps c → ((p : Page) → Keeps (on_page p)) → Keeps (with_list c on_page x)
by_answer c on_page begun h pages = h
by_answer c on_page (page p) h pages = pages p
by_answer c on_page (line l) h pages = by_list c
by_answer c on_page over h pages = by_list c
by_answer c on_page unexpected h pages = by_list c

by_line : (c : Client) (now : Cache) (l : Line) → Keeps (with_line c now l)
by_line c now (put o) =
    either (nat_lt now.revision o.revision && nat_le (fin.len (fin.insert now.objects (place_in o) o)) max_objects) (moved c o.revision (fin.insert now.objects (place_in o) o) (notice_of (fin.get now.objects (place_in o)) (Some o))) (relisting c)
    (by_move c o.revision (fin.insert now.objects (place_in o) o) (notice_of (fin.get now.objects (place_in o)) (Some o))) (by_list c)
by_line c now (deleted o) =
    either (nat_lt now.revision o.revision) (moved c o.revision (fin.remove now.objects (place_in o)) (notice_of (fin.get now.objects (place_in o)) None)) (relisting c)
    (by_move c o.revision (fin.remove now.objects (place_in o)) (notice_of (fin.get now.objects (place_in o)) None)) (by_list c)
by_line c now (bookmark revision) = either (nat_le now.revision revision) (moved c revision now.objects []) (relisting c) (by_move c revision now.objects []) (by_list c)
by_line c now error = by_list c

by_watch : (c : Client) (cache : Option Cache) (x : Response) → c.sync ≡ streaming → Keeps c → Keeps (with_watch c cache x)
by_watch c None begun is h = h
by_watch c (Some now) begun is h = h
by_watch c None (line l) is h = by_list c
by_watch c (Some now) (line l) is h = by_line c now l
by_watch c None over is h = λ watches. h is
by_watch c (Some now) over is h = λ watches. h is
by_watch c None (page p) is h = by_list c
by_watch c (Some now) (page p) is h = by_list c
by_watch c None unexpected is h = by_list c
by_watch c (Some now) unexpected is h = by_list c

by_phase : (wanted : Wanted) (c : Client) (phase : SyncPhase) (x : ReplyItem) → c.sync ≡ phase → Keeps c → Keeps (with_item wanted c phase x)
by_phase wanted c first x is h = by_answer c (with_page c []) (said_of_list wanted x) h (by_page c [])
by_phase wanted c (next revision token paged) x is h = by_answer c (with_next c revision paged) (said_of_list wanted x) h (by_next c revision paged)
by_phase wanted c streaming x is h = by_watch c c.cache (said_of_watch wanted x) is h

by_item : (wanted : Wanted) (c : Client) (x : ReplyItem) → Keeps c → Keeps (receives wanted c x)
by_item wanted c x h = either c.is_awaiting_reply (with_item wanted c c.sync x) c (by_phase wanted c c.sync x refl h) h

by_items : (wanted : Wanted) (c : Client) (xs : List ReplyItem) → Keeps c → Keeps (receives_all wanted c xs)
by_items wanted c [] h = h
by_items wanted c (x ∷ xs) h = by_items wanted (receives wanted c x) xs (by_item wanted c x h)

by_close : (c : Client) → Keeps c → Keeps (closed c)
by_close c h = either c.is_awaiting_reply (record c { sync = after_cut c.sync; is_awaiting_reply = false }) c (go c.sync refl) h
  where
    go : (phase : SyncPhase) → c.sync ≡ phase → after_cut phase ≡ streaming → (now : Cache) × (c.cache ≡ Some now)
    go first is watches = absurd cc
    go (next revision token paged) is watches = absurd cc
    go streaming is watches = h is

-- ---- the world

abbrev KeepsIn : World → Type 0
KeepsIn w = Keeps w.client

same : (w v : World) → v ≡ w → KeepsIn w → KeepsIn v
same w v is h = subst KeepsIn (sym is) h

by_hub : (w v : World) (e : edge.Event) → HubTakes w e v → KeepsIn w → KeepsIn v
by_hub w v e (t, steps, is) h = subst KeepsIn (sym is) h

in_one_piece : (w v : World) (id : ℕ) (bytes : List ℕ) → ComesInOnePiece w id bytes v → KeepsIn w → KeepsIn v
in_one_piece w v id bytes (mid, opens, comes) h = by_hub mid v (edge.comes id bytes) comes (by_hub w mid (edge.opens id) opens h)

unless : (b : Bool) (w v : World) (e : edge.Event) → TakesUnless b w e v → KeepsIn w → KeepsIn v
unless true w v e is h = same w v is h
unless false w v e takes h = by_hub w v e takes h

requests : (w v : World) (id : Option ℕ) (bytes : List ℕ) → Requests w id bytes v → KeepsIn w → KeepsIn v
requests w v None bytes is h = same w v is h
requests w v (Some id) bytes comes h = in_one_piece (record w { requested = w.requested ++ id ∷ [] }) v id bytes comes h

leaves : (w v : World) (own : Option ClientConnection) → Leaves w own v → KeepsIn w → KeepsIn v
leaves w v None is h = same w v is h
leaves w v (Some own) takes h = by_hub (record w { connection = None }) v (edge.goes own.id) takes h

sends : (w v : World) (id : Option ℕ) (bytes : Option (List ℕ)) → Sends w id bytes v → KeepsIn w → KeepsIn v
sends w v None bytes is h = same w v is h
sends w v (Some id) None is h = same w v is h
sends w v (Some id) (Some bytes) (alone, opened, left, opens, is) h = subst KeepsIn (sym is) (by_hub alone opened (edge.opens id) opens (leaves w alone w.connection left h))

moved_on : (w : World) (own : ClientConnection) → KeepsIn w → KeepsIn (after_move w own)
moved_on w own h = either (is_over w own) (closed w.client) w.client (by_close w.client h) h

delivers : (w v : World) (own : ClientConnection) (n : ℕ) (piece : List ℕ) → Delivers w own n piece v → KeepsIn w → KeepsIn v
delivers w v own n [] is h = same w v is h
delivers w v own n (b ∷ bs) (mid, comes, is) h =
    subst KeepsIn (sym is) (moved_on mid (record own { unsent = drop n own.unsent }) (by_hub w mid (edge.comes own.id (b ∷ bs)) comes h))

to_servers : (w v : World) (n : ℕ) (own : Option ClientConnection) → ToServer w n own v → KeepsIn w → KeepsIn v
to_servers w v n None is h = same w v is h
to_servers w v n (Some own) comes h = delivers w v own n (take n own.unsent) comes h

received : (awaits : Bool) (wanted : Wanted) (c d : Client) (before piece : List ℕ) → Receives awaits wanted c before piece d → Keeps c → Keeps d
received false wanted c d before piece is h = subst Keeps (sym is) h
received true wanted c d before piece (sent, news, read, all, is) h = subst Keeps (sym is) (by_items wanted c news h)

hands : (wanted : Wanted) (w v : World) (own : ClientConnection) (piece : List ℕ) → Hands wanted w own piece v → KeepsIn w → KeepsIn v
hands wanted w v own [] is h = same w v is h
hands wanted w v own (b ∷ bs) (d, comes, is) h =
    subst KeepsIn (sym is)
    (moved_on (record w { client = d }) (record own { handed = own.handed + length (b ∷ bs) }) (received w.client.is_awaiting_reply wanted w.client d (take own.handed (reply_on w own)) (b ∷ bs) comes h))

to_clients : (wanted : Wanted) (w v : World) (n : ℕ) (own : Option ClientConnection) → ToClient wanted w n own v → KeepsIn w → KeepsIn v
to_clients wanted w v n None is h = same w v is h
to_clients wanted w v n (Some own) comes h = hands wanted w v own (take n (drop own.handed (reply_on w own))) comes h

cuts : (w v : World) (own : Option ClientConnection) → Cuts w own v → KeepsIn w → KeepsIn v
cuts w v None is h = same w v is h
cuts w v (Some own) left h = leaves (record w { client = closed w.client }) v (Some own) left (by_close w.client h)

begins_anew : (c : Client) → Keeps (restarted c)
begins_anew c watches = absurd cc

reconciles : (task : Task) (w v : World) (cache : Option Cache) (id : Option ℕ) → Reconciles task w cache id v → KeepsIn w → KeepsIn v
reconciles task w v None id is h = same w v is h
reconciles task w v (Some now) None is h = same w v is h
reconciles task w v (Some now) (Some id) comes h =
    in_one_piece w v id (apply_request (summed_of task.settings.label now.objects) task.settings.summary.0 task.settings.summary.1) comes h

happened : (task : Task) (w v : World) (e : WorldEvent) → Happens task w e v → KeepsIn w → KeepsIn v
happened task w v (other e) takes h = unless (is_by_peer_on w.connection e) w v e takes h
happened task w v (request bytes) comes h = requests w v (next_id w.hub.connections) bytes comes h
happened task w v send goes h = sends w v (next_id w.hub.connections) (due (client_settings task) w.client) goes h
happened task w v (to_server n) goes h = to_servers w v n w.connection goes h
happened task w v (to_client n) goes h = to_clients (wanted_by task) w v n w.connection goes h
happened task w v cut goes h = cuts w v w.connection goes h
happened task w v restart goes h = leaves (record w { client = restarted w.client }) v w.connection goes (begins_anew w.client)
happened task w v reconcile goes h = reconciles task w v w.client.cache (next_id w.hub.connections) goes h

stepped : (task : Task) (w v : World) (e : WorldEvent) → Steps task w e v → KeepsIn w → KeepsIn v
stepped task w v e (mid, happens, is) h = subst KeepsIn (sym is) (happened task w mid e happens h)

ran : (task : Task) (i : ℕ) (w : World) (es : List WorldEvent) (v : World) (reports : List Report) → Runs task i w es v reports → KeepsIn w → KeepsIn v
ran task i w [] v reports is h = same w v is.0 h
ran task i w (e ∷ es) v reports (mid, others, steps, runs, are) h = ran task (suc i) mid es v others runs (stepped task w mid e steps h)

-- after any run from the start
pub watches_keep : (types : List ServedShape) (task : Task) (es : List WorldEvent) (w : World) (reports : List Report) → Runs task 1 (start types) es w reports → Keeps w.client
watches_keep types task es w reports runs = ran task 1 (start types) es w reports runs (begins_anew (start types).client)
