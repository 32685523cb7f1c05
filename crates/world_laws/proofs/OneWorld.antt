-- Events lead to one world, with one list of reports.
use Rattle.std.specs.Prelude.{◌≡◌, ℕ, suc, ◌+◌, Bool, true, false, List, [], ◌∷◌, ◌++◌, length, take, drop, Option, Some, None}
use Rattle.std.proofs.Common.{sym, ◌∙◌, ap, subst}
use Rattle.httpedge.proofs.Outcomes.{one_step}
use Rattle.httpedge.specs.Connections.{next_id}
use Rattle.httpedge.specs.Steps as edge
use Rattle.decoder.specs.Wanted.{Wanted}
use Rattle.reflector.specs.Client.{Cache, Client}
use Rattle.reflector.specs.InformerViews.{due}
use Rattle.reflector.specs.Run.{asked, closed, receives_all, restarted, taken}
use Rattle.wireclient.specs.Reads.{Items}
use Rattle.wireclient.specs.Reply.{ReplyItem}
use Rattle.summary.specs.Apply.{apply_request}
use Rattle.summary.specs.Counts.{summed_of}
use Rattle.world_laws.specs.Tasks.{Task, client_settings, wanted_by}
use Rattle.world_laws.specs.Reports.{Report, Runs, reports_after}
use Rattle.world_laws.specs.World.{ComesInOnePiece, Cuts, Delivers, ToServer, Hands, ToClient, Happens, Receives, HubTakes, Leaves, ClientConnection, Reconciles, Requests, Sends, Steps, TakesUnless, World, WorldEvent, cut, is_by_peer_on, after_move, other, reconcile, reply_on, request, restart, send, to_client, to_server}

one_hub : (w v u : World) (e : edge.Event) → HubTakes w e v → HubTakes w e u → v ≡ u
one_hub w v u e (s, a, p) (t, b, q) = let f : edge.State → World = λ x. record w { hub = x } in p ∙ ap f (one_step w.hub s t e a b) ∙ sym q

-- the same from worlds that are the same
then_hub : (w x v u : World) (e : edge.Event) → w ≡ x → HubTakes w e v → HubTakes x e u → v ≡ u
then_hub w x v u e same a b = let P : World → Type 0 = λ y. HubTakes y e u in one_hub w v u e a (subst P (sym same) b)

one_asked : (w : World) (id : ℕ) (bytes : List ℕ) (v u : World) → ComesInOnePiece w id bytes v → ComesInOnePiece w id bytes u → v ≡ u
one_asked w id bytes v u (m, a, c) (n, b, d) = then_hub m n v u (edge.comes id bytes) (one_hub w m n (edge.opens id) a b) c d

one_requested : (w : World) (id : Option ℕ) (bytes : List ℕ) (v u : World) → Requests w id bytes v → Requests w id bytes u → v ≡ u
one_requested w None bytes v u p q = p ∙ sym q
one_requested w (Some id) bytes v u p q = one_asked (record w { requested = w.requested ++ id ∷ [] }) id bytes v u p q

one_taken : (b : Bool) (w : World) (e : edge.Event) (v u : World) → TakesUnless b w e v → TakesUnless b w e u → v ≡ u
one_taken true w e v u p q = p ∙ sym q
one_taken false w e v u p q = one_hub w v u e p q

one_left : (w : World) (own : Option ClientConnection) (v u : World) → Leaves w own v → Leaves w own u → v ≡ u
one_left w None v u p q = p ∙ sym q
one_left w (Some own) v u p q = one_hub (record w { connection = None }) v u (edge.goes own.id) p q

one_sent : (w : World) (id : Option ℕ) (bytes : Option (List ℕ)) (v u : World) → Sends w id bytes v → Sends w id bytes u → v ≡ u
one_sent w None bytes v u p q = p ∙ sym q
one_sent w (Some id) None v u p q = p ∙ sym q
one_sent w (Some id) (Some bytes) v u (m, mm, a, b, p) (n, nn, c, d, q) =
    let f : World → World = λ x. record x { client = asked x.client; connection = Some (record { id = id; unsent = bytes; handed = 0 }) } in
    p ∙ ap f (then_hub m n mm nn (edge.opens id) (one_left w w.connection m n a c) b d) ∙ sym q

one_brought : (w : World) (own : ClientConnection) (n : ℕ) (piece : List ℕ) (v u : World) → Delivers w own n piece v → Delivers w own n piece u → v ≡ u
one_brought w own n [] v u p q = p ∙ sym q
one_brought w own n (b ∷ bs) v u (m, a, p) (k, c, q) =
    let f : World → World = λ x. after_move x (record own { unsent = drop n own.unsent }) in p ∙ ap f (one_hub w m k (edge.comes own.id (b ∷ bs)) a c) ∙ sym q

one_brought_any : (w : World) (n : ℕ) (own : Option ClientConnection) (v u : World) → ToServer w n own v → ToServer w n own u → v ≡ u
one_brought_any w n None v u p q = p ∙ sym q
one_brought_any w n (Some own) v u p q = one_brought w own n (take n own.unsent) v u p q

-- bytes hold one list of items
abbrev pub OneReading : Type 0
OneReading = (bytes : List ℕ) (items others : List ReplyItem) → Items bytes items → Items bytes others → items ≡ others

pub same_rest : (xs ys zs : List ReplyItem) → xs ++ ys ≡ xs ++ zs → ys ≡ zs
same_rest [] ys zs e = e
same_rest (x ∷ xs) ys zs e = same_rest xs ys zs (let f : List ReplyItem → List ReplyItem = λ l. drop 1 l in ap f e)

same_news : (xs us ys zs : List ReplyItem) → xs ≡ us → xs ++ ys ≡ us ++ zs → ys ≡ zs
same_news xs us ys zs same e = same_rest xs ys zs (e ∙ ap (λ l. l ++ zs) (sym same))

one_received : OneReading → (b : Bool) (wanted : Wanted) (c : Client) (before piece : List ℕ) (d e : Client) → Receives b wanted c before piece d → Receives b wanted c before piece e → d ≡ e
one_received one false wanted c before piece d e p q = p ∙ sym q
one_received one true wanted c before piece d e (t, n, i, j, p) (u, m, k, l, q) =
    p ∙ ap (receives_all wanted c) (same_news t u n m (one before t u i k) (one (before ++ piece) (t ++ n) (u ++ m) j l)) ∙ sym q

one_handed : OneReading → (wanted : Wanted) (w : World) (own : ClientConnection) (piece : List ℕ) (v u : World) → Hands wanted w own piece v → Hands wanted w own piece u → v ≡ u
one_handed one wanted w own [] v u p q = p ∙ sym q
one_handed one wanted w own (b ∷ bs) v u (d, a, p) (e, c, q) =
    let f : Client → World = λ x. after_move (record w { client = x }) (record own { handed = own.handed + length (b ∷ bs) }) in
    p ∙ ap f (one_received one w.client.is_awaiting_reply wanted w.client (take own.handed (reply_on w own)) (b ∷ bs) d e a c) ∙ sym q

one_handed_any : OneReading → (wanted : Wanted) (w : World) (n : ℕ) (own : Option ClientConnection) (v u : World) → ToClient wanted w n own v → ToClient wanted w n own u → v ≡ u
one_handed_any one wanted w n None v u p q = p ∙ sym q
one_handed_any one wanted w n (Some own) v u p q = one_handed one wanted w own (take n (drop own.handed (reply_on w own))) v u p q

one_reconciled : (task : Task) (w : World) (c : Option Cache) (id : Option ℕ) (v u : World) → Reconciles task w c id v → Reconciles task w c id u → v ≡ u
one_reconciled task w None id v u p q = p ∙ sym q
one_reconciled task w (Some now) None v u p q = p ∙ sym q
one_reconciled task w (Some now) (Some id) v u p q = one_asked w id (apply_request (summed_of task.settings.label now.objects) task.settings.summary.0 task.settings.summary.1) v u p q

one_cut : (w : World) (own : Option ClientConnection) (v u : World) → Cuts w own v → Cuts w own u → v ≡ u
one_cut w None v u p q = p ∙ sym q
one_cut w (Some own) v u p q = one_left (record w { client = closed w.client }) (Some own) v u p q

one_happened : OneReading → (task : Task) (w : World) (e : WorldEvent) (v u : World) → Happens task w e v → Happens task w e u → v ≡ u
one_happened one task w (other e) v u p q = one_taken (is_by_peer_on w.connection e) w e v u p q
one_happened one task w (request bytes) v u p q = one_requested w (next_id w.hub.connections) bytes v u p q
one_happened one task w send v u p q = one_sent w (next_id w.hub.connections) (due (client_settings task) w.client) v u p q
one_happened one task w (to_server n) v u p q = one_brought_any w n w.connection v u p q
one_happened one task w (to_client n) v u p q = one_handed_any one (wanted_by task) w n w.connection v u p q
one_happened one task w cut v u p q = one_cut w w.connection v u p q
one_happened one task w restart v u p q = one_left (record w { client = restarted w.client }) w.connection v u p q
one_happened one task w reconcile v u p q = one_reconciled task w w.client.cache (next_id w.hub.connections) v u p q

one_stepped : OneReading → (task : Task) (w : World) (e : WorldEvent) (v u : World) → Steps task w e v → Steps task w e u → v ≡ u
one_stepped one task w e v u (m, a, p) (n, b, q) =
    let f : World → World = λ x. record x { client = taken x.client } in p ∙ ap f (one_happened one task w e m n a b) ∙ sym q

pub one_run : OneReading → (task : Task) (i : ℕ) (w : World) (es : List WorldEvent) (v u : World) (rs qs : List Report) → Runs task i w es v rs → Runs task i w es u qs → (v ≡ u) × (rs ≡ qs)
one_run one task i w [] v u rs qs (p, a) (q, b) = (p ∙ sym q, a ∙ sym b)
one_run one task i w (e ∷ es) v u rs qs (m, others, a, r, p) (n, more, b, s, q) =
    let same : m ≡ n = one_stepped one task w e m n a b in
    let P : World → Type 0 = λ x. Runs task (suc i) x es u more in
    let rest : (v ≡ u) × (others ≡ more) = one_run one task (suc i) m es v u others more r (subst P (sym same) s) in
    (rest.0, p ∙ ap (λ x. reports_after i w x ++ others) same ∙ ap (λ x. reports_after i w n ++ x) rest.1 ∙ sym q)
