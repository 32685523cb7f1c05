-- What the events of a run wrote on a connection, joined.
use Rattle.std.proofs.Common.{◌≡◌, ◌∙◌, ◌==◌, ℕ, zero, suc, arith, Bool, true, false, cond, not, is_lt, ◌&&◌, List, [], ◌∷◌, ◌++◌, length, map, drop, take, Option, Some, None, refl, sym, ap, ap₂, subst, append-nil, option_map}
use Rattle.std.specs.Prelude.{T, unwrap_or}
use Rattle.std.specs.FinMap as fin
use Rattle.std.specs.FinMap.Entries.{below_all, find, is_sorted}
use Rattle.std.specs.List.{filter, flat_map}
use Rattle.std.specs.Ordering.{eq_by_cmp, is_eq, nat_cmp}
use Rattle.std.specs.declared.cmp.Ordering.{Ordering}
use Rattle.std.specs.declared.cmp.Ordering.TheVariants.{Less, Equal, Greater}
use Rattle.std.proofs.Math.Seq.{take-append_seam}
use Rattle.std.proofs.lemmas.List.{take-append-drop}
use Rattle.decoder.specs.Wanted.{Wanted}
use Rattle.httpedge.specs.Connections.{Connection, Connections, written_on}
use Rattle.httpedge.specs.Steps as edge
use Rattle.reflector.specs.Client.{Cache}
use Rattle.reflector.specs.InformerViews.{due}
use Rattle.reflector.specs.Run.{closed, restarted}
use Rattle.httpedge.proofs.Connected.{tied_same}
use Rattle.summary.specs.Apply.{apply_request}
use Rattle.summary.specs.Counts.{summed_of}
use Rattle.httpedge.specs.Connections as connections
use Rattle.world_laws.specs.Tasks.{Task, client_settings, wanted_by}
use Rattle.world_laws.specs.World as worlds
use Rattle.world_laws.specs.World.{ClientConnection, ComesInOnePiece, Cuts, Delivers, Hands, Happens, HubTakes, Leaves, Reconciles, Requests, Sends, Steps, TakesUnless, ToClient, ToServer, World, WorldEvent}
use Rattle.httpedge.specs.Effects.{added_on}
use Rattle.world.specs.Stepping.{added, is_some_bytes, joined_on}
use Rattle.world.proofs.Worlds.{Grown, Grows, grown, grown_twice}

-- ---- an event

same_grown : (w v : World) → v ≡ w → Grown w.hub v.hub
same_grown w v is = subst (λ (x : World). Grown w.hub x.hub) (sym is) (λ id. ([], sym (append-nil (written_on w.hub.connections id))))

hub_grown : Grows → (w v : World) (e : edge.Event) → HubTakes w e v → Grown w.hub v.hub
hub_grown law w v e (t, steps, is) = subst (λ (x : World). Grown w.hub x.hub) (sym is) (grown law w.hub t e steps)

unless_grown : Grows → (b : Bool) (w v : World) (e : edge.Event) → TakesUnless b w e v → Grown w.hub v.hub
unless_grown law true w v e is = same_grown w v is
unless_grown law false w v e takes = hub_grown law w v e takes

comes_grown : Grows → (w : World) (id : ℕ) (bytes : List ℕ) (v : World) → ComesInOnePiece w id bytes v → Grown w.hub v.hub
comes_grown law w id bytes v (mid, opens, comes) = grown_twice w.hub mid.hub v.hub (hub_grown law w mid (edge.opens id) opens) (hub_grown law mid v (edge.comes id bytes) comes)

requests_grown : Grows → (w : World) (next : Option ℕ) (bytes : List ℕ) (v : World) → Requests w next bytes v → Grown w.hub v.hub
requests_grown law w None bytes v is = same_grown w v is
requests_grown law w (Some id) bytes v comes = comes_grown law (record w { requested = w.requested ++ id ∷ [] }) id bytes v comes

leaves_grown : Grows → (w : World) (own : Option ClientConnection) (v : World) → Leaves w own v → Grown w.hub v.hub
leaves_grown law w None v is = same_grown w v is
leaves_grown law w (Some own) v takes = hub_grown law (record w { connection = None }) v (edge.goes own.id) takes

cuts_grown : Grows → (w : World) (own : Option ClientConnection) (v : World) → Cuts w own v → Grown w.hub v.hub
cuts_grown law w None v is = same_grown w v is
cuts_grown law w (Some own) v left = leaves_grown law (record w { client = closed w.client }) (Some own) v left

sends_grown : Grows → (w : World) (next : Option ℕ) (bytes : Option (List ℕ)) (v : World) → Sends w next bytes v → Grown w.hub v.hub
sends_grown law w None bytes v is = same_grown w v is
sends_grown law w (Some id) None v is = same_grown w v is
sends_grown law w (Some id) (Some bytes) v (alone, opened, left, opens, is) =
    subst (λ (x : World). Grown w.hub x.hub) (sym is) (grown_twice w.hub alone.hub opened.hub (leaves_grown law w w.connection alone left) (hub_grown law alone opened (edge.opens id) opens))

delivers_grown : Grows → (w : World) (own : ClientConnection) (n : ℕ) (piece : List ℕ) (v : World) → Delivers w own n piece v → Grown w.hub v.hub
delivers_grown law w own n [] v is = same_grown w v is
delivers_grown law w own n (b ∷ bs) v (mid, takes, is) = subst (λ (x : World). Grown w.hub x.hub) (sym is) (hub_grown law w mid (edge.comes own.id (b ∷ bs)) takes)

to_server_grown : Grows → (w : World) (n : ℕ) (own : Option ClientConnection) (v : World) → ToServer w n own v → Grown w.hub v.hub
to_server_grown law w n None v is = same_grown w v is
to_server_grown law w n (Some own) v delivers = delivers_grown law w own n (take n own.unsent) v delivers

hands_grown : (wanted : Wanted) (w : World) (own : ClientConnection) (piece : List ℕ) (v : World) → Hands wanted w own piece v → Grown w.hub v.hub
hands_grown wanted w own [] v is = same_grown w v is
hands_grown wanted w own (b ∷ bs) v (d, receives, is) = subst (λ (x : World). Grown w.hub x.hub) (sym is) (same_grown w w refl)

to_client_grown : (wanted : Wanted) (w : World) (n : ℕ) (own : Option ClientConnection) (v : World) → ToClient wanted w n own v → Grown w.hub v.hub
to_client_grown wanted w n None v is = same_grown w v is
to_client_grown wanted w n (Some own) v hands = hands_grown wanted w own (take n (drop own.handed (worlds.reply_on w own))) v hands

reconciles_grown : Grows → (task : Task) (w : World) (cache : Option Cache) (next : Option ℕ) (v : World) → Reconciles task w cache next v → Grown w.hub v.hub
reconciles_grown law task w None next v is = same_grown w v is
reconciles_grown law task w (Some now) None v is = same_grown w v is
reconciles_grown law task w (Some now) (Some id) v comes =
    comes_grown law w id (apply_request (summed_of task.settings.label now.objects) task.settings.summary.0 task.settings.summary.1) v comes

happens_grown : Grows → (task : Task) (w : World) (e : WorldEvent) (v : World) → Happens task w e v → Grown w.hub v.hub
happens_grown law task w (worlds.other e) v takes = unless_grown law (worlds.is_by_peer_on w.connection e) w v e takes
happens_grown law task w (worlds.request bytes) v requests = requests_grown law w (connections.next_id w.hub.connections) bytes v requests
happens_grown law task w worlds.send v sends = sends_grown law w (connections.next_id w.hub.connections) (due (client_settings task) w.client) v sends
happens_grown law task w (worlds.to_server n) v moves = to_server_grown law w n w.connection v moves
happens_grown law task w (worlds.to_client n) v moves = to_client_grown (wanted_by task) w n w.connection v moves
happens_grown law task w worlds.cut v cuts = cuts_grown law w w.connection v cuts
happens_grown law task w worlds.restart v left = leaves_grown law (record w { client = restarted w.client }) w.connection v left
happens_grown law task w worlds.reconcile v reconciles = reconciles_grown law task w w.client.cache (connections.next_id w.hub.connections) v reconciles

steps_grown : Grows → (task : Task) (w : World) (e : WorldEvent) (v : World) → Steps task w e v → Grown w.hub v.hub
steps_grown law task w e v (mid, happens, is) = subst (λ (x : World). Grown w.hub x.hub) (sym is) (happens_grown law task w e mid happens)

-- ---- what is added to one connection

-- what stands behind the first bytes
rest_is : (xs ys more : List ℕ) → ys ≡ xs ++ more → ys ≡ xs ++ drop (length xs) ys
rest_is xs ys more is =
    sym (take-append-drop (length xs) ys) ∙ ap (λ (zs : List ℕ). zs ++ drop (length xs) ys) (ap (take (length xs)) is ∙ take-append_seam xs more)

no_bytes : (bytes : List ℕ) → is_some_bytes (0, bytes) ≡ false → bytes ≡ []
no_bytes [] is = refl
no_bytes (b ∷ bs) is = let bad : true ≡ false = sym (ap not (not_zero (length bs))) ∙ is in absurd cc
  where
    not_zero : (k : ℕ) → (suc k == 0) ≡ false
    not_zero k = grind arith

kept_if : (id : ℕ) (e : ℕ × List ℕ) (es : List (ℕ × List ℕ)) (b : Bool) → is_some_bytes e ≡ b → joined_on id (filter is_some_bytes es) ≡ joined_on id es
    → joined_on id (cond b (e ∷ filter is_some_bytes es) (filter is_some_bytes es)) ≡ joined_on id (e ∷ es)
kept_if id e es true is rest = ap (λ (xs : List ℕ). cond (eq_by_cmp nat_cmp id e.0) e.1 [] ++ xs) rest
kept_if id e es false is rest = rest ∙ ap (λ (xs : List ℕ). xs ++ joined_on id es) (sym (empty (eq_by_cmp nat_cmp id e.0) (no_bytes e.1 is)))
  where
    empty : (b : Bool) → e.1 ≡ [] → cond b e.1 [] ≡ []
    empty true none = none
    empty false none = refl

some_joined : (id : ℕ) (es : List (ℕ × List ℕ)) → joined_on id (filter is_some_bytes es) ≡ joined_on id es
some_joined id [] = refl
some_joined id (e ∷ es) = kept_if id e es (is_some_bytes e) refl (some_joined id es)

both : (a b : Bool) → T (a && b) → T a × T b
both true true h = (tt, tt)
both true false h = absurd h
both false b h = absurd h

not_equal : (r : Ordering) → T (is_lt r) → is_eq r ≡ false
not_equal Less h = refl
not_equal Equal h = absurd h
not_equal Greater h = absurd h

none_below : (id : ℕ) (es : List (ℕ × Connection)) → T (below_all nat_cmp id es) → find nat_cmp id es ≡ None
none_below id [] below = refl
none_below id (e ∷ es) below =
    let parts = both (is_lt (nat_cmp id e.0)) (below_all nat_cmp id es) below in
    ap (λ (b : Bool). cond b (Some e.1) (find nat_cmp id es)) (not_equal (nat_cmp id e.0) parts.0) ∙ none_below id es parts.1

-- a row for each id
abbrev rows : (ℕ → List ℕ) → List ℕ → List (ℕ × List ℕ)
rows f ids = map (λ k. (k, f k)) ids

abbrev if_found : List ℕ → Option Connection → List ℕ
if_found bytes o = unwrap_or (option_map (λ (c : Connection). bytes) o) []

row_joined : (f : ℕ → List ℕ) (id : ℕ) (e : ℕ × Connection) (es : List (ℕ × Connection)) (b : Bool) → eq_by_cmp nat_cmp id e.0 ≡ b → T (below_all nat_cmp e.0 es)
    → joined_on id (rows f (map (λ x. x.0) es)) ≡ if_found (f id) (find nat_cmp id es)
    → cond b (f e.0) [] ++ joined_on id (rows f (map (λ x. x.0) es)) ≡ if_found (f id) (cond b (Some e.1) (find nat_cmp id es))
row_joined f id e es true is below rest =
    let here : id ≡ e.0 = tied_same id e.0 is in
    let none : find nat_cmp id es ≡ None = subst (λ (k : ℕ). find nat_cmp k es ≡ None) (sym here) (none_below e.0 es below) in
    ap (λ (xs : List ℕ). f e.0 ++ xs) (rest ∙ ap (if_found (f id)) none) ∙ append-nil (f e.0) ∙ ap f (sym here)
row_joined f id e es false is below rest = rest

-- each id has one row
rows_joined : (f : ℕ → List ℕ) (id : ℕ) (es : List (ℕ × Connection)) → T (is_sorted nat_cmp es) → joined_on id (rows f (map (λ e. e.0) es)) ≡ if_found (f id) (find nat_cmp id es)
rows_joined f id [] sorted = refl
rows_joined f id (e ∷ es) sorted =
    let parts = both (below_all nat_cmp e.0 es) (is_sorted nat_cmp es) sorted in
    row_joined f id e es (eq_by_cmp nat_cmp id e.0) refl parts.0 (rows_joined f id es parts.1)

none_left : (n : ℕ) → drop {A = ℕ} n [] ≡ []
none_left zero = refl
none_left (suc n) = refl

-- nothing is written on a connection that there isn't
unopened : (s t : edge.State) (id : ℕ) (o : Option Connection) → fin.get t.connections id ≡ o → if_found (added_on s t id) o ≡ added_on s t id
unopened s t id (Some c) is = refl
unopened s t id None is =
    let n = length (written_on s.connections id) in
    let nothing : written_on t.connections id ≡ [] = ap (λ (o : Option Connection). unwrap_or (option_map (λ (c : Connection). c.written) o) []) is in
    sym (ap (drop n) nothing ∙ none_left n)

added_joined : (s t : edge.State) (id : ℕ) → joined_on id (added s t) ≡ added_on s t id
added_joined s t id =
    some_joined id (rows (added_on s t) (fin.keys t.connections)) ∙ rows_joined (added_on s t) id (fin.entries t.connections) (fin.entries_sorted t.connections)
    ∙ ap (if_found (added_on s t id)) (sym (fin.get-entries t.connections id))
    ∙ unopened s t id (fin.get t.connections id) refl

-- ---- all of it

pub step_joins : Grows → (task : Task) (w : World) (e : WorldEvent) (v : World) → Steps task w e v → (id : ℕ)
    → written_on v.hub.connections id ≡ written_on w.hub.connections id ++ joined_on id (added w.hub v.hub)
step_joins law task w e v steps id =
    let more = steps_grown law task w e v steps id in
    rest_is (written_on w.hub.connections id) (written_on v.hub.connections id) more.0 more.1 ∙ ap (λ (xs : List ℕ). written_on w.hub.connections id ++ xs) (sym (added_joined w.hub v.hub id))
