-- What a client has read that awaits a reply isn't closed yet: no end came, and no bad byte. So it is after any run.
use Rattle.std.proofs.Common.{◌≡◌, ◌∙◌, inl, inr, ℕ, suc, ◌+◌, ◌≤◌, ◌==◌, ◌||◌, Bool, true, false, cond, List, [], ◌∷◌, ◌++◌, drop, length, take, Option, Some, None, refl, sym, ap, subst, arith, append-nil, append_assoc, length-append, length-take-le, take-append-drop, true≢false}
use Rattle.std.proofs.Math.Seq.{take-append_seam}
use Rattle.std.proofs.lemmas.Bool.{eqb-true, false_from_ne_true}
use Rattle.std.proofs.lemmas.List.{take-append-le}
use Rattle.std.specs.FinMap as fin
use Rattle.std.specs.Prelude.{⊤, option_map, unwrap_or}
use Rattle.requests.specs.Asks.{CallDecision}
use Rattle.requests.specs.Decision.{accepted, refused, undecided}
use Rattle.httpedge.proofs.Connected.{unknown}
use Rattle.httpedge.proofs.NextIds.{next_is_new}
use Rattle.httpedge.specs.Connections.{Connection, Connections, Phase, ended, gone, is_new, next_id, waiting, watching, written_on}
use Rattle.httpedge.specs.Runs as runs
use Rattle.httpedge.specs.Steps as edge
use Rattle.decoder.specs.Wanted.{Wanted}
use Rattle.reflector.specs.Client.{Cache, Client, SyncPhase, first, next, streaming}
use Rattle.reflector.specs.InformerViews.{due}
use Rattle.reflector.specs.Items.{over, unexpected}
use Rattle.reflector.specs.Run.{asked, closed, receives, receives_all, restarted, with_item, with_watch}
use Rattle.summary.specs.Apply.{apply_request}
use Rattle.summary.specs.Counts.{summed_of}
use Rattle.wireclient.specs.Reads.{Items, has_closed}
use Rattle.wireclient.specs.Reply.{ReplyItem, end, head, is_last, line, malformed, whole}
use Rattle.wire_laws.proofs.BegunAnswers.{opens_so}
use Rattle.liveness_laws.proofs.Connected.{closed_silent}
use Rattle.world_laws.proofs.Edges.{CameOn, StaysOrTurns, came, goes_new, stays_or_turns}
use Rattle.world_laws.proofs.Sending.{nothing_read}
use Rattle.world_laws.specs.Reports.{Report, Runs}
use Rattle.world_laws.specs.Tasks.{Task, client_settings, wanted_by}
use Rattle.world_laws.specs.World.{ClientConnection, ComesInOnePiece, Cuts, Delivers, Hands, Happens, HubTakes, Leaves, Receives, Reconciles, Requests, Sends, Steps, TakesUnless, ToClient, ToServer, World, WorldEvent, after_move, cut, is_by_peer_on, is_over, other, reconcile, reply_on, request, restart, send, to_client, to_server}

-- bytes hold one list of items
abbrev pub OneReading : Type 0
OneReading = (bytes : List ℕ) (items others : List ReplyItem) → Items bytes items → Items bytes others → items ≡ others

-- ---- the client

wrong : false ≡ true → ⊥
wrong e = absurd (true≢false (sym e))

over_silences : (c : Client) (cache : Option Cache) → (with_watch c cache over).is_awaiting_reply ≡ false
over_silences c None = refl
over_silences c (Some now) = refl

break_silences : (c : Client) (cache : Option Cache) → (with_watch c cache unexpected).is_awaiting_reply ≡ false
break_silences c None = refl
break_silences c (Some now) = refl

-- what closes a reply ends what it asks
last_silences : (wanted : Wanted) (c : Client) (sync : SyncPhase) (x : ReplyItem) → is_last x ≡ true → (with_item wanted c sync x).is_awaiting_reply ≡ false
last_silences wanted c sync (head code) last = absurd (wrong last)
last_silences wanted c sync (whole body) last = absurd (wrong last)
last_silences wanted c sync (line bytes) last = absurd (wrong last)
last_silences wanted c first end last = refl
last_silences wanted c (next revision token paged) end last = refl
last_silences wanted c streaming end last = over_silences c c.cache
last_silences wanted c first malformed last = refl
last_silences wanted c (next revision token paged) malformed last = refl
last_silences wanted c streaming malformed last = break_silences c c.cache

silenced : (wanted : Wanted) (c : Client) (x : ReplyItem) → is_last x ≡ true → (receives wanted c x).is_awaiting_reply ≡ false
silenced wanted c x last = go c.is_awaiting_reply refl
  where
    go : (b : Bool) → c.is_awaiting_reply ≡ b → (cond b (with_item wanted c c.sync x) c).is_awaiting_reply ≡ false
    go true is = last_silences wanted c c.sync x last
    go false is = is

stays_silent : (wanted : Wanted) (c : Client) (xs : List ReplyItem) → c.is_awaiting_reply ≡ false → (receives_all wanted c xs).is_awaiting_reply ≡ false
stays_silent wanted c [] is = is
stays_silent wanted c (x ∷ xs) is =
    stays_silent wanted (receives wanted c x) xs (ap (λ (b : Bool). (cond b (with_item wanted c c.sync x) c).is_awaiting_reply) is ∙ is)

-- a client that still awaits a reply after these was told no end
pub awaits_unclosed : (wanted : Wanted) (c : Client) (xs : List ReplyItem) → (receives_all wanted c xs).is_awaiting_reply ≡ true → has_closed xs ≡ false
awaits_unclosed wanted c [] awaits = refl
awaits_unclosed wanted c (x ∷ xs) awaits = go (is_last x) refl (awaits_unclosed wanted (receives wanted c x) xs awaits)
  where
    go : (b : Bool) → is_last x ≡ b → has_closed xs ≡ false → (b || has_closed xs) ≡ false
    go true last rest = absurd (wrong (sym (stays_silent wanted (receives wanted c x) xs (silenced wanted c x last)) ∙ awaits))
    go false last rest = rest

both_unclosed : (xs ys : List ReplyItem) → has_closed xs ≡ false → has_closed ys ≡ false → has_closed (xs ++ ys) ≡ false
both_unclosed [] ys one rest = rest
both_unclosed (x ∷ xs) ys one rest = go (is_last x) one (λ first. both_unclosed xs ys first rest)
  where
    go : (b : Bool) → (b || has_closed xs) ≡ false → (has_closed xs ≡ false → has_closed (xs ++ ys) ≡ false) → (b || has_closed (xs ++ ys)) ≡ false
    go true is others = absurd (true≢false is)
    go false is others = others is

-- ---- its connection

-- what it has read of what is written there
pub record Unclosed (all : Connections) (own : ClientConnection) : Type 0 where
  pub conn : Connection
  pub got : fin.get all own.id ≡ Some conn
  pub within : own.handed ≤ length conn.written
  pub still : (items : List ReplyItem) → Items (take own.handed conn.written) items → has_closed items ≡ false

abbrev pub UnclosedBy : Bool → Option ClientConnection → Connections → Type 0
UnclosedBy false own all = ⊤
UnclosedBy true None all = ⊤
UnclosedBy true (Some own) all = Unclosed all own

abbrev pub IsUnclosed : World → Type 0
IsUnclosed w = UnclosedBy w.client.is_awaiting_reply w.connection w.hub.connections

-- more was written there, or not
record Grew (c : Connection) (o : Option Connection) : Type 0 where
  then : Connection
  got : o ≡ Some then
  more : List ℕ
  is : then.written ≡ c.written ++ more

grew : (all later : Connections) (own : ClientConnection) (unsent : List ℕ) → (is : Unclosed all own) → Grew is.conn (fin.get later own.id) → Unclosed later (record own { unsent = unsent })
grew all later own unsent is on =
    let within : own.handed ≤ length is.conn.written = is.within in
    let both : length (is.conn.written ++ on.more) ≡ length is.conn.written + length on.more = length-append is.conn.written on.more in
    let same : length on.then.written ≡ length (is.conn.written ++ on.more) = ap length on.is in
    record {
      conn = on.then;
      got = on.got;
      within = omega (arith, within, both, same);
      still = λ items read. is.still items (subst (λ (l : List ℕ). Items l items) (ap (take own.handed) on.is ∙ take-append-le own.handed is.conn.written on.more is.within) read);
    }

same_conn : (c : Connection) (o : Option Connection) → o ≡ Some c → Grew c o
same_conn c o is = record { then = c; got = is; more = []; is = sym (append-nil c.written) }

-- an event that isn't its peer's
turned : (s : edge.State) (c : Connection) (o : Option Connection) → StaysOrTurns s c o → Grew c o
turned s c o (inl stays) = same_conn c o stays
turned s c o (inr has) = record { then = _; got = has.is; more = edge.turn_bytes has.turn; is = refl }

by_others : (s t : edge.State) (b : Bool) (own : Option ClientConnection) (e : edge.Event) → is_by_peer_on own e ≡ false → runs.Steps s e t → UnclosedBy b own s.connections → UnclosedBy b own t.connections
by_others s t false own e isnt steps is = tt
by_others s t true None e isnt steps is = tt
by_others s t true (Some own) e isnt steps is =
    grew s.connections t.connections own own.unsent is (turned s is.conn (fin.get t.connections own.id) (stays_or_turns s t own e is.conn isnt is.got steps))

-- bytes of the request
after_asked : (s : edge.State) (c : Connection) (bytes : List ℕ) (o : Option Connection) (decided : CallDecision) → o ≡ Some (edge.connection_after s.types s.machine s.last_tick c bytes decided) → Grew c o
after_asked s c bytes o undecided is = record { then = _; got = is; more = []; is = sym (append-nil c.written) }
after_asked s c bytes o (refused d) is = record { then = _; got = is; more = _; is = refl }
after_asked s c bytes o (accepted call) is = record { then = _; got = is; more = _; is = refl }

came_on : (s t : edge.State) (id : ℕ) (c : Connection) (bytes : List ℕ) (st : Phase) → CameOn s t id c bytes st → Grew c (fin.get t.connections id)
came_on s t id c bytes (waiting prefix) (asked, asks, is) = after_asked s c (prefix ++ bytes) (fin.get t.connections id) asked is
came_on s t id c bytes (watching w) is = same_conn c _ is
came_on s t id c bytes ended is = same_conn c _ is
came_on s t id c bytes (gone had_ended) is = same_conn c _ is

by_own : (s t : edge.State) (b : Bool) (own : ClientConnection) (bytes unsent : List ℕ) → runs.Steps s (edge.comes own.id bytes) t → UnclosedBy b (Some own) s.connections → UnclosedBy b (Some (record own { unsent = unsent })) t.connections
by_own s t false own bytes unsent steps is = tt
by_own s t true own bytes unsent steps is =
    grew s.connections t.connections own unsent is (came_on s t own.id is.conn bytes is.conn.phase (came s t own.id is.conn bytes is.got steps))

-- ---- an event

same : (w v : World) → v ≡ w → IsUnclosed w → IsUnclosed v
same w v is h = subst IsUnclosed (sym is) h

hub_takes : (w v : World) (e : edge.Event) → is_by_peer_on w.connection e ≡ false → HubTakes w e v → IsUnclosed w → IsUnclosed v
hub_takes w v e isnt (t, steps, is) h = subst IsUnclosed (sym is) (by_others w.hub t w.client.is_awaiting_reply w.connection e isnt steps h)

unless : (b : Bool) (w v : World) (e : edge.Event) → is_by_peer_on w.connection e ≡ b → TakesUnless b w e v → IsUnclosed w → IsUnclosed v
unless true w v e by is h = same w v is h
unless false w v e by takes h = hub_takes w v e by takes h

-- a new id isn't its
apart_from : (all : Connections) (own : ClientConnection) (id : ℕ) → is_new all id ≡ true → Unclosed all own → (own.id == id) ≡ false
apart_from all own id new is = false_from_ne_true (own.id == id) (λ e. known (eqb-true own.id id e))
  where
    known : own.id ≡ id → ⊥
    known e = let none : Some is.conn ≡ None = sym is.got ∙ ap (fin.get all) e ∙ unknown all id (fin.get all id) refl new in absurd cc

comes_in : (w v : World) (id : ℕ) (bytes : List ℕ) → is_new w.hub.connections id ≡ true → ComesInOnePiece w id bytes v → IsUnclosed w → IsUnclosed v
comes_in w v id bytes new (mid, (s, opens, is_mid), (t, comes, is)) h =
    subst IsUnclosed (sym (is ∙ ap (λ (x : World). record x { hub = t }) is_mid))
    (go w.client.is_awaiting_reply w.connection h (subst (λ (x : World). runs.Steps x.hub (edge.comes id bytes) t) is_mid comes))
  where
    go : (b : Bool) (own : Option ClientConnection) → UnclosedBy b own w.hub.connections → runs.Steps s (edge.comes id bytes) t → UnclosedBy b own t.connections
    go false own h comes = tt
    go true None h comes = tt
    go true (Some own) h comes =
        let apart : (own.id == id) ≡ false = apart_from w.hub.connections own id new h in
        by_others s t true (Some own) (edge.comes id bytes) apart comes (by_others w.hub s true (Some own) (edge.opens id) apart opens h)

requests : (w v : World) (id : Option ℕ) (bytes : List ℕ) → next_id w.hub.connections ≡ id → Requests w id bytes v → IsUnclosed w → IsUnclosed v
requests w v None bytes is_next is h = same w v is h
requests w v (Some id) bytes is_next comes h =
    comes_in (record w { requested = w.requested ++ id ∷ [] }) v id bytes (next_is_new w.hub.connections id is_next) comes h

reconciles : (task : Task) (w v : World) (cache : Option Cache) (id : Option ℕ) → next_id w.hub.connections ≡ id → Reconciles task w cache id v → IsUnclosed w → IsUnclosed v
reconciles task w v None id is_next is h = same w v is h
reconciles task w v (Some now) None is_next is h = same w v is h
reconciles task w v (Some now) (Some id) is_next comes h =
    comes_in w v id (apply_request (summed_of task.settings.label now.objects) task.settings.summary.0 task.settings.summary.1) (next_is_new w.hub.connections id is_next) comes h

silent : (v : World) → v.client.is_awaiting_reply ≡ false → IsUnclosed v
silent v is = subst (λ (b : Bool). UnclosedBy b v.connection v.hub.connections) (sym is) tt

-- nothing was read of a connection that opens
leaves_new : (w v : World) (own : Option ClientConnection) (id : ℕ) → Leaves w own v → is_new v.hub.connections id ≡ is_new w.hub.connections id
leaves_new w v None id is = ap (λ (x : World). is_new x.hub.connections id) is
leaves_new w v (Some own) id (t, steps, is) = ap (λ (x : World). is_new x.hub.connections id) is ∙ goes_new w.hub t own.id id steps

opened : OneReading → (s t : edge.State) (id : ℕ) (bytes : List ℕ) → is_new s.connections id ≡ true → runs.Steps s (edge.opens id) t → Unclosed t.connections (record { id = id; unsent = bytes; handed = 0 })
opened one s t id bytes new steps = record {
  conn = edge.opening s.connections;
  got = opens_so s t id new steps;
  within = omega arith;
  still = λ items read. ap has_closed (one [] items [] read nothing_read);
}

sends : OneReading → (w v : World) (id : Option ℕ) (bytes : Option (List ℕ)) → next_id w.hub.connections ≡ id → Sends w id bytes v → IsUnclosed w → IsUnclosed v
sends one w v None bytes is_next is h = same w v is h
sends one w v (Some id) None is_next is h = same w v is h
sends one w v (Some id) (Some bytes) is_next (alone, mid, leaves, (t, steps, is_mid), is) h =
    let new : is_new alone.hub.connections id ≡ true = leaves_new w alone w.connection id leaves ∙ next_is_new w.hub.connections id is_next in
    subst IsUnclosed (sym (is ∙ ap (λ (x : World). record x { client = asked x.client; connection = Some (record { id = id; unsent = bytes; handed = 0 }) }) is_mid))
    (opened one alone.hub t id bytes new steps)

-- the client may be told that its connection has ended
moved : (w : World) (own : ClientConnection) → UnclosedBy w.client.is_awaiting_reply (Some own) w.hub.connections → IsUnclosed (after_move w own)
moved w own h = go (is_over w own)
  where
    go : (b : Bool) → UnclosedBy (cond b (closed w.client) w.client).is_awaiting_reply (Some own) w.hub.connections
    go true = subst (λ (b : Bool). UnclosedBy b (Some own) w.hub.connections) (sym (closed_silent w.client)) tt
    go false = h

delivers : (w v : World) (own : ClientConnection) (n : ℕ) (piece : List ℕ) → w.connection ≡ Some own → Delivers w own n piece v → IsUnclosed w → IsUnclosed v
delivers w v own n [] has is h = same w v is h
delivers w v own n (b ∷ bs) has (mid, (t, steps, is_mid), is) h =
    subst IsUnclosed (sym (is ∙ ap (λ (x : World). after_move x (record own { unsent = drop n own.unsent })) is_mid))
    (moved (record w { hub = t }) (record own { unsent = drop n own.unsent })
    (by_own w.hub t w.client.is_awaiting_reply own (b ∷ bs) (drop n own.unsent) steps (subst (λ (o : Option ClientConnection). UnclosedBy w.client.is_awaiting_reply o w.hub.connections) has h)))

to_servers : (w v : World) (n : ℕ) (own : Option ClientConnection) → w.connection ≡ own → ToServer w n own v → IsUnclosed w → IsUnclosed v
to_servers w v n None has is h = same w v is h
to_servers w v n (Some own) has comes h = delivers w v own n (take n own.unsent) has comes h

-- ---- a piece of the reply

piece_parts : (k n : ℕ) (written piece : List ℕ) → take n (drop k written) ≡ piece → written ≡ (take k written ++ piece) ++ drop n (drop k written)
piece_parts k n written piece is =
    sym (take-append-drop k written)
    ∙ ap (λ (l : List ℕ). take k written ++ l) (sym (take-append-drop n (drop k written)) ∙ ap (λ (l : List ℕ). l ++ drop n (drop k written)) is)
    ∙ sym (append_assoc (take k written) piece (drop n (drop k written)))

piece_length : (k : ℕ) (written piece : List ℕ) → k ≤ length written → length (take k written ++ piece) ≡ k + length piece
piece_length k written piece within =
    let both : length (take k written ++ piece) ≡ length (take k written) + length piece = length-append (take k written) piece in
    let first : length (take k written) ≡ k = length-take-le k written within in
    omega (arith, both, first)

piece_within : (k n : ℕ) (written piece : List ℕ) → k ≤ length written → take n (drop k written) ≡ piece → k + length piece ≤ length written
piece_within k n written piece within is =
    let all : length written ≡ length ((take k written ++ piece) ++ drop n (drop k written)) = ap length (piece_parts k n written piece is) in
    let both : length ((take k written ++ piece) ++ drop n (drop k written)) ≡ length (take k written ++ piece) + length (drop n (drop k written)) = length-append (take k written ++ piece) (drop n (drop k written)) in
    let first : length (take k written ++ piece) ≡ k + length piece = piece_length k written piece within in
    omega (arith, all, both, first)

piece_prefix : (k n : ℕ) (written piece : List ℕ) → k ≤ length written → take n (drop k written) ≡ piece → take (k + length piece) written ≡ take k written ++ piece
piece_prefix k n written piece within is =
    ap (take (k + length piece)) (piece_parts k n written piece is)
    ∙ ap (λ (i : ℕ). take i ((take k written ++ piece) ++ drop n (drop k written))) (sym (piece_length k written piece within))
    ∙ take-append_seam (take k written ++ piece) (drop n (drop k written))

module _ (one : OneReading) (wanted : Wanted) where
  read_on : (all : Connections) (own : ClientConnection) (c d : Client) (n b : ℕ) (bs : List ℕ) → take n (drop own.handed (written_on all own.id)) ≡ b ∷ bs
      → Receives true wanted c (take own.handed (written_on all own.id)) (b ∷ bs) d → Unclosed all own → d.is_awaiting_reply ≡ true → Unclosed all (record own { handed = own.handed + length (b ∷ bs) })
  read_on all own c d n b bs piece (sent, news, before, after, received) is awaits =
      let written : written_on all own.id ≡ is.conn.written = ap (λ (o : Option Connection). unwrap_or (option_map (λ c. c.written) o) []) is.got in
      let piece_is : take n (drop own.handed is.conn.written) ≡ b ∷ bs = ap (λ (l : List ℕ). take n (drop own.handed l)) (sym written) ∙ piece in
      let first : has_closed sent ≡ false = is.still sent (subst (λ (l : List ℕ). Items (take own.handed l) sent) written before) in
      let then : has_closed news ≡ false = awaits_unclosed wanted c news (ap (λ (x : Client). x.is_awaiting_reply) (sym received) ∙ awaits) in
      let whole : Items (take (own.handed + length (b ∷ bs)) is.conn.written) (sent ++ news) =
      subst (λ (l : List ℕ). Items l (sent ++ news))
      (ap (λ (l : List ℕ). take own.handed l ++ b ∷ bs) written ∙ sym (piece_prefix own.handed n is.conn.written (b ∷ bs) is.within piece_is)) after in
      record {
        conn = is.conn;
        got = is.got;
        within = piece_within own.handed n is.conn.written (b ∷ bs) is.within piece_is;
        still = λ items read. ap has_closed (one (take (own.handed + length (b ∷ bs)) is.conn.written) items (sent ++ news) read whole) ∙ both_unclosed sent news first then;
      }

  read_by : (asks : Bool) (all : Connections) (own : ClientConnection) (c d : Client) (n b : ℕ) (bs : List ℕ) → c.is_awaiting_reply ≡ asks → take n (drop own.handed (written_on all own.id)) ≡ b ∷ bs
      → Receives asks wanted c (take own.handed (written_on all own.id)) (b ∷ bs) d → UnclosedBy asks (Some own) all → UnclosedBy d.is_awaiting_reply (Some (record own { handed = own.handed + length (b ∷ bs) })) all
  read_by false all own c d n b bs silent piece is h = subst (λ (x : Bool). UnclosedBy x (Some (record own { handed = own.handed + length (b ∷ bs) })) all) (sym (ap (λ (x : Client). x.is_awaiting_reply) is ∙ silent)) tt
  read_by true all own c d n b bs asks piece is h = go d.is_awaiting_reply refl
    where
      go : (x : Bool) → d.is_awaiting_reply ≡ x → UnclosedBy x (Some (record own { handed = own.handed + length (b ∷ bs) })) all
      go false awaits = tt
      go true awaits = read_on all own c d n b bs piece is h awaits

  hands : (w v : World) (own : ClientConnection) (n : ℕ) (piece : List ℕ) → take n (drop own.handed (reply_on w own)) ≡ piece → w.connection ≡ Some own → Hands wanted w own piece v → IsUnclosed w → IsUnclosed v
  hands w v own n [] is_piece has is h = same w v is h
  hands w v own n (b ∷ bs) is_piece has (d, receives, is) h =
      subst IsUnclosed (sym is)
      (moved (record w { client = d }) (record own { handed = own.handed + length (b ∷ bs) })
      (read_by w.client.is_awaiting_reply w.hub.connections own w.client d n b bs refl is_piece receives (subst (λ (o : Option ClientConnection). UnclosedBy w.client.is_awaiting_reply o w.hub.connections) has h)))

  to_clients : (w v : World) (n : ℕ) (own : Option ClientConnection) → w.connection ≡ own → ToClient wanted w n own v → IsUnclosed w → IsUnclosed v
  to_clients w v n None has is h = same w v is h
  to_clients w v n (Some own) has comes h = hands w v own n (take n (drop own.handed (reply_on w own))) refl has comes h

-- ---- what gives a connection up

cuts : (w v : World) (own : Option ClientConnection) → Cuts w own v → IsUnclosed w → IsUnclosed v
cuts w v None is h = same w v is h
cuts w v (Some own) (t, steps, is) h = silent v (ap (λ (x : World). x.client.is_awaiting_reply) is ∙ closed_silent w.client)

left_anew : (w v : World) (own : Option ClientConnection) → Leaves (record w { client = restarted w.client }) own v → IsUnclosed v
left_anew w v None is = silent v (ap (λ (x : World). x.client.is_awaiting_reply) is)
left_anew w v (Some own) (t, steps, is) = silent v (ap (λ (x : World). x.client.is_awaiting_reply) is)

-- ---- runs

module _ (one : OneReading) (task : Task) where
  happened : (w v : World) (e : WorldEvent) → Happens task w e v → IsUnclosed w → IsUnclosed v
  happened w v (other e) takes h = unless (is_by_peer_on w.connection e) w v e refl takes h
  happened w v (request bytes) comes h = requests w v (next_id w.hub.connections) bytes refl comes h
  happened w v send goes h = sends one w v (next_id w.hub.connections) (due (client_settings task) w.client) refl goes h
  happened w v (to_server n) goes h = to_servers w v n w.connection refl goes h
  happened w v (to_client n) goes h = to_clients one (wanted_by task) w v n w.connection refl goes h
  happened w v cut goes h = cuts w v w.connection goes h
  happened w v restart goes h = left_anew w v w.connection goes
  happened w v reconcile goes h = reconciles task w v w.client.cache (next_id w.hub.connections) refl goes h

  pub unclosed_on : (w v : World) (e : WorldEvent) → Steps task w e v → IsUnclosed w → IsUnclosed v
  unclosed_on w v e (mid, happens, is) h = subst IsUnclosed (sym is) (happened w mid e happens h)

  pub unclosed_run : (i : ℕ) (w : World) (es : List WorldEvent) (v : World) (reports : List Report) → Runs task i w es v reports → IsUnclosed w → IsUnclosed v
  unclosed_run i w [] v reports (is, none) h = same w v is h
  unclosed_run i w (e ∷ es) v reports (mid, others, steps, runs, are) h = unclosed_run (suc i) mid es v others runs (unclosed_on w mid e steps h)
