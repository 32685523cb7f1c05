-- How many connections of others are open: moves of the schedule make these no more, since what the client opens takes the place of what it leaves.
use Rattle.std.proofs.Common.{◌≡◌, ◌≢◌, ◌∙◌, ℕ, suc, ◌+◌, ◌≤◌, Bool, true, false, cond, T, List, [], ◌∷◌, ◌++◌, drop, length, take, Option, Some, None, option_map, refl, sym, ap, subst, arith, true≢false}
use Rattle.std.specs.Cmp.{nat_cmp_total}
use Rattle.std.specs.FinMap as fin
use Rattle.std.specs.FinMap.Entries as entries
use Rattle.std.specs.Ordering.{eq_by_cmp, is_eq, nat_cmp}
use Rattle.std.specs.declared.cmp.Ordering.{Ordering}
use Rattle.std.specs.declared.cmp.Ordering.TheVariants.{Less, Equal, Greater}
use Rattle.requests.specs.Asks.{CallDecision}
use Rattle.httpedge.proofs.Connected.{Entries, changed, got_each, hidden, itself, one_if, opens_first, opens_in, put, put_by, sorted_same, tied_same}
use Rattle.httpedge.specs.Connections.{Connection, Connections, Phase, each, ended, gone, has_ended, is_open, next_id, open_count, waiting, watching, with_phase}
use Rattle.httpedge.specs.Runs as runs
use Rattle.httpedge.specs.Steps.{Refusal, State, after_turn, applied_event, by_connection, comes, connection_after, goes, opening, opens, phase_after, pumps, received_by, refusal, ticks, unless_refused, with_connection, with_connections, with_tick, with_turn}
use Rattle.httpedge.specs.Watches.{Turn, Watch, pumped, ticked}
use Rattle.decoder.specs.Wanted.{Wanted}
use Rattle.liveness_laws.proofs.Hub.{closed_count, gone_by, goes_so, insert_count, left_by}
use Rattle.liveness_laws.proofs.NextMoves.{OnOwn, next_holds}
use Rattle.liveness_laws.specs.Listable.{others_of}
use Rattle.world_laws.specs.Moves.{Pursues, next_move}
use Rattle.reflector.specs.InformerViews.{due}
use Rattle.reflector.specs.Run.{closed}
use Rattle.world_laws.specs.Reports.{Report}
use Rattle.world_laws.specs.Tasks.{Task, client_settings, wanted_by}
use Rattle.world_laws.specs.World.{ClientConnection, Cuts, Delivers, Hands, Happens, HubTakes, Leaves, Sends, TakesUnless, ToClient, ToServer, World, WorldEvent, cut, is_by_peer_on, other, reply_on, send, to_client, to_server}

-- ---- connections but one

put_remains : (all : Connections) (id : ℕ) (c : Connection) → fin.remove (fin.insert all id c) id ≡ fin.remove all id
put_remains all id c = fin.same_map nat_cmp_total fin.nat_cmp-IsAntisymmetric _ _ (λ q.
    fin.get-remove nat_cmp_total (fin.insert all id c) id q ∙ ap (cond (eq_by_cmp nat_cmp q id) None) (fin.get-insert nat_cmp_total all id c q)
    ∙ hidden (eq_by_cmp nat_cmp q id) None (Some c) (fin.get all q) ∙ sym (fin.get-remove nat_cmp_total all id q))

put_back : (all : Connections) (id : ℕ) (c : Connection) → fin.insert all id c ≡ fin.insert (fin.remove all id) id c
put_back all id c = fin.same_map nat_cmp_total fin.nat_cmp-IsAntisymmetric _ _ (λ q.
    fin.get-insert nat_cmp_total all id c q ∙ sym (hidden (eq_by_cmp nat_cmp q id) (Some c) None (fin.get all q))
    ∙ ap (cond (eq_by_cmp nat_cmp q id) (Some c)) (sym (fin.get-remove nat_cmp_total all id q)) ∙ sym (fin.get-insert nat_cmp_total (fin.remove all id) id c q))

-- what stands there under the id, put there again, changes nothing
put_same : (all : Connections) (id : ℕ) (c : Connection) → fin.get all id ≡ Some c → fin.insert all id c ≡ all
put_same all id c got = fin.same_map nat_cmp_total fin.nat_cmp-IsAntisymmetric _ _ (λ q. fin.get-insert nat_cmp_total all id c q ∙ go q (eq_by_cmp nat_cmp q id) (tied_same q id))
  where
    go : (q : ℕ) (b : Bool) → (b ≡ true → q ≡ id) → cond b (Some c) (fin.get all q) ≡ fin.get all q
    go q true same = sym (ap (fin.get all) (same refl) ∙ got)
    go q false same = refl

absent : (all : Connections) (id : ℕ) → fin.get all id ≡ None → fin.remove all id ≡ all
absent all id none = fin.same_map nat_cmp_total fin.nat_cmp-IsAntisymmetric _ _ (λ q. fin.get-remove nat_cmp_total all id q ∙ go q (eq_by_cmp nat_cmp q id) (tied_same q id))
  where
    go : (q : ℕ) (b : Bool) → (b ≡ true → q ≡ id) → cond b None (fin.get all q) ≡ fin.get all q
    go q true same = sym (ap (fin.get all) (same refl) ∙ none)
    go q false same = refl

both_gone : (a b : Bool) (o : Option Connection) → cond a None (cond b None o) ≡ cond b None (cond a None o)
both_gone true true o = refl
both_gone true false o = refl
both_gone false true o = refl
both_gone false false o = refl

remove_both : (all : Connections) (id k : ℕ) → fin.remove (fin.remove all id) k ≡ fin.remove (fin.remove all k) id
remove_both all id k = fin.same_map nat_cmp_total fin.nat_cmp-IsAntisymmetric _ _ (λ q.
    fin.get-remove nat_cmp_total (fin.remove all id) k q ∙ ap (cond (eq_by_cmp nat_cmp q k) None) (fin.get-remove nat_cmp_total all id q)
    ∙ both_gone (eq_by_cmp nat_cmp q k) (eq_by_cmp nat_cmp q id) (fin.get all q)
    ∙ sym (ap (cond (eq_by_cmp nat_cmp q id) None) (fin.get-remove nat_cmp_total all k q)) ∙ sym (fin.get-remove nat_cmp_total (fin.remove all k) id q))

one_at_most : (a b : Bool) → (a ≡ true → b ≡ true → ⊥) → (o p : Option Connection) → cond a None (cond b o p) ≡ cond b o (cond a None p)
one_at_most true true apart o p = absurd (apart refl refl)
one_at_most true false apart o p = refl
one_at_most false true apart o p = refl
one_at_most false false apart o p = refl

remove_put : (all : Connections) (id k : ℕ) (c : Connection) → k ≢ id → fin.remove (fin.insert all id c) k ≡ fin.insert (fin.remove all k) id c
remove_put all id k c apart = fin.same_map nat_cmp_total fin.nat_cmp-IsAntisymmetric _ _ (λ q.
    fin.get-remove nat_cmp_total (fin.insert all id c) k q ∙ ap (cond (eq_by_cmp nat_cmp q k) None) (fin.get-insert nat_cmp_total all id c q)
    ∙ one_at_most (eq_by_cmp nat_cmp q k) (eq_by_cmp nat_cmp q id) (λ one other. apart (sym (tied_same q k one) ∙ tied_same q id other)) (Some c) (fin.get all q)
    ∙ ap (cond (eq_by_cmp nat_cmp q id) (Some c)) (sym (fin.get-remove nat_cmp_total all k q)) ∙ sym (fin.get-insert nat_cmp_total (fin.remove all k) id c q))

through : (b : Bool) (f : Connection → Connection) (o : Option Connection) → cond b None (option_map f o) ≡ option_map f (cond b None o)
through true f o = refl
through false f o = refl

each_remains : (f : ℕ → Connection → Connection) (all : Connections) (id : ℕ) → fin.remove (each f all) id ≡ each f (fin.remove all id)
each_remains f all id = fin.same_map nat_cmp_total fin.nat_cmp-IsAntisymmetric _ _ (λ q.
    fin.get-remove nat_cmp_total (each f all) id q ∙ ap (cond (eq_by_cmp nat_cmp q id) None) (got_each f all q) ∙ through (eq_by_cmp nat_cmp q id) (f q) (fin.get all q)
    ∙ ap (option_map (f q)) (sym (fin.get-remove nat_cmp_total all id q)) ∙ sym (got_each f (fin.remove all id) q))

-- ---- how many of them are open

-- one more doesn't make them fewer
more_in : (id : ℕ) (c : Connection) (es : Entries) → entries.find nat_cmp id es ≡ None → opens_in es ≤ opens_in (put id c es)
more_in id c [] none = let first : opens_in ((id, c) ∷ []) ≡ one_if (is_open c.phase) + opens_in [] = opens_first (id, c) [] in omega (arith, first)
more_in id c (e ∷ es) none = go (nat_cmp id e.0) none (more_in id c es)
  where
    go : (r : Ordering) → cond (is_eq r) (Some e.1) (entries.find nat_cmp id es) ≡ None → (entries.find nat_cmp id es ≡ None → opens_in es ≤ opens_in (put id c es)) → opens_in (e ∷ es) ≤ opens_in (put_by id c e es r)
    go Less none rest = let first : opens_in ((id, c) ∷ e ∷ es) ≡ one_if (is_open c.phase) + opens_in (e ∷ es) = opens_first (id, c) (e ∷ es) in omega (arith, first)
    go Equal none rest = absurd cc
    go Greater none rest =
        let first : opens_in (e ∷ put id c es) ≡ one_if (is_open e.1.phase) + opens_in (put id c es) = opens_first e (put id c es) in
        let old : opens_in (e ∷ es) ≡ one_if (is_open e.1.phase) + opens_in es = opens_first e es in
        let others : opens_in es ≤ opens_in (put id c es) = rest none in
        omega (arith, first, old, others)

fewer : (all : Connections) (id : ℕ) → open_count (fin.remove all id) ≤ open_count all
fewer all id = go (fin.get all id) refl
  where
    go : (o : Option Connection) → fin.get all id ≡ o → open_count (fin.remove all id) ≤ open_count all
    go None none = let same : open_count (fin.remove all id) ≡ open_count all = ap open_count (absent all id none) in omega (arith, same)
    go (Some c) got =
        let none : fin.get (fin.remove all id) id ≡ None = fin.get-remove nat_cmp_total all id id ∙ ap (λ (b : Bool). cond b None (fin.get all id)) (itself id) in
        let more : open_count (fin.remove all id) ≤ opens_in (put id c (fin.entries (fin.remove all id))) = more_in id c (fin.entries (fin.remove all id)) (sym (fin.get-entries (fin.remove all id) id) ∙ none) in
        let same : open_count all ≡ opens_in (put id c (fin.entries (fin.remove all id))) =
        ap open_count (sym (put_same all id c got) ∙ put_back all id c) ∙ ap opens_in (fin.entries-insert nat_cmp_total (fin.remove all id) id c) in
        omega (arith, more, same)

-- ---- the turn of each watch opens none

turned_low : (next : Option Watch) → one_if (is_open (phase_after next)) ≤ 1
turned_low None = omega arith
turned_low (Some w) = omega arith

turn_opens_none : (turn : Watch → Turn) (c : Connection) (st : Phase) → c.phase ≡ st → one_if (is_open (after_turn turn c st).phase) ≤ one_if (is_open c.phase)
turn_opens_none turn c (waiting prefix) is = omega arith
turn_opens_none turn c (watching w) is = subst (λ (st : Phase). one_if (is_open (phase_after (turn w).next)) ≤ one_if (is_open st)) (sym is) (turned_low (turn w).next)
turn_opens_none turn c ended is = omega arith
turn_opens_none turn c (gone had_ended) is = omega arith

few_in : (turn : Watch → Turn) (es : Entries) → opens_in (changed (λ id c. with_turn turn c) es) ≤ opens_in es
few_in turn [] = omega arith
few_in turn (e ∷ es) =
    let rest : opens_in (changed (λ id c. with_turn turn c) es) ≤ opens_in es = few_in turn es in
    let one : one_if (is_open (with_turn turn e.1).phase) ≤ one_if (is_open e.1.phase) = turn_opens_none turn e.1 e.1.phase refl in
    let first : opens_in ((e.0, with_turn turn e.1) ∷ changed (λ id c. with_turn turn c) es) ≡ one_if (is_open (with_turn turn e.1).phase) + opens_in (changed (λ id c. with_turn turn c) es) =
    opens_first (e.0, with_turn turn e.1) (changed (λ id c. with_turn turn c) es) in
    let old : opens_in (e ∷ es) ≡ one_if (is_open e.1.phase) + opens_in es = opens_first e es in
    omega (arith, rest, one, first, old)

each_few : (turn : Watch → Turn) (all : Connections) → open_count (each (λ id c. with_turn turn c) all) ≤ open_count all
each_few turn all =
    let f : ℕ → Connection → Connection = λ id c. with_turn turn c in
    let count : open_count (each f all) ≡ opens_in (changed f (fin.entries all)) =
    ap opens_in (fin.entries-from_sorted nat_cmp (changed f (fin.entries all)) (subst T (sym (sorted_same f (fin.entries all))) (fin.entries_sorted all))) in
    let few : opens_in (changed f (fin.entries all)) ≤ open_count all = few_in turn (fin.entries all) in
    omega (arith, count, few)

one_or_none : (b : Bool) → one_if b ≤ 1
one_or_none true = omega arith
one_or_none false = omega arith

-- ---- those of others

abbrev pub places : World → ℕ
places w = open_count (others_of w.hub.connections w.connection)

pub places_few : (all : Connections) (own : Option ClientConnection) → open_count (others_of all own) ≤ open_count all
places_few all None = omega arith
places_few all (Some own) = fewer all own.id

-- beside them there is the client's own, or none
pub one_more : (all : Connections) (own : Option ClientConnection) → open_count all ≤ open_count (others_of all own) + 1
one_more all None = omega arith
one_more all (Some own) = by_own (fin.get all own.id) refl
  where
    by_own : (o : Option Connection) → fin.get all own.id ≡ o → open_count all ≤ open_count (fin.remove all own.id) + 1
    by_own None none = let same : open_count (fin.remove all own.id) ≡ open_count all = ap open_count (absent all own.id none) in omega (arith, same)
    by_own (Some c) got =
        let whole : open_count all ≡ open_count (fin.insert (fin.remove all own.id) own.id c) = ap open_count (sym (put_same all own.id c got) ∙ put_back all own.id c) in
        let more : open_count (fin.insert (fin.remove all own.id) own.id c) ≤ open_count (fin.remove all own.id) + one_if (is_open c.phase) = insert_count (fin.remove all own.id) own.id c in
        let one : one_if (is_open c.phase) ≤ 1 = one_or_none (is_open c.phase) in
        omega (arith, whole, more, one)

fewer_others : (all : Connections) (id : ℕ) (own : Option ClientConnection) → open_count (others_of (fin.remove all id) own) ≤ open_count (others_of all own)
fewer_others all id None = fewer all id
fewer_others all id (Some own) =
    let same : open_count (fin.remove (fin.remove all id) own.id) ≡ open_count (fin.remove (fin.remove all own.id) id) = ap open_count (remove_both all id own.id) in
    let few : open_count (fin.remove (fin.remove all own.id) id) ≤ open_count (fin.remove all own.id) = fewer (fin.remove all own.id) id in
    omega (arith, same, few)

put_others : (all : Connections) (id : ℕ) (c : Connection) (own : Option ClientConnection) → open_count (others_of (fin.insert all id c) own) ≤ open_count (others_of all own) + 1
put_others all id c None =
    let more : open_count (fin.insert all id c) ≤ open_count all + one_if (is_open c.phase) = insert_count all id c in
    let one : one_if (is_open c.phase) ≤ 1 = one_or_none (is_open c.phase) in
    omega (arith, more, one)
put_others all id c (Some own) = by_id (eq_by_cmp nat_cmp own.id id) refl
  where
    by_id : (b : Bool) → eq_by_cmp nat_cmp own.id id ≡ b → open_count (fin.remove (fin.insert all id c) own.id) ≤ open_count (fin.remove all own.id) + 1
    by_id true is =
        let same : own.id ≡ id = tied_same own.id id is in
        let left : open_count (fin.remove (fin.insert all id c) own.id) ≡ open_count (fin.remove all own.id) =
        ap open_count (ap (fin.remove (fin.insert all id c)) same ∙ put_remains all id c ∙ sym (ap (fin.remove all) same)) in
        omega (arith, left)
    by_id false isnt =
        let left : open_count (fin.remove (fin.insert all id c) own.id) ≡ open_count (fin.insert (fin.remove all own.id) id c) =
        ap open_count (remove_put all id own.id c (λ same. true≢false (sym (itself id) ∙ ap (λ (k : ℕ). eq_by_cmp nat_cmp k id) (sym same) ∙ isnt))) in
        let more : open_count (fin.insert (fin.remove all own.id) id c) ≤ open_count (fin.remove all own.id) + one_if (is_open c.phase) = insert_count (fin.remove all own.id) id c in
        let one : one_if (is_open c.phase) ≤ 1 = one_or_none (is_open c.phase) in
        omega (arith, left, more, one)

-- where one connection alone is another, one more of them is open at most
pub one_differs : (all later : Connections) (id : ℕ) (own : Option ClientConnection) → fin.remove later id ≡ fin.remove all id → open_count (others_of later own) ≤ open_count (others_of all own) + 1
one_differs all later id own same = by_there (fin.get later id) refl
  where
    by_there : (o : Option Connection) → fin.get later id ≡ o → open_count (others_of later own) ≤ open_count (others_of all own) + 1
    by_there None none =
        let now : open_count (others_of later own) ≡ open_count (others_of (fin.remove all id) own) = ap (λ (x : Connections). open_count (others_of x own)) (sym (absent later id none) ∙ same) in
        let few : open_count (others_of (fin.remove all id) own) ≤ open_count (others_of all own) = fewer_others all id own in
        omega (arith, now, few)
    by_there (Some c) got =
        let now : open_count (others_of later own) ≡ open_count (others_of (fin.insert all id c) own) =
        ap (λ (x : Connections). open_count (others_of x own)) (sym (put_same later id c got) ∙ put_back later id c ∙ ap (λ (x : Connections). fin.insert x id c) same ∙ sym (put_back all id c)) in
        let more : open_count (others_of (fin.insert all id c) own) ≤ open_count (others_of all own) + 1 = put_others all id c own in
        omega (arith, now, more)

gone_places : (all : Connections) (id : ℕ) (o : Option Connection) → fin.get all id ≡ o → open_count (gone_by all id o) ≤ open_count (fin.remove all id)
gone_places all id None none = let same : open_count (fin.remove all id) ≡ open_count all = ap open_count (absent all id none) in omega (arith, same)
gone_places all id (Some c) got =
    let over : Connection = with_phase c (gone (has_ended c.phase)) in
    let same : open_count (fin.insert all id over) ≡ open_count (fin.insert (fin.remove all id) id over) = ap open_count (put_back all id over) in
    let few : open_count (fin.insert (fin.remove all id) id over) ≤ open_count (fin.remove all id) = closed_count (fin.remove all id) id over refl in
    omega (arith, same, few)

-- when the client has left its connection those of others alone are open
pub left_places : (all : Connections) (own : Option ClientConnection) → open_count (left_by all own) ≤ open_count (others_of all own)
left_places all None = omega arith
left_places all (Some own) = gone_places all own.id (fin.get all own.id) refl

-- ---- what happens on one connection

abbrev Remains : State → ℕ → State → Type 0
Remains s id t = fin.remove t.connections id ≡ fin.remove s.connections id

refused_or : (why : Option Refusal) (s t : State) (id : ℕ) → Remains s id t → Remains s id (unless_refused why s t)
refused_or None s t id is = is
refused_or (Some why) s t id is = refl

on_it : (s : State) (id : ℕ) (o : Option Connection) (f : Connection → State) → ((c : Connection) → Remains s id (f c)) → Remains s id (by_connection s o f)
on_it s id None f each_one = refl
on_it s id (Some c) f each_one = each_one c

received_on : (s : State) (id : ℕ) (c : Connection) (st : Phase) (bytes : List ℕ) (decision : CallDecision) → Remains s id (received_by s id c st bytes decision)
received_on s id c (waiting prefix) bytes decision = put_remains s.connections id (connection_after s.types s.machine s.last_tick c (prefix ++ bytes) decision)
received_on s id c (watching w) bytes decision = refl
received_on s id c ended bytes decision = refl
received_on s id c (gone had_ended) bytes decision = refl

pub comes_on : (s t : State) (id : ℕ) (bytes : List ℕ) → runs.Steps s (comes id bytes) t → Remains s id t
comes_on s t id bytes (decision, asks, is) =
    subst (Remains s id) (sym is)
    (refused_or (refusal s (comes id bytes)) s (applied_event s (comes id bytes) decision) id
    (on_it s id (fin.get s.connections id) (λ c. received_by s id c c.phase bytes decision) (λ c. received_on s id c c.phase bytes decision)))

pub opens_on : (s t : State) (id : ℕ) → runs.Steps s (opens id) t → Remains s id t
opens_on s t id (decision, asks, is) =
    subst (Remains s id) (sym is) (refused_or (refusal s (opens id)) s (with_connection s id (opening s.connections)) id (put_remains s.connections id (opening s.connections)))

pumps_on : (s t : State) (id max : ℕ) → runs.Steps s (pumps id max) t → Remains s id t
pumps_on s t id max (decision, asks, is) =
    subst (Remains s id) (sym is)
    (refused_or (refusal s (pumps id max)) s (applied_event s (pumps id max) decision) id
    (on_it s id (fin.get s.connections id) (λ c. with_connection s id (with_turn (pumped s.machine max) c)) (λ c. put_remains s.connections id (with_turn (pumped s.machine max) c))))

pub goes_are : (s t : State) (id : ℕ) → runs.Steps s (goes id) t → t ≡ with_connections s (gone_by s.connections id (fin.get s.connections id))
goes_are s t id (decision, asks, is) = is ∙ sym (goes_so s id).2

-- ---- a tick

ticked_few : (turn : Watch → Turn) (all : Connections) (own : Option ClientConnection) → open_count (others_of (each (λ id c. with_turn turn c) all) own) ≤ open_count (others_of all own)
ticked_few turn all None = each_few turn all
ticked_few turn all (Some own) =
    let same : open_count (fin.remove (each (λ id c. with_turn turn c) all) own.id) ≡ open_count (each (λ id c. with_turn turn c) (fin.remove all own.id)) = ap open_count (each_remains (λ id c. with_turn turn c) all own.id) in
    let few : open_count (each (λ id c. with_turn turn c) (fin.remove all own.id)) ≤ open_count (fin.remove all own.id) = each_few turn (fin.remove all own.id) in
    omega (arith, same, few)

ticks_few : (s t : State) (ms : ℕ) (own : Option ClientConnection) → runs.Steps s (ticks ms) t → open_count (others_of t.connections own) ≤ open_count (others_of s.connections own)
ticks_few s t ms own (decision, asks, is) = subst (λ (x : State). open_count (others_of x.connections own) ≤ open_count (others_of s.connections own)) (sym is) (go (refusal s (ticks ms)))
  where
    go : (why : Option Refusal) → open_count (others_of (unless_refused why s (with_tick s ms (each (λ id c. with_turn (ticked s.types ms) c) s.connections))).connections own) ≤ open_count (others_of s.connections own)
    go None = ticked_few (ticked s.types ms) s.connections own
    go (Some why) = omega arith

-- ---- the world

module _ (task : Task) (w : World) where
  -- where the event happens, no more of others are open
  abbrev Fewer : WorldEvent → Type 0
  Fewer e = (v : World) → Happens task w e v → places v ≤ places w

  as_before : (v : World) → v ≡ w → places v ≤ places w
  as_before v is = let same : places v ≡ places w = ap places is in omega (arith, same)

  -- a connection that stays the client's
  stays_own : (v : World) (own : ClientConnection) (later : ClientConnection) → w.connection ≡ Some own → later.id ≡ own.id → v.connection ≡ Some later → fin.remove v.hub.connections own.id ≡ fin.remove w.hub.connections own.id
      → places v ≤ places w
  stays_own v own later has id is remains =
      let now : places v ≡ open_count (fin.remove v.hub.connections own.id) =
      ap (λ (o : Option ClientConnection). open_count (others_of v.hub.connections o)) is ∙ ap (λ (q : ℕ). open_count (fin.remove v.hub.connections q)) id in
      let before : places w ≡ open_count (fin.remove w.hub.connections own.id) = ap (λ (o : Option ClientConnection). open_count (others_of w.hub.connections o)) has in
      let same : open_count (fin.remove v.hub.connections own.id) ≡ open_count (fin.remove w.hub.connections own.id) = ap open_count remains in
      omega (arith, now, before, same)

  -- ---- it leaves its connection

  leaves_few : (x v : World) (own : Option ClientConnection) → Leaves x own v → open_count v.hub.connections ≤ open_count (others_of x.hub.connections own)
  leaves_few x v None is = let same : open_count v.hub.connections ≡ open_count x.hub.connections = ap (λ (y : World). open_count y.hub.connections) is in omega (arith, same)
  leaves_few x v (Some own) (t, steps, is) =
      let same : open_count v.hub.connections ≡ open_count (left_by x.hub.connections (Some own)) =
      ap (λ (y : World). open_count y.hub.connections) is ∙ ap (λ (s : State). open_count s.connections) (goes_are x.hub t own.id steps) in
      let few : open_count (left_by x.hub.connections (Some own)) ≤ open_count (others_of x.hub.connections (Some own)) = left_places x.hub.connections (Some own) in
      omega (arith, same, few)

  cuts_few : (own : Option ClientConnection) → w.connection ≡ own → (v : World) → Cuts w own v → places v ≤ places w
  cuts_few None has v is = as_before v is
  cuts_few (Some own) has v left =
      let few : open_count v.hub.connections ≤ open_count (others_of w.hub.connections (Some own)) = leaves_few (record w { client = closed w.client }) v (Some own) left in
      let fewer_yet : places v ≤ open_count v.hub.connections = places_few v.hub.connections v.connection in
      let before : places w ≡ open_count (others_of w.hub.connections (Some own)) = ap (λ (o : Option ClientConnection). open_count (others_of w.hub.connections o)) has in
      omega (arith, few, fewer_yet, before)

  by_cut : Fewer cut
  by_cut v cuts = cuts_few w.connection refl v cuts

  -- ---- it asks

  sends_few : (id : Option ℕ) (bytes : Option (List ℕ)) (v : World) → Sends w id bytes v → places v ≤ places w
  sends_few None bytes v is = as_before v is
  sends_few (Some id) None v is = as_before v is
  sends_few (Some id) (Some bytes) v (alone, opened, left, (t, steps, hub), is) =
      let few : open_count alone.hub.connections ≤ places w = leaves_few w alone w.connection left in
      let fewer_yet : open_count (fin.remove alone.hub.connections id) ≤ open_count alone.hub.connections = fewer alone.hub.connections id in
      let now : places v ≡ open_count (fin.remove t.connections id) = ap places is ∙ ap (λ (y : World). open_count (fin.remove y.hub.connections id)) hub in
      let same : open_count (fin.remove t.connections id) ≡ open_count (fin.remove alone.hub.connections id) = ap open_count (opens_on alone.hub t id steps) in
      omega (arith, few, fewer_yet, now, same)

  by_send : Fewer send
  by_send v sends = sends_few (next_id w.hub.connections) (due (client_settings task) w.client) v sends

  -- ---- on its connection

  module _ (own : ClientConnection) (has : w.connection ≡ Some own) where
    delivers_few : (n : ℕ) (piece : List ℕ) (v : World) → Delivers w own n piece v → places v ≤ places w
    delivers_few n [] v is = as_before v is
    delivers_few n (b ∷ bs) v (mid, (t, steps, hub), is) =
        stays_own v own (record own { unsent = drop n own.unsent }) has refl (ap (λ (x : World). x.connection) is)
        (ap (λ (x : World). fin.remove x.hub.connections own.id) is ∙ ap (λ (x : World). fin.remove x.hub.connections own.id) hub ∙ comes_on w.hub t own.id (b ∷ bs) steps)

    by_to_server : (n : ℕ) → Fewer (to_server n)
    by_to_server n v moves = delivers_few n (take n own.unsent) v (subst (λ (o : Option ClientConnection). ToServer w n o v) has moves)

    hands_few : (wanted : Wanted) (piece : List ℕ) (v : World) → Hands wanted w own piece v → places v ≤ places w
    hands_few wanted [] v is = as_before v is
    hands_few wanted (b ∷ bs) v (d, receives, is) =
        stays_own v own (record own { handed = own.handed + length (b ∷ bs) }) has refl (ap (λ (x : World). x.connection) is) (ap (λ (x : World). fin.remove x.hub.connections own.id) is)

    by_to_client : (n : ℕ) → Fewer (to_client n)
    by_to_client n v moves = hands_few (wanted_by task) (take n (drop own.handed (reply_on w own))) v (subst (λ (o : Option ClientConnection). ToClient (wanted_by task) w n o v) has moves)

    by_pump : (max : ℕ) → Fewer (other (pumps own.id max))
    by_pump max v takes = go (subst (λ (o : Option ClientConnection). TakesUnless (is_by_peer_on o (pumps own.id max)) w (pumps own.id max) v) has takes)
      where
        go : HubTakes w (pumps own.id max) v → places v ≤ places w
        go (t, steps, is) = stays_own v own own has refl (ap (λ (x : World). x.connection) is ∙ has) (ap (λ (x : World). fin.remove x.hub.connections own.id) is ∙ pumps_on w.hub t own.id max steps)

    by_tick : (ms : ℕ) → Fewer (other (ticks ms))
    by_tick ms v takes = go (subst (λ (o : Option ClientConnection). TakesUnless (is_by_peer_on o (ticks ms)) w (ticks ms) v) has takes)
      where
        go : HubTakes w (ticks ms) v → places v ≤ places w
        go (t, steps, is) =
            let now : places v ≡ open_count (others_of t.connections w.connection) = ap places is in
            let few : open_count (others_of t.connections w.connection) ≤ places w = ticks_few w.hub t ms w.connection steps in
            omega (arith, now, few)

    on_own : OnOwn Fewer own
    on_own = record { asks = by_to_server; reads = by_to_client; pump = by_pump; tick = by_tick }

  next_few : (e : WorldEvent) → next_move w ≡ Some e → Fewer e
  next_few = next_holds w Fewer by_send by_cut on_own

-- moves make them no more
pub moves_places : (task : Task) (i : ℕ) (w : World) (es : List WorldEvent) (v : World) (reports : List Report) → Pursues task i w es v reports → places v ≤ places w
moves_places task i w [] v reports (same, none) = let is : places v ≡ places w = ap places same in omega (arith, is)
moves_places task i w (e ∷ es) v reports (mid, others, is_next, (happened, happens, is), pursues, are) =
    let rest : places v ≤ places mid = moves_places task (suc i) mid es v others pursues in
    let now : places mid ≡ places happened = ap places is in
    let few : places happened ≤ places w = next_few task w e is_next happened happens in
    omega (arith, rest, now, few)
