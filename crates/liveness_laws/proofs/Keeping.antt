-- What moves of the schedule leave of the hub: its machine, types and clock, the connections of other peers, its ids, and how many connections are open.
use Rattle.std.proofs.Common.{◌≡◌, ◌≢◌, ◌∙◌, ℕ, zero, suc, ◌+◌, ◌<◌, ◌≤◌, ◌==◌, Bool, true, false, cond, T, List, [], ◌∷◌, Option, Some, None, refl, sym, ap, ap₂, subst, arith, true≢false}
use Rattle.std.proofs.lemmas.Bool.{eq-eqb}
use Rattle.std.specs.Cmp.{nat_cmp_total}
use Rattle.std.specs.FinMap as fin
use Rattle.std.specs.FinMap.Entries as entries
use Rattle.std.specs.Ordering.{eq_by_cmp, is_eq, nat_cmp}
use Rattle.std.specs.Prelude.{option_map}
use Rattle.std.specs.declared.cmp.Ordering.{Ordering}
use Rattle.std.specs.declared.cmp.Ordering.TheVariants.{Less, Equal, Greater}
use Rattle.api_types.specs.TypesFile.{ServedShape}
use Rattle.httpedge.proofs.Connected.{Entries, changed, got_each, hidden, ids, itself, new_still, one_if, opens_first, opens_in, put, put_again, put_by, sorted_same, tied_same}
use Rattle.httpedge.proofs.NextIds.{above_all, below_all}
use Rattle.httpedge.proofs.Staying.{put_elsewhere}
use Rattle.httpedge.specs.Connections.{Connection, Connections, Phase, each, ended, gone, highest, is_new, is_open, open_count, waiting, watching}
use Rattle.httpedge.specs.Steps.{State, after_turn, phase_after, with_connection, with_connections, with_tick, with_turn}
use Rattle.httpedge.specs.Watches.{Turn, Watch, ticked}
use Rattle.liveness_laws.proofs.Hub.{left_by, left_count, left_elsewhere}
use Rattle.liveness_laws.proofs.Restart.{left_highest}
use Rattle.liveness_laws.specs.Leading.{ServerStays, ticked_times}
use Rattle.liveness_laws.specs.Progress.{is_own}
use Rattle.reflector.specs.Client.{Client}
use Rattle.world_laws.specs.World.{ClientConnection, World}

-- ---- what moves leave

-- each other peer's connection that was there is another peer's still, and as it was but for bookmarks
abbrev pub OthersKeep : World → World → Type 0
OthersKeep w v =
    (id : ℕ) (c : Connection) → fin.get w.hub.connections id ≡ Some c → is_own w.connection id ≡ false
    → (is_own v.connection id ≡ false) × (n : ℕ) × (fin.get v.hub.connections id ≡ Some (ticked_times w.hub n c))

-- at most so many ids more, and so many open connections
pub record Keeps (w v : World) (sends : ℕ) : Type 0 where
  pub server : ServerStays w v
  pub others : OthersKeep w v
  pub ids : highest (fin.keys v.hub.connections) ≤ highest (fin.keys w.hub.connections) + sends
  pub room : open_count v.hub.connections ≤ open_count w.hub.connections + sends

-- ---- one after the other

times_as : (s : State) (c : Connection) (m n : ℕ) → m ≡ n → ticked_times s m c ≡ ticked_times s n c
times_as s c m n same = ap (λ (k : ℕ). ticked_times s k c) same

times_more : (s t : State) (m n : ℕ) (c : Connection) → t.types ≡ s.types → t.last_tick ≡ s.last_tick → ticked_times t m (ticked_times s n c) ≡ ticked_times s (m + n) c
times_more s t zero n c types clock = times_as s c n (0 + n) (omega arith)
times_more s t (suc m) n c types clock =
    ap₂ (λ (ts : List ServedShape) (ms : ℕ). with_turn (ticked ts ms) (ticked_times t m (ticked_times s n c))) types clock
    ∙ ap (with_turn (ticked s.types s.last_tick)) (times_more s t m n c types clock)
    ∙ times_as s c (suc (m + n)) (suc m + n) (omega arith)

pub keeps_then : (w u v : World) (a b c : ℕ) → a + b ≡ c → Keeps w u a → Keeps u v b → Keeps w v c
keeps_then w u v a b c sum one two =
    let first_ids : highest (fin.keys u.hub.connections) ≤ highest (fin.keys w.hub.connections) + a = one.ids in
    let then_ids : highest (fin.keys v.hub.connections) ≤ highest (fin.keys u.hub.connections) + b = two.ids in
    let first_room : open_count u.hub.connections ≤ open_count w.hub.connections + a = one.room in
    let then_room : open_count v.hub.connections ≤ open_count u.hub.connections + b = two.room in
    record {
      server = (two.server.0 ∙ one.server.0, two.server.1 ∙ one.server.1, two.server.2 ∙ one.server.2);
      others = λ id x got isnt.
          let first = one.others id x got isnt in
          let second = two.others id (ticked_times w.hub first.1 x) first.2 first.0 in
          (second.0, second.1 + first.1, second.2 ∙ ap (λ (d : Connection). Some d) (times_more w.hub u.hub second.1 first.1 x one.server.1 one.server.2));
      ids = omega (arith, sum, first_ids, then_ids);
      room = omega (arith, sum, first_room, then_room);
    }

-- ---- nothing happens to the hub

pub keeps_hub : (w : World) (client : Client) (own : Option ClientConnection) → ((id : ℕ) → is_own w.connection id ≡ false → is_own own id ≡ false)
    → Keeps w (record { hub = w.hub; requested = w.requested; client = client; connection = own }) 0
keeps_hub w client own apart = record {
  server = (refl, refl, refl);
  others = λ id x got isnt. (apart id isnt, zero, got);
  ids = omega arith;
  room = omega arith;
}

-- ---- the client's connection becomes another

apart_by : (q id : ℕ) → (id == q) ≡ false → q ≢ id
apart_by q id isnt same = true≢false (sym (eq-eqb id q (sym same)) ∙ isnt)

replaced_highest : (all : Connections) (id : ℕ) (old c : Connection) → fin.get all id ≡ Some old → highest (fin.keys (fin.insert all id c)) ≤ highest (fin.keys all)
replaced_highest all id old c got =
    let q : ℕ = highest (fin.keys all) + 1 in
    let new : is_new (fin.insert all id c) q ≡ true = new_still all id q old c got ∙ above_all (fin.keys all) q (omega arith) in
    let low : highest (fin.keys (fin.insert all id c)) < q = below_all (fin.keys (fin.insert all id c)) q (omega arith) new in
    omega (arith, low)

-- one more under an id that isn't there
added_in : (id : ℕ) (c : Connection) (es : Entries) → entries.find nat_cmp id es ≡ None → opens_in (put id c es) ≡ opens_in es + one_if (is_open c.phase)
added_in id c [] none = let first : opens_in ((id, c) ∷ []) ≡ one_if (is_open c.phase) + opens_in [] = opens_first (id, c) [] in omega (arith, first)
added_in id c (e ∷ es) none = go (nat_cmp id e.0) none (added_in id c es)
  where
    go : (r : Ordering) → cond (is_eq r) (Some e.1) (entries.find nat_cmp id es) ≡ None
        → (entries.find nat_cmp id es ≡ None → opens_in (put id c es) ≡ opens_in es + one_if (is_open c.phase)) → opens_in (put_by id c e es r) ≡ opens_in (e ∷ es) + one_if (is_open c.phase)
    go Less none rest = let first : opens_in ((id, c) ∷ e ∷ es) ≡ one_if (is_open c.phase) + opens_in (e ∷ es) = opens_first (id, c) (e ∷ es) in omega (arith, first)
    go Equal none rest = absurd cc
    go Greater none rest =
        let first : opens_in (e ∷ put id c es) ≡ one_if (is_open e.1.phase) + opens_in (put id c es) = opens_first e (put id c es) in
        let old : opens_in (e ∷ es) ≡ one_if (is_open e.1.phase) + opens_in es = opens_first e es in
        let others : opens_in (put id c es) ≡ opens_in es + one_if (is_open c.phase) = rest none in
        omega (arith, first, old, others)

added : (all : Connections) (id : ℕ) (c : Connection) → fin.get all id ≡ None → open_count (fin.insert all id c) ≡ open_count all + one_if (is_open c.phase)
added all id c none =
    ap opens_in (fin.entries-insert nat_cmp_total all id c) ∙ added_in id c (fin.entries all) (sym (fin.get-entries all id) ∙ none)

one_if_low : (a b : Bool) → (a ≡ true → b ≡ true) → one_if a ≤ one_if b
one_if_low true b so = subst (λ (x : Bool). 1 ≤ one_if x) (sym (so refl)) (omega arith)
one_if_low false b so = omega arith

replaced_count : (all : Connections) (id : ℕ) (old c : Connection) → fin.get all id ≡ Some old → (is_open c.phase ≡ true → is_open old.phase ≡ true) → open_count (fin.insert all id c) ≤ open_count all
replaced_count all id old c got so =
    let without : Connections = fin.remove all id in
    let none : fin.get without id ≡ None = fin.get-remove nat_cmp_total all id id ∙ ap (λ (b : Bool). cond b None (fin.get all id)) (itself id) in
    let whole : fin.insert without id old ≡ all = fin.same_map nat_cmp_total fin.nat_cmp-IsAntisymmetric _ _ (λ q.
    fin.get-insert nat_cmp_total without id old q ∙ ap (cond (eq_by_cmp nat_cmp q id) (Some old)) (fin.get-remove nat_cmp_total all id q)
    ∙ hidden (eq_by_cmp nat_cmp q id) (Some old) None (fin.get all q) ∙ there q (eq_by_cmp nat_cmp q id) (tied_same q id)) in
    let then : fin.insert all id c ≡ fin.insert without id c = ap (λ (x : Connections). fin.insert x id c) (sym whole) ∙ put_again without id old c in
    let before : open_count all ≡ open_count without + one_if (is_open old.phase) = ap open_count (sym whole) ∙ added without id old none in
    let after : open_count (fin.insert all id c) ≡ open_count without + one_if (is_open c.phase) = ap open_count then ∙ added without id c none in
    let low : one_if (is_open c.phase) ≤ one_if (is_open old.phase) = one_if_low (is_open c.phase) (is_open old.phase) so in
    omega (arith, before, after, low)
  where
    there : (q : ℕ) (b : Bool) → (b ≡ true → q ≡ id) → cond b (Some old) (fin.get all q) ≡ fin.get all q
    there q true same = sym (ap (fin.get all) (same refl) ∙ got)
    there q false same = refl

pub keeps_replaced : (w : World) (own : ClientConnection) (old c : Connection) (client : Client) (later : Option ClientConnection) → w.connection ≡ Some own → fin.get w.hub.connections own.id ≡ Some old
    → ((id : ℕ) → is_own later id ≡ (own.id == id)) → (is_open c.phase ≡ true → is_open old.phase ≡ true)
    → Keeps w (record { hub = with_connection w.hub own.id c; requested = w.requested; client = client; connection = later }) 0
keeps_replaced w own old c client later has got same so =
    let ids : highest (fin.keys (fin.insert w.hub.connections own.id c)) ≤ highest (fin.keys w.hub.connections) = replaced_highest w.hub.connections own.id old c got in
    let room : open_count (fin.insert w.hub.connections own.id c) ≤ open_count w.hub.connections = replaced_count w.hub.connections own.id old c got so in
    record {
      server = (refl, refl, refl);
      others = λ id x at isnt.
          let other : (own.id == id) ≡ false = sym (ap (λ (o : Option ClientConnection). is_own o id) has) ∙ isnt in
          (same id ∙ other, zero, put_elsewhere w.hub.connections own.id id c (apart_by id own.id other) ∙ at);
      ids = omega (arith, ids);
      room = omega (arith, room);
    }

-- ---- every watch has its turn

same_ids : (f : ℕ → Connection → Connection) (es : Entries) → ids (changed f es) ≡ ids es
same_ids f [] = refl
same_ids f (e ∷ es) = ap (λ (l : List ℕ). e.0 ∷ l) (same_ids f es)

turned_low : (next : Option Watch) → one_if (is_open (phase_after next)) ≤ 1
turned_low None = omega arith
turned_low (Some w) = omega arith

turn_opens_none : (turn : Watch → Turn) (c : Connection) (st : Phase) → c.phase ≡ st → one_if (is_open (after_turn turn c st).phase) ≤ one_if (is_open c.phase)
turn_opens_none turn c (waiting prefix) is = omega arith
turn_opens_none turn c (watching w) is =
    subst (λ (st : Phase). one_if (is_open (phase_after (turn w).next)) ≤ one_if (is_open st)) (sym is) (turned_low (turn w).next)
turn_opens_none turn c ended is = omega arith
turn_opens_none turn c (gone had_ended) is = omega arith

few_in : (turn : Watch → Turn) (es : Entries) → opens_in (changed (λ id c. with_turn turn c) es) ≤ opens_in es
few_in turn [] = omega arith
few_in turn (e ∷ es) =
    let rest : opens_in (changed (λ id c. with_turn turn c) es) ≤ opens_in es = few_in turn es in
    let one : one_if (is_open (with_turn turn e.1).phase) ≤ one_if (is_open e.1.phase) = turn_opens_none turn e.1 e.1.phase refl in
    let first : opens_in ((e.0, with_turn turn e.1) ∷ changed (λ id c. with_turn turn c) es) ≡ one_if (is_open (with_turn turn e.1).phase) + opens_in (changed (λ id c. with_turn turn c) es) =
    opens_first (e.0, with_turn turn e.1) (changed (λ id c. with_turn turn c) es) in
    let old : opens_in (e ∷ es) ≡ one_if (is_open e.1.phase) + opens_in es = opens_first e es in
    omega (arith, rest, one, first, old)

entries_each : (f : ℕ → Connection → Connection) (all : Connections) → fin.entries (each f all) ≡ changed f (fin.entries all)
entries_each f all = fin.entries-from_sorted nat_cmp (changed f (fin.entries all)) (subst T (sym (sorted_same f (fin.entries all))) (fin.entries_sorted all))

pub each_highest : (f : ℕ → Connection → Connection) (all : Connections) → highest (fin.keys (each f all)) ≡ highest (fin.keys all)
each_highest f all = ap (λ (es : Entries). highest (ids es)) (entries_each f all) ∙ ap highest (same_ids f (fin.entries all))

pub keeps_ticked : (w : World) (client : Client) → Keeps w (record { hub = with_tick w.hub w.hub.last_tick (each (λ id c. with_turn (ticked w.hub.types w.hub.last_tick) c) w.hub.connections); requested = w.requested; client = client; connection = w.connection }) 0
keeps_ticked w client =
    let turn : Watch → Turn = ticked w.hub.types w.hub.last_tick in
    let f : ℕ → Connection → Connection = λ id c. with_turn turn c in
    let ids_are : highest (fin.keys (each f w.hub.connections)) ≡ highest (fin.keys w.hub.connections) = each_highest f w.hub.connections in
    let count : open_count (each f w.hub.connections) ≡ opens_in (changed f (fin.entries w.hub.connections)) = ap opens_in (entries_each f w.hub.connections) in
    let few : opens_in (changed f (fin.entries w.hub.connections)) ≤ open_count w.hub.connections = few_in turn (fin.entries w.hub.connections) in
    record {
      server = (refl, refl, refl);
      others = λ id x got isnt. (isnt, suc zero, got_each f w.hub.connections id ∙ ap (option_map (f id)) got);
      ids = omega (arith, ids_are);
      room = omega (arith, count, few);
    }

-- ---- the client leaves its connection

pub keeps_left : (w : World) (own : ClientConnection) (client : Client) → w.connection ≡ Some own
    → Keeps w (record { hub = with_connections w.hub (left_by w.hub.connections (Some own)); requested = w.requested; client = client; connection = None }) 0
keeps_left w own client has =
    let high : highest (fin.keys (left_by w.hub.connections (Some own))) ≤ highest (fin.keys w.hub.connections) =
    left_highest w.hub.connections (record { hub = w.hub; requested = w.requested; client = client; connection = Some own }) in
    let few : open_count (left_by w.hub.connections (Some own)) ≤ open_count w.hub.connections = left_count w.hub.connections (Some own) in
    record {
      server = (refl, refl, refl);
      others = λ id x got isnt. (refl, zero, left_elsewhere w.hub.connections own id (apart_by id own.id (sym (ap (λ (o : Option ClientConnection). is_own o id) has) ∙ isnt)) ∙ got);
      ids = omega (arith, high);
      room = omega (arith, few);
    }
