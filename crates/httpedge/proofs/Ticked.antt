-- Connections at a tick, one after the other.
use Rattle.std.proofs.Common.{◌≡◌, ℕ, Bool, true, false, ◌&&◌, ◌||◌, cond, T, List, [], ◌∷◌, ◌++◌, map, Option, Some, None, refl, sym, ap, ap₂, subst, ◌∙◌, append_assoc, append-nil}
use Rattle.std.specs.Prelude.{is_some, option_map, unwrap_or, nat_lt, Vec}
use Rattle.std.specs.declared.alloc.Global.{Global}
use Rattle.std.specs.BTreeMap.{BTreeMap, get, is_at}
use Rattle.std.specs.BTreeSet.{BTreeSet, contains}
use Rattle.std.specs.Cmp.{nat_cmp_total}
use Rattle.std.specs.FinMap as fin
use Rattle.std.specs.FinMap.Entries as entries
use Rattle.std.specs.List.{AllByRecursion, filter, list_all, list_any}
use Rattle.std.specs.List.Sorted.{IsStrictlySortedBy}
use Rattle.std.specs.Ordering.{nat_cmp, eq_by_cmp, is_eq}
use Rattle.std.specs.declared.cmp.Ordering.{Ordering}
use Rattle.std.specs.declared.cmp.Ordering.TheVariants.{Less}
use Rattle.std.proofs.lemmas.List.Kept.{IsStrictlySortedBy-filter}
use Rattle.std.proofs.lemmas.Map.Views.{any-filter_same}
use Rattle.api_types.specs.TypesFile.{ServedShape}
use Rattle.httpedge.specs.declared.shared.Shared.{Shared}
use Rattle.httpedge.specs.declared.connection.Connection as conns
use Rattle.httpedge.specs.declared.connection.Connection.TheVariants as conn
use Rattle.httpedge.specs.declared.connections.Connections.{Connections as TheConnections}
use Rattle.httpedge.specs.declared.effect.Change.{Change}
use Rattle.httpedge.specs.declared.effect.Effect.TheVariants as effect
use Rattle.httpedge.specs.Connections.{Connection, Connections, Phase, waiting, watching, ended, gone, each, is_new, is_open, is_watching, open_on, with_phase}
use Rattle.requests.specs.Decision.{undecided}
use Rattle.httpedge.specs.ConnectionViews.{ConnectionRepresents, ConnectionRepresentsAt, IsApart, Lists, PutAt, PartsRepresent, found, found_in, held_or, is_above, is_open_in, phase_in, closed_by}
use Rattle.httpedge.specs.Effects.{Does, change_between, change_in, ids_in, if_something, no_change, says_something, tells}
use Rattle.httpedge.specs.IdViews.{is_in}
use Rattle.httpedge.specs.Steps.{Refusal, State, tick_back, ticks, killed_or_ticked, refusal, unless_refused, with_tick, with_turn, writes_at, RunsOutOfMemory}
use Rattle.httpedge.specs.TickViews.{ConnectionsRepresent, SomeRanOutOfMemory, TellAll, TellsAt, TicksAll, TicksAt, TicksIn, due_on, lines_if, put_where, ticked_all, ticked_at, ticked_change}
use Rattle.httpedge.specs.Watches.{ticked}
use Rattle.httpedge.proofs.Connected.{Entries, changed, got_each, ids, itself, sorted_same, tied_same}
use Rattle.httpedge.proofs.Counting.{sorted_parts}
use Rattle.httpedge.proofs.Representing.{Found, closed_watches, held_put, open_in, put_same, same_open, some_held, watching_open}
use Rattle.httpedge.proofs.Effects.{between_same}
use Rattle.httpedge.proofs.Staying.{dead_idle}
use Rattle.httpedge.proofs.Turning.{dead_is, idle_did, undue_stays}

wrong : false ≡ true → ⊥
wrong e = cc

-- ---- one connection

-- a tick opens nothing
pub tick_opens : (types : List ServedShape) (ms : ℕ) (b : Bool) (c : Connection) → is_open (killed_or_ticked types ms b c).phase ≡ true → is_open c.phase ≡ true
tick_opens types ms b c now = go (is_watching c.phase) refl
  where
    go : (w : Bool) → is_watching c.phase ≡ w → is_open c.phase ≡ true
    go true is = watching_open c.phase is
    go false is = sym (ap (λ (x : Connection). is_open x.phase) (dead_idle types ms b c is)) ∙ now

not_watching : (st : Phase) → is_open st ≡ false → is_watching st ≡ false
not_watching (waiting prefix) is = refl
not_watching (watching w) is = absurd (wrong (sym is))
not_watching ended is = refl
not_watching (gone had_ended) is = refl

no_turn : (types : List ServedShape) (ms : ℕ) (b : Bool) (o : Option Connection) → open_in o ≡ false → option_map (killed_or_ticked types ms b) o ≡ o
no_turn types ms b None is = refl
no_turn types ms b (Some c) is = ap (λ (d : Connection). Some d) (dead_idle types ms b c (not_watching c.phase is))

-- ---- what its turn did

closed_due : (ms : ℕ) (st : Phase) → is_open st ≡ false → writes_at ms st ≡ false
closed_due ms (waiting prefix) is = refl
closed_due ms (watching w) is = absurd (wrong (sym is))
closed_due ms ended is = refl
closed_due ms (gone had_ended) is = refl

-- whether one is due, as the code holds it
pub same_due : (types : List ServedShape) (ms : ℕ) (d : conns.Connection) (c : Connection) → ConnectionRepresents types d c → writes_at ms (phase_in d) ≡ writes_at ms c.phase
same_due types ms (conn.Head prefix) c is = sym (ap (λ (x : Connection). writes_at ms x.phase) is)
same_due types ms (conn.Body prefix p) c (is, awaits) = sym (ap (λ (x : Connection). writes_at ms x.phase) is)
same_due types ms (conn.Watch w out) c (is, rest, low) = sym (ap (writes_at ms) is)
same_due types ms (conn.Ended out) c (is, rest) = sym (ap (writes_at ms) is)
same_due types ms (conn.Closed had_ended) c (closed, had, none) = sym (closed_due ms c.phase closed)

pub due_watches : (ms : ℕ) (st : Phase) → writes_at ms st ≡ true → is_watching st ≡ true
due_watches ms (waiting prefix) due = absurd (wrong due)
due_watches ms (watching w) due = refl
due_watches ms ended due = absurd (wrong due)
due_watches ms (gone had_ended) due = absurd (wrong due)

pub due_dies : (types : List ServedShape) (ms : ℕ) (c : Connection) (st : Phase) → c.phase ≡ st → writes_at ms st ≡ true → killed_or_ticked types ms true c ≡ with_phase c ended
due_dies types ms c (waiting prefix) represents due = absurd (wrong due)
due_dies types ms c (watching w) represents due = dead_is types ms c w represents due
due_dies types ms c ended represents due = absurd (wrong due)
due_dies types ms c (gone had_ended) represents due = absurd (wrong due)

pub undue_idle : (types : List ServedShape) (ms : ℕ) (c : Connection) → writes_at ms c.phase ≡ false → killed_or_ticked types ms false c ≡ c
undue_idle types ms c isnt = (undue_stays types ms c c.phase refl isnt).0

undue_did : (types : List ServedShape) (ms : ℕ) (c : Connection) → writes_at ms c.phase ≡ false → ticked_change types ms (Some c) ≡ no_change
undue_did types ms c isnt =
    let stays = undue_stays types ms c c.phase refl isnt in
    ap₂ (λ (d : Connection) (n : ℕ). change_between (Some c) (Some d) n None) stays.0 stays.1 ∙ between_same c c refl refl

-- nothing is told of what did nothing
told_none : (id : ℕ) (change : Change) (told : List (ℕ × Change)) → change ≡ no_change → told ≡ told ++ filter tells ((id, change) ∷ [])
told_none id change told none = sym (append-nil told) ∙ sym (ap (λ (x : Change). told ++ filter tells ((id, x) ∷ [])) none)

pub undue_told : (types : List ServedShape) (ms id : ℕ) (c : Connection) (told : List (ℕ × Change)) → writes_at ms c.phase ≡ false → told ≡ told ++ filter tells ((id, ticked_change types ms (Some c)) ∷ [])
undue_told types ms id c told isnt = told_none id (ticked_change types ms (Some c)) told (undue_did types ms c isnt)

-- one that isn't open does nothing
closed_did : (types : List ServedShape) (ms : ℕ) (o : Option Connection) → open_in o ≡ false → ticked_change types ms o ≡ no_change
closed_did types ms None is = refl
closed_did types ms (Some c) is = sym (idle_did (ticked types ms) c c.phase refl (not_watching c.phase is))

-- ---- the connection of an id

closed_over : (types : List ServedShape) (a b : Bool) (c : Connection) → ConnectionRepresentsAt types (closed_by a b) (Some c) → is_open c.phase ≡ false
closed_over types true b c holds = holds.0
closed_over types false true c holds = holds.0
closed_over types false false c holds = absurd holds

-- one that isn't held stays as it is
over_ticks : (types : List ServedShape) (ms id : ℕ) (before : Connections) (held : Found) (a b : Bool) (o : Option Connection) → ConnectionsRepresent types held before → fin.get before id ≡ o
    → ConnectionRepresentsAt types (closed_by a b) o → ConnectionsRepresent types held (put_where o (killed_or_ticked types ms false) before id)
over_ticks types ms id before held a b None all got holds = all
over_ticks types ms id before held a b (Some c) all got holds =
    let idle = dead_idle types ms false c (closed_watches c.phase (closed_over types a b c holds)) in
    subst (ConnectionsRepresent types held) (sym (ap (fin.insert before id) idle ∙ put_same before id c got)) all

pub none_ticks : (types : List ServedShape) (ms id : ℕ) (before : Connections) (held held' : BTreeMap ℕ conns.Connection) (had_ended cut : ℕ → Bool) → ConnectionsRepresent types (found_in held had_ended cut) before
    → get nat_cmp held id ≡ None → held' ≡ held → TicksAt types ms id before (found_in held' had_ended cut) false
none_ticks types ms id before held held' had_ended cut all at same = (
  over_ticks types ms id before (found_in held' had_ended cut) (had_ended id) (cut id) (fin.get before id)
      (subst (λ (h : BTreeMap ℕ conns.Connection). ConnectionsRepresent types (found_in h had_ended cut) before) (sym same) all) refl
      (subst (λ (o : Option conns.Connection). ConnectionRepresentsAt types (held_or o (closed_by (had_ended id) (cut id))) (fin.get before id)) at (all id)),
  λ is. absurd (wrong is),
)

over_shut : (types : List ServedShape) (a b : Bool) (o : Option Connection) → ConnectionRepresentsAt types (closed_by a b) o → open_in o ≡ false
over_shut types a b None holds = refl
over_shut types a b (Some c) holds = closed_over types a b c holds

pub none_tells : (types : List ServedShape) (ms id : ℕ) (before : Connections) (held : BTreeMap ℕ conns.Connection) (had_ended cut : ℕ → Bool) (told : List (ℕ × Change))
    → ConnectionsRepresent types (found_in held had_ended cut) before → get nat_cmp held id ≡ None → TellsAt types ms id before told told false
none_tells types ms id before held had_ended cut told all at = λ fine.
    told_none id (ticked_change types ms (fin.get before id)) told (closed_did types ms (fin.get before id) (over_shut types (had_ended id) (cut id) (fin.get before id)
    (subst (λ (o : Option conns.Connection). ConnectionRepresentsAt types (held_or o (closed_by (had_ended id) (cut id))) (fin.get before id)) at (all id))))

pub some_tells : (types : List ServedShape) (ms id : ℕ) (before : Connections) (old : Found) (d : conns.Connection) (told new : List (ℕ × Change)) (ran_out : Bool) → ConnectionsRepresent types old before → old id ≡ Some d
    → ((c : Connection) → ConnectionRepresents types d c → ran_out ≡ false → new ≡ told ++ filter tells ((id, ticked_change types ms (Some c)) ∷ [])) → TellsAt types ms id before told new ran_out
some_tells types ms id before old d told new ran_out held at tells_it = λ fine.
    let found = some_held types (old id) (fin.get before id) d (held id) at in
    tells_it found.0 found.2 fine ∙ ap (λ (o : Option Connection). told ++ filter tells ((id, ticked_change types ms o) ∷ [])) (sym found.1)

found_by : (b : Bool) (e : conns.Connection) (o r : Option conns.Connection) → held_or (cond b (Some e) o) r ≡ cond b (Some e) (held_or o r)
found_by true e o r = refl
found_by false e o r = refl

-- what is held under an id is found under it
pub found_put : (held held' : BTreeMap ℕ conns.Connection) (had_ended cut : ℕ → Bool) (id : ℕ) (e : conns.Connection)
    → ((q : ℕ) → get nat_cmp held' q ≡ cond (eq_by_cmp nat_cmp id q) (Some e) (get nat_cmp held q)) → PutAt id e (found_in held had_ended cut) (found_in held' had_ended cut)
found_put held held' had_ended cut id e put q =
    ap (λ (o : Option conns.Connection). held_or o (closed_by (had_ended q) (cut q))) (put q) ∙ found_by (eq_by_cmp nat_cmp id q) e (get nat_cmp held q) (closed_by (had_ended q) (cut q))

pub put_keys : (held held' : BTreeMap ℕ conns.Connection) (id : ℕ) (e : conns.Connection) → is_some (get nat_cmp held id) ≡ true
    → ((q : ℕ) → get nat_cmp held' q ≡ cond (eq_by_cmp nat_cmp id q) (Some e) (get nat_cmp held q)) → (q : ℕ) → is_some (get nat_cmp held' q) ≡ is_some (get nat_cmp held q)
put_keys held held' id e was put q = ap is_some (put q) ∙ go (eq_by_cmp nat_cmp id q) (tied_same id q)
  where
    go : (b : Bool) → (b ≡ true → id ≡ q) → is_some (cond b (Some e) (get nat_cmp held q)) ≡ is_some (get nat_cmp held q)
    go true same = sym (ap (λ (k : ℕ). is_some (get nat_cmp held k)) (sym (same refl)) ∙ was)
    go false same = refl

pub some_ticks : (types : List ServedShape) (ms id : ℕ) (before : Connections) (old new : Found) (d e : conns.Connection) (ran_out : Bool) → ConnectionsRepresent types old before → old id ≡ Some d
    → PutAt id e old new → ((c : Connection) → ConnectionRepresents types d c → ConnectionRepresents types e (killed_or_ticked types ms ran_out c))
    → ((c : Connection) → ConnectionRepresents types d c → ran_out ≡ true → writes_at ms c.phase ≡ true) → TicksAt types ms id before new ran_out
some_ticks types ms id before old new d e ran_out held at put turns due =
    let found = some_held types (old id) (fin.get before id) d (held id) at in
    let f = killed_or_ticked types ms ran_out in (
      subst (ConnectionsRepresent types new) (sym (ap (λ (o : Option Connection). put_where o f before id) found.1))
          (held_put types old new before id e (f found.0) held put (turns found.0 found.2)),
      λ is. ap (λ (o : Option Connection). unwrap_or (option_map (λ c. writes_at ms c.phase) o) false) found.1 ∙ due found.0 found.2 is,
    )

open_same : (types : List ServedShape) (o : Option conns.Connection) (p : Option Connection) → ConnectionRepresentsAt types o p → unwrap_or (option_map is_open_in o) false ≡ open_in p
open_same types None None holds = refl
open_same types None (Some c) holds = absurd holds
open_same types (Some d) None holds = absurd holds
open_same types (Some d) (Some c) holds = same_open types d c holds

-- ---- one after the other

abbrev pub lists : List ℕ → ℕ → Bool
lists left q = list_any (is_at (nat_cmp q)) left

-- these are left; each other had its turn, or found no memory
abbrev pub SoFar : List ServedShape → ℕ → Connections → List ℕ → Connections → Bool → Type 0
SoFar types ms before left after some_ran_out =
    (which : ℕ → Bool) × ((q : ℕ) → lists left q ≡ true → (fin.get after q ≡ fin.get before q) × (which q ≡ false))
    × ((q : ℕ) → lists left q ≡ false → fin.get after q ≡ option_map (killed_or_ticked types ms (which q)) (fin.get before q))
    × ((q : ℕ) → which q ≡ true → due_on ms before q ≡ true) × (some_ran_out ≡ false → (q : ℕ) → which q ≡ false) × (some_ran_out ≡ true → (q : ℕ) × (which q ≡ true))

pub ticks_begin : (types : List ServedShape) (ms : ℕ) (before : Connections) (ids : BTreeSet ℕ) → Lists ids before → SoFar types ms before ids.keys before false
ticks_begin types ms before old_ids listed = (
  λ q. false,
  λ q is. (refl, refl),
  λ q is. sym (no_turn types ms false (fin.get before q) (closed q (open_on before q) refl is)),
  λ q is. absurd (wrong is),
  λ is q. refl,
  λ is. absurd (wrong is),
)
  where
    closed : (q : ℕ) (b : Bool) → open_on before q ≡ b → contains nat_cmp old_ids q ≡ false → open_on before q ≡ false
    closed q true is none = absurd (wrong (sym none ∙ listed q is))
    closed q false is none = is

-- no id is left twice
not_again : (id : ℕ) (left : List ℕ) → AllByRecursion (λ y. nat_cmp id y ≡ Less) left → lists left id ≡ false
not_again id [] all = refl
not_again id (x ∷ left) (first, rest) = ap₂ (λ (o : Ordering) (b : Bool). is_eq o || b) first (not_again id left rest)

pub sorted_rest : (id : ℕ) (left : List ℕ) → IsStrictlySortedBy nat_cmp (id ∷ left) → IsStrictlySortedBy nat_cmp left
sorted_rest id left sorted = (sorted_parts id left sorted).1

got_where : (f : Connection → Connection) (all : Connections) (id q : ℕ) (o : Option Connection) → fin.get all id ≡ o
    → fin.get (put_where o f all id) q ≡ cond (eq_by_cmp nat_cmp q id) (option_map f o) (fin.get all q)
got_where f all id q None at = go (eq_by_cmp nat_cmp q id) refl
  where
    go : (b : Bool) → eq_by_cmp nat_cmp q id ≡ b → fin.get all q ≡ cond b None (fin.get all q)
    go true e = ap (fin.get all) (tied_same q id e) ∙ at
    go false e = refl
got_where f all id q (Some c) at = fin.get-insert nat_cmp_total all id (f c) q

some_more : (b c : Bool) → (b || c) ≡ false → (b ≡ false) × (c ≡ false)
some_more true c is = absurd (wrong (sym is))
some_more false c is = (refl, is)

pub ticks_more : (types : List ServedShape) (ms : ℕ) (before : Connections) (id : ℕ) (left : List ℕ) (after : Connections) (some_ran_out out_of_memory : Bool) → IsStrictlySortedBy nat_cmp (id ∷ left)
    → SoFar types ms before (id ∷ left) after some_ran_out → (out_of_memory ≡ true → due_on ms after id ≡ true)
    → SoFar types ms before left (ticked_at types ms out_of_memory after id) (some_ran_out || out_of_memory)
ticks_more types ms before id left after some_ran_out out_of_memory sorted (which, waits, had, due, none, some) late = (
  which',
  λ q is. waits_by q (eq_by_cmp nat_cmp q id) refl is,
  λ q is. had_by q (eq_by_cmp nat_cmp q id) refl is,
  λ q is. due_by q (eq_by_cmp nat_cmp q id) refl is,
  λ is q. none_by q (eq_by_cmp nat_cmp q id) (some_more some_ran_out out_of_memory is),
  λ is. some_by some_ran_out out_of_memory refl refl is,
)
  where
    f : Bool → Connection → Connection
    f = killed_or_ticked types ms

    which' : ℕ → Bool
    which' q = cond (eq_by_cmp nat_cmp q id) out_of_memory (which q)

    here : lists (id ∷ left) id ≡ true
    here = ap (λ (b : Bool). b || lists left id) (itself id)

    now : (q : ℕ) → fin.get (ticked_at types ms out_of_memory after id) q ≡ cond (eq_by_cmp nat_cmp q id) (option_map (f out_of_memory) (fin.get after id)) (fin.get after q)
    now q = got_where (f out_of_memory) after id q (fin.get after id) refl

    first : (q : ℕ) → eq_by_cmp nat_cmp q id ≡ true → lists left q ≡ false
    first q e = ap (lists left) (tied_same q id e) ∙ not_again id left (sorted_parts id left sorted).0

    waits_by : (q : ℕ) (b : Bool) → eq_by_cmp nat_cmp q id ≡ b → lists left q ≡ true → (fin.get (ticked_at types ms out_of_memory after id) q ≡ fin.get before q) × (which' q ≡ false)
    waits_by q true e is = absurd (wrong (sym (first q e) ∙ is))
    waits_by q false e is =
        let was = waits q (ap (λ (b : Bool). b || lists left q) e ∙ is) in
        (now q ∙ ap (λ (b : Bool). cond b (option_map (f out_of_memory) (fin.get after id)) (fin.get after q)) e ∙ was.0, ap (λ (b : Bool). cond b out_of_memory (which q)) e ∙ was.1)

    had_by : (q : ℕ) (b : Bool) → eq_by_cmp nat_cmp q id ≡ b → lists left q ≡ false → fin.get (ticked_at types ms out_of_memory after id) q ≡ option_map (f (which' q)) (fin.get before q)
    had_by q true e is =
        now q ∙ ap (λ (b : Bool). cond b (option_map (f out_of_memory) (fin.get after id)) (fin.get after q)) e
        ∙ ap (option_map (f out_of_memory)) (waits id here).0 ∙ ap (λ (k : ℕ). option_map (f out_of_memory) (fin.get before k)) (sym (tied_same q id e))
        ∙ ap (λ (b : Bool). option_map (f (cond b out_of_memory (which q))) (fin.get before q)) (sym e)
    had_by q false e is =
        now q ∙ ap (λ (b : Bool). cond b (option_map (f out_of_memory) (fin.get after id)) (fin.get after q)) e
        ∙ had q (ap (λ (b : Bool). b || lists left q) e ∙ is)
        ∙ ap (λ (b : Bool). option_map (f (cond b out_of_memory (which q))) (fin.get before q)) (sym e)

    due_by : (q : ℕ) (b : Bool) → eq_by_cmp nat_cmp q id ≡ b → which' q ≡ true → due_on ms before q ≡ true
    due_by q true e is =
        ap (due_on ms before) (tied_same q id e) ∙ sym (ap (λ (o : Option Connection). unwrap_or (option_map (λ c. writes_at ms c.phase) o) false) (waits id here).0)
        ∙ late (sym (ap (λ (b : Bool). cond b out_of_memory (which q)) e) ∙ is)
    due_by q false e is = due q (sym (ap (λ (b : Bool). cond b out_of_memory (which q)) e) ∙ is)

    none_by : (q : ℕ) (b : Bool) → (some_ran_out ≡ false) × (out_of_memory ≡ false) → cond b out_of_memory (which q) ≡ false
    none_by q true (one, more) = more
    none_by q false (one, more) = none one q

    some_by : (x y : Bool) → some_ran_out ≡ x → out_of_memory ≡ y → (some_ran_out || out_of_memory) ≡ true → (q : ℕ) × (which' q ≡ true)
    some_by x true ex ey is = (id, ap (λ (b : Bool). cond b out_of_memory (which id)) (itself id) ∙ ey)
    some_by true false ex ey is = older (some ex)
      where
        older : (q : ℕ) × (which q ≡ true) → (q : ℕ) × (which' q ≡ true)
        older (q, was) = (q, by_id (eq_by_cmp nat_cmp q id) refl)
          where
            by_id : (b : Bool) → eq_by_cmp nat_cmp q id ≡ b → cond (eq_by_cmp nat_cmp q id) out_of_memory (which q) ≡ true
            by_id true e = absurd (wrong (sym (waits q (ap (λ (b : Bool). b || lists left q) e)).1 ∙ was))
            by_id false e = ap (λ (b : Bool). cond b out_of_memory (which q)) e ∙ was
    some_by false false ex ey is = absurd (wrong (sym (ap₂ (λ (a b : Bool). a || b) ex ey) ∙ is))

-- ---- what is told of them

abbrev pub told_of : List ServedShape → ℕ → Connections → List ℕ → List (ℕ × Change)
told_of types ms before ids = filter tells (map (λ id. (id, ticked_change types ms (fin.get before id))) ids)

-- what is told so far, and what is left to be told
abbrev pub ToldSoFar : List ServedShape → ℕ → Connections → List ℕ → List ℕ → Connections → List (ℕ × Change) → Bool → Type 0
ToldSoFar types ms before ids left after told some_ran_out =
    SoFar types ms before left after some_ran_out × (some_ran_out ≡ false → told ++ told_of types ms before left ≡ told_of types ms before ids)

first_told : (b : Bool) (entry : ℕ × Change) (rest : List (ℕ × Change)) → cond b (entry ∷ []) [] ++ rest ≡ cond b (entry ∷ rest) rest
first_told true entry rest = refl
first_told false entry rest = refl

pub told_more : (types : List ServedShape) (ms : ℕ) (before : Connections) (ids : List ℕ) (id : ℕ) (left : List ℕ) (after : Connections) (told new : List (ℕ × Change)) (some_ran_out out_of_memory : Bool)
    → IsStrictlySortedBy nat_cmp (id ∷ left) → ToldSoFar types ms before ids (id ∷ left) after told some_ran_out → (out_of_memory ≡ true → due_on ms after id ≡ true) → TellsAt types ms id after told new out_of_memory
    → ToldSoFar types ms before ids left (ticked_at types ms out_of_memory after id) new (some_ran_out || out_of_memory)
told_more types ms before ids id left after told new some_ran_out out_of_memory sorted (so_far, was) late tells_it = (
  ticks_more types ms before id left after some_ran_out out_of_memory sorted so_far late,
  λ is.
      let fine = some_more some_ran_out out_of_memory is in
      let here : lists (id ∷ left) id ≡ true = ap (λ (b : Bool). b || lists left id) (itself id) in
      let entry : ℕ × Change = (id, ticked_change types ms (fin.get before id)) in
      let rest = told_of types ms before left in
      ap (λ (l : List (ℕ × Change)). l ++ rest) (tells_it fine.1 ∙ ap (λ (o : Option Connection). told ++ filter tells ((id, ticked_change types ms o) ∷ [])) (so_far.1 id here).0)
      ∙ append_assoc told (filter tells (entry ∷ [])) rest ∙ ap (λ (l : List (ℕ × Change)). told ++ l) (first_told (tells entry) entry rest) ∙ was fine.0,
)

ids_told : (types : List ServedShape) (ms : ℕ) (before : Connections) (ids : List ℕ) → ids_in (told_of types ms before ids) ≡ filter (λ id. tells (id, ticked_change types ms (fin.get before id))) ids
ids_told types ms before [] = refl
ids_told types ms before (id ∷ ids) = go (tells (id, ticked_change types ms (fin.get before id))) (ids_told types ms before ids)
  where
    entry : ℕ × Change
    entry = (id, ticked_change types ms (fin.get before id))

    rest : List (ℕ × Change)
    rest = told_of types ms before ids

    others : List ℕ
    others = filter (λ k. tells (k, ticked_change types ms (fin.get before k))) ids

    go : (b : Bool) → ids_in rest ≡ others → ids_in (cond b (entry ∷ rest) rest) ≡ cond b (id ∷ others) others
    go true same = ap (λ (ks : List ℕ). id ∷ ks) same
    go false same = same

-- one of these, if its turn does something
found_told : (types : List ServedShape) (ms : ℕ) (before : Connections) (q : ℕ) (ids : List ℕ)
    → change_in (told_of types ms before ids) q ≡ cond (lists ids q) (if_something (ticked_change types ms (fin.get before q))) None
found_told types ms before q [] = refl
found_told types ms before q (id ∷ ids) =
    looked (says_something (did id)) ∙ go (says_something (did id)) (eq_by_cmp nat_cmp q id) refl (tied_same q id) (found_told types ms before q ids)
  where
    did : ℕ → Change
    did k = ticked_change types ms (fin.get before k)

    rest : List (ℕ × Change)
    rest = told_of types ms before ids

    either : (b : Bool) → if_something (did q) ≡ None → cond b (if_something (did q)) None ≡ if_something (did q)
    either true none = refl
    either false none = sym none

    look : Bool → Bool → Option Change
    look f e = cond f (cond e (Some (did id)) (change_in rest q)) (change_in rest q)

    looked : (f : Bool) → change_in (cond f ((id, did id) ∷ rest) rest) q ≡ look f (eq_by_cmp nat_cmp q id)
    looked true = refl
    looked false = refl

    go : (f e : Bool) → says_something (did id) ≡ f → (e ≡ true → q ≡ id) → change_in rest q ≡ cond (lists ids q) (if_something (did q)) None
        → look f e ≡ cond (e || lists ids q) (if_something (did q)) None
    go true true something same later = sym (ap (λ (b : Bool). cond b (Some (did id)) None) something) ∙ ap (λ (k : ℕ). if_something (did k)) (sym (same refl))
    go true false something same later = later
    go false true something same later =
        later ∙ either (lists ids q) (ap (λ (k : ℕ). if_something (did k)) (same refl) ∙ ap (λ (b : Bool). cond b (Some (did id)) None) something)
    go false false something same later = later

pub tell_all : (types : List ServedShape) (ms : ℕ) (before : Connections) (ids : List ℕ) (told : List (ℕ × Change)) → IsStrictlySortedBy nat_cmp ids → ((q : ℕ) → open_on before q ≡ true → lists ids q ≡ true)
    → told ≡ told_of types ms before ids → TellAll types ms before told
tell_all types ms before ids told sorted listed is = subst (TellAll types ms before) (sym is) (record {
  rises = subst (IsStrictlySortedBy nat_cmp) (sym (ids_told types ms before ids)) (IsStrictlySortedBy-filter nat_cmp (λ id. tells (id, ticked_change types ms (fin.get before id))) ids sorted);
  says = λ q. found_told types ms before q ids ∙ go q (lists ids q) refl (open_on before q) refl;
})
  where
    go : (q : ℕ) (b : Bool) → lists ids q ≡ b → (o : Bool) → open_on before q ≡ o
        → cond b (if_something (ticked_change types ms (fin.get before q))) None ≡ if_something (ticked_change types ms (fin.get before q))
    go q true is o shut = refl
    go q false is true opened = absurd (wrong (sym is ∙ listed q opened))
    go q false is false shut = sym (ap if_something (closed_did types ms (fin.get before q) shut))

-- ---- at the end

-- each had its turn, or found no memory, as the flag says
abbrev pub AllTicked : List ServedShape → ℕ → Connections → Found → Bool → Type 0
AllTicked types ms before held some_ran_out = (which : ℕ → Bool) × ConnectionsRepresent types held (ticked_all types ms which before)
    × (some_ran_out ≡ false → (q : ℕ) → which q ≡ false) × (some_ran_out ≡ true → SomeRanOutOfMemory ms which before)

pub ticks_end : (types : List ServedShape) (ms : ℕ) (before after : Connections) (held : Found) (some_ran_out : Bool) → ConnectionsRepresent types held after
    → SoFar types ms before [] after some_ran_out → AllTicked types ms before held some_ran_out
ticks_end types ms before after held some_ran_out holds (which, waits, had, due, none, some) =
    let f = λ (q : ℕ) (c : Connection). killed_or_ticked types ms (which q) c in
    let same : after ≡ ticked_all types ms which before =
    fin.same_map nat_cmp_total fin.nat_cmp-IsAntisymmetric _ _ (λ q. had q refl ∙ sym (got_each f before q)) in (
      which,
      subst (ConnectionsRepresent types held) same holds,
      none,
      λ is. let found = some is in (found.0, found.1, due found.0 found.1),
    )

-- ---- the hub

each_same : (f g : ℕ → Connection → Connection) (all : Connections) → ((q : ℕ) (c : Connection) → f q c ≡ g q c) → each f all ≡ each g all
each_same f g all same = fin.same_map nat_cmp_total fin.nat_cmp-IsAntisymmetric _ _ (λ q. got_each f all q ∙ mapped q (fin.get all q) ∙ sym (got_each g all q))
  where
    mapped : (q : ℕ) (o : Option Connection) → option_map (f q) o ≡ option_map (g q) o
    mapped q None = refl
    mapped q (Some c) = ap (λ (d : Connection). Some d) (same q c)

ids_same : (f : ℕ → Connection → Connection) (es : Entries) → ids (changed f es) ≡ ids es
ids_same f [] = refl
ids_same f (e ∷ es) = ap (λ (rest : List ℕ). e.0 ∷ rest) (ids_same f es)

-- what becomes of connections makes no id known
new_each : (f : ℕ → Connection → Connection) (all : Connections) (q : ℕ) → is_new (each f all) q ≡ is_new all q
new_each f all q =
    ap (λ (es : Entries). list_all (λ known. nat_lt known q) (ids es))
    (fin.entries-from_sorted nat_cmp (changed f (fin.entries all)) (subst T (sym (sorted_same f (fin.entries all))) (fin.entries_sorted all)))
    ∙ ap (λ (ks : List ℕ). list_all (λ known. nat_lt known q) ks) (ids_same f (fin.entries all))

-- a tick opens none of them
each_opens : (types : List ServedShape) (ms : ℕ) (which : ℕ → Bool) (all : Connections) (q : ℕ) → open_on (ticked_all types ms which all) q ≡ true → open_on all q ≡ true
each_opens types ms which all q now =
    go (fin.get all q) (sym (ap open_in (got_each (λ k c. killed_or_ticked types ms (which k) c) all q)) ∙ now)
  where
    go : (o : Option Connection) → open_in (option_map (λ c. killed_or_ticked types ms (which q) c) o) ≡ true → open_in o ≡ true
    go None is = is
    go (Some c) is = tick_opens types ms (which q) c is

abbrev open_held : BTreeMap ℕ conns.Connection → ℕ → Bool
open_held held id = unwrap_or (option_map is_open_in (get nat_cmp held id)) false

-- one that isn't held isn't open
open_found : (o : Option conns.Connection) (a b : Bool) → unwrap_or (option_map is_open_in o) false ≡ unwrap_or (option_map is_open_in (held_or o (closed_by a b))) false
open_found None true b = refl
open_found None false true = refl
open_found None false false = refl
open_found (Some d) a b = refl

keeps_true : (b c : Bool) → (b ≡ true → c ≡ true) → b && c ≡ b
keeps_true true c then = then refl
keeps_true false c then = refl

pub ticks_in : (s : State) (ms : ℕ) (shared : Shared) (old new : TheConnections) (told : Option (Vec (ℕ × Change) Global)) → PartsRepresent shared old s → TicksAll s.types ms s.connections (found new) told
    → new.open_ids.keys ≡ filter (open_held new.held) old.open_ids.keys → new.highest ≡ old.highest → IsApart new → TicksIn shared ms s new told
ticks_in s ms shared old new told held (which, holds, are_told) kept same apart = (
  which,
  record {
    machine = held.machine;
    connections = holds;
    open_is = listed;
    highest_is = λ q. new_each f s.connections q ∙ held.highest_is q ∙ sym (ap (λ (h : Option ℕ). is_above h q) same);
    apart = apart;
  },
  are_told,
)
  where
    f : ℕ → Connection → Connection
    f q c = killed_or_ticked s.types ms (which q) c

    after : Connections
    after = ticked_all s.types ms which s.connections

    there : (q : ℕ) → open_held new.held q ≡ open_on after q
    there q = open_found (get nat_cmp new.held q) (is_in new.ended.ranges q) (is_in new.cut.ranges q) ∙ open_same s.types (found new q) (fin.get after q) (holds q)

    listed : (q : ℕ) → contains nat_cmp new.open_ids q ≡ open_on after q
    listed q =
        ap (list_any (is_at (nat_cmp q))) kept
        ∙ any-filter_same (is_at (nat_cmp q)) (open_held new.held) (open_on after q) (λ k e. ap (open_held new.held) (sym (tied_same q k e)) ∙ there q) old.open_ids.keys
        ∙ keeps_true (open_on after q) (contains nat_cmp old.open_ids q) (λ now. held.open_is q ∙ each_opens s.types ms which s.connections q now)

not_back : (s : State) (ms last_tick : ℕ) → last_tick ≡ s.last_tick → nat_lt ms last_tick ≡ false → refusal s (ticks ms) ≡ None
not_back s ms last_tick same forward = ap (λ (b : Bool). cond b (Some tick_back) None) (ap (nat_lt ms) (sym same) ∙ forward)

pub ticks_refused : (s : State) (ms last_tick : ℕ) → last_tick ≡ s.last_tick → nat_lt ms last_tick ≡ true → refusal s (ticks ms) ≡ Some tick_back
ticks_refused s ms last_tick same back = ap (λ (b : Bool). cond b (Some tick_back) None) (ap (nat_lt ms) (sym same) ∙ back)

-- the hub is in this state
abbrev pub IsInState : Shared → TheConnections → ℕ → State → Type 0
IsInState shared k last_tick s = PartsRepresent shared k s × (last_tick ≡ s.last_tick)

pub ticks_well : (s : State) (ms last_tick : ℕ) (shared : Shared) (new : TheConnections) (told : Vec (ℕ × Change) Global) → last_tick ≡ s.last_tick → nat_lt ms last_tick ≡ false → TicksIn shared ms s new (Some told)
    → (refusal s (ticks ms) ≡ None) × (t : State) × Does s (ticks ms) t (effect.Connections told) × IsInState shared new ms t
ticks_well s ms last_tick shared new told same forward (which, held, (none, are_told)) =
    let g = λ (q : ℕ) (c : Connection). with_turn (ticked s.types ms) c in
    let free = not_back s ms last_tick same forward in
    let all : ticked_all s.types ms which s.connections ≡ each g s.connections =
    each_same _ g s.connections (λ q c. ap (λ (b : Bool). killed_or_ticked s.types ms b c) (none q)) in (
      free,
      with_tick s ms (each g s.connections),
      (
        undecided,
        refl,
        sym (ap (λ (o : Option Refusal). unless_refused o s (with_tick s ms (each g s.connections))) free),
        record {
          rises = are_told.rises;
          says = λ q.
              are_told.says q
              ∙ ap (λ (o : Option Connection). if_something (change_between (fin.get s.connections q) o (lines_if s.types ms (fin.get s.connections q)) None)) (sym (got_each g s.connections q));
          answers = refl;
        },
      ),
      subst (λ (cs : Connections). IsInState shared new ms (with_tick s ms cs)) all (held, refl),
    )

any_entry : (ms : ℕ) (which : ℕ → Bool) (q : ℕ) → which q ≡ true → (es : Entries) → unwrap_or (option_map (λ c. writes_at ms c.phase) (entries.find nat_cmp q es)) false ≡ true
    → list_any (λ e. which e.0 && writes_at ms e.1.phase) es ≡ true
any_entry ms which q found [] due = absurd (wrong due)
any_entry ms which q found (e ∷ es) due = go (eq_by_cmp nat_cmp q e.0) (tied_same q e.0) due (any_entry ms which q found es)
  where
    later : (b : Bool) → (b || true) ≡ true
    later true = refl
    later false = refl

    go : (b : Bool) → (b ≡ true → q ≡ e.0) → unwrap_or (option_map (λ c. writes_at ms c.phase) (cond b (Some e.1) (entries.find nat_cmp q es))) false ≡ true
        → (unwrap_or (option_map (λ c. writes_at ms c.phase) (entries.find nat_cmp q es)) false ≡ true → list_any (λ e. which e.0 && writes_at ms e.1.phase) es ≡ true)
        → (which e.0 && writes_at ms e.1.phase) || list_any (λ e. which e.0 && writes_at ms e.1.phase) es ≡ true
    go true is here rest =
        ap₂ (λ (a b : Bool). (a && b) || list_any (λ x. which x.0 && writes_at ms x.1.phase) es) (sym (ap which (is refl)) ∙ found) here
    go false is there rest = ap (λ (b : Bool). (which e.0 && writes_at ms e.1.phase) || b) (rest there) ∙ later (which e.0 && writes_at ms e.1.phase)

pub ticks_run_out : (s : State) (ms last_tick : ℕ) (shared : Shared) (new : TheConnections) → last_tick ≡ s.last_tick → nat_lt ms last_tick ≡ false → TicksIn shared ms s new None
    → (which : ℕ → Bool) × (t : State) × RunsOutOfMemory s (ticks ms) which t × IsInState shared new ms t
ticks_run_out s ms last_tick shared new same forward (which, held, found) = (
  which,
  with_tick s ms (ticked_all s.types ms which s.connections),
  (
    not_back s ms last_tick same forward,
    any_entry ms which found.0 found.1 (fin.entries s.connections)
        (sym (ap (λ (o : Option Connection). unwrap_or (option_map (λ c. writes_at ms c.phase) o) false) (fin.get-entries s.connections found.0)) ∙ found.2),
    refl,
  ),
  (held, refl),
)
