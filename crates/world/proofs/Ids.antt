-- The ids of a hub's connections, and what was written on each.
use Rattle.std.proofs.Common.{◌≡◌, ◌<◌, ◌∙◌, ℕ, Bool, true, false, cond, ◌&&◌, is_lt, List, [], ◌∷◌, ◌++◌, length, map, Option, Some, None, refl, sym, ap, ap₂, subst, take, append-nil, Global, ◌+◌}
use Rattle.std.specs.Prelude.{⊤, is_none, is_some, nat_lt, option_map, unwrap_or, T, Vec}
use Rattle.std.specs.Cmp.{nat_cmp_is, nat_cmp_total}
use Rattle.std.specs.FinMap as fin
use Rattle.std.specs.FinMap.Entries.{below_all, by_order, find, is_sorted, put}
use Rattle.std.specs.List.{list_all, slice_index_or}
use Rattle.std.proofs.lemmas.List.{map-append, map_more}
use Rattle.std.specs.Ordering.{eq_by_cmp, nat_cmp}
use Rattle.std.specs.declared.cmp.Ordering.TheVariants.{Greater}
use Rattle.std.proofs.lemmas.Bool.{and_parts, ltb-true}
use Rattle.api_types.specs.TypesFile.{ServedShape}
use Rattle.history.specs.History.{History}
use Rattle.verbs.specs.Retyping.{retyping}
use Rattle.requests.specs.Asks.{CallDecision}
use Rattle.httpedge.specs.Connections.{Connection, Connections, Phase, waiting, watching, ended, gone, each, is_new, written_on}
use Rattle.httpedge.specs.Runs.{Steps}
use Rattle.httpedge.specs.Steps.{Event, Refusal, State, opens, comes, goes, pumps, ticks, compacts, retypes, by_connection, applied_event, id_not_above, opening, received_by, refusal, start, unless_refused}
use Rattle.httpedge.proofs.Connected.{tied_same}
use Rattle.httpedge.proofs.OtherTypes.{same_connections}
use Rattle.world.proofs.Kept.{refused_same}
use Rattle.world.specs.Views.{reply_seen}
use Rattle.world.specs.Serving.{all_written, opened_by, written_at}

-- ---- entries whose values are others

module _ {X Y : Type 0} (f : ℕ → X → Y) where
  abbrev pub each_of : List (ℕ × X) → List (ℕ × Y)
  each_of es = map (λ e. (e.0, f e.0 e.1)) es

  below_each : (x : ℕ) (es : List (ℕ × X)) → below_all nat_cmp x (each_of es) ≡ below_all nat_cmp x es
  below_each x [] = refl
  below_each x (e ∷ es) = ap (λ b. is_lt (nat_cmp x e.0) && b) (below_each x es)

  pub sorted_each : (es : List (ℕ × X)) → is_sorted nat_cmp (each_of es) ≡ is_sorted nat_cmp es
  sorted_each [] = refl
  sorted_each (e ∷ es) = ap₂ (λ a b. a && b) (below_each e.0 es) (sorted_each es)

  found_by : (q : ℕ) (e : ℕ × X) (o : Option X) (b : Bool) → eq_by_cmp nat_cmp q e.0 ≡ b → cond b (Some (f e.0 e.1)) (option_map (f q) o) ≡ option_map (f q) (cond b (Some e.1) o)
  found_by q e o true is = ap (λ k. Some (f k e.1)) (sym (tied_same q e.0 is))
  found_by q e o false is = refl

  pub find_each : (q : ℕ) (es : List (ℕ × X)) → find nat_cmp q (each_of es) ≡ option_map (f q) (find nat_cmp q es)
  find_each q [] = refl
  find_each q (e ∷ es) = ap (cond (eq_by_cmp nat_cmp q e.0) (Some (f e.0 e.1))) (find_each q es) ∙ found_by q e (find nat_cmp q es) (eq_by_cmp nat_cmp q e.0) refl

-- two maps whose values are alike at each key list them alike
same_each : {X Y : Type 0} (f g : ℕ → X → Y) (m n : fin.FinMap nat_cmp X) → ((q : ℕ) → option_map (f q) (fin.get m q) ≡ option_map (g q) (fin.get n q)) → each_of f (fin.entries m) ≡ each_of g (fin.entries n)
same_each f g m n alike =
    let ms = each_of f (fin.entries m) in
    let ns = each_of g (fin.entries n) in
    let of_m : T (is_sorted nat_cmp ms) = subst T (sym (sorted_each f (fin.entries m))) (fin.entries_sorted m) in
    let of_n : T (is_sorted nat_cmp ns) = subst T (sym (sorted_each g (fin.entries n))) (fin.entries_sorted n) in
    let maps : fin.from_sorted {R = nat_cmp} ms ≡ fin.from_sorted ns = fin.same_map nat_cmp_total fin.nat_cmp-IsAntisymmetric (fin.from_sorted ms) (fin.from_sorted ns) (λ q.
    fin.get-from_sorted nat_cmp ms q of_m ∙ find_each f q (fin.entries m) ∙ ap (option_map (f q)) (sym (fin.get-entries m q)) ∙ alike q
    ∙ ap (option_map (g q)) (fin.get-entries n q) ∙ sym (find_each g q (fin.entries n)) ∙ sym (fin.get-from_sorted nat_cmp ns q of_n)) in
    sym (fin.entries-from_sorted nat_cmp ms of_m) ∙ ap fin.entries maps ∙ fin.entries-from_sorted nat_cmp ns of_n

-- ---- ids

no_value : ℕ → Connection → ⊤
no_value q c = tt

map_twice : (es : List (ℕ × Connection)) → map (λ e. e.0) (each_of no_value es) ≡ map (λ e. e.0) es
map_twice [] = refl
map_twice (e ∷ es) = ap (λ ks. e.0 ∷ ks) (map_twice es)

known_alike : (o p : Option Connection) → is_some o ≡ is_some p → (q : ℕ) → option_map (no_value q) o ≡ option_map (no_value q) p
known_alike None None is q = refl
known_alike None (Some c) is q = absurd cc
known_alike (Some c) None is q = absurd cc
known_alike (Some c) (Some d) is q = refl

-- two hubs that know the same ids
same_keys : (m n : Connections) → ((q : ℕ) → is_some (fin.get m q) ≡ is_some (fin.get n q)) → fin.keys m ≡ fin.keys n
same_keys m n alike =
    sym (map_twice (fin.entries m)) ∙ ap (map (λ e. e.0)) (same_each no_value no_value m n (λ q. known_alike (fin.get m q) (fin.get n q) (alike q) q)) ∙ map_twice (fin.entries n)

nothing : {A : Type 0} (xs : List A) → length xs ≡ 0 → xs ≡ []
nothing [] is = refl
nothing (x ∷ xs) is = absurd cc

-- at the start there are none
pub no_ids : (types : List ServedShape) (m : History) → [] ≡ fin.keys (start types m).connections
no_ids types m =
    let all = (start types m).connections in
    ap (map (λ e. e.0)) (sym (nothing (fin.entries all) (sym (fin.len-entries all) ∙ fin.len-empty nat_cmp Connection)))

-- ---- a connection that opens

above_is : (id known : ℕ) → known < id → nat_cmp id known ≡ Greater
above_is id known lt = sym (nat_cmp_is id known Greater lt)

put_last : (id : ℕ) (c : Connection) (es : List (ℕ × Connection)) → list_all (λ known. nat_lt known id) (map (λ e. e.0) es) ≡ true → map (λ e. e.0) (put nat_cmp id c es) ≡ map (λ e. e.0) es ++ id ∷ []
put_last id c [] above = refl
put_last id c (e ∷ es) above =
    let parts = and_parts (nat_lt e.0 id) (list_all (λ known. nat_lt known id) (map (λ e. e.0) es)) above in
    let behind = above_is id e.0 (ltb-true e.0 id parts.0) in
    ap (λ o. map (λ e. e.0) (by_order o ((id, c) ∷ e ∷ es) ((e.0, c) ∷ es) (e ∷ put nat_cmp id c es))) behind
    ∙ ap (λ ks. e.0 ∷ ks) (put_last id c es parts.1)

new_by : (b : Bool) → is_none (cond {A = Option Refusal} b None (Some id_not_above)) ≡ true → b ≡ true
new_by true is = refl
new_by false is = absurd cc

-- ---- an event

put_known : (all : Connections) (id q : ℕ) (c d : Connection) → fin.get all id ≡ Some c → is_some (fin.get (fin.insert all id d) q) ≡ is_some (fin.get all q)
put_known all id q c d at = ap is_some (fin.get-insert nat_cmp_total all id d q) ∙ by (eq_by_cmp nat_cmp q id) refl
  where
    by : (b : Bool) → eq_by_cmp nat_cmp q id ≡ b → is_some (cond b (Some d) (fin.get all q)) ≡ is_some (fin.get all q)
    by true is = sym (ap (λ k. is_some (fin.get all k)) (tied_same q id is) ∙ ap is_some at)
    by false is = refl

by_known : (s : State) (id : ℕ) (o : Option Connection) (f : Connection → State) → ((c : Connection) → o ≡ Some c → fin.keys (f c).connections ≡ fin.keys s.connections)
    → fin.keys (by_connection s o f).connections ≡ fin.keys s.connections
by_known s id None f stays = refl
by_known s id (Some c) f stays = stays c refl

keys_put : (s : State) (id : ℕ) (c d : Connection) → fin.get s.connections id ≡ Some c → fin.keys (fin.insert s.connections id d) ≡ fin.keys s.connections
keys_put s id c d at = same_keys (fin.insert s.connections id d) s.connections (λ q. put_known s.connections id q c d at)

received_known : (s : State) (id : ℕ) (c : Connection) (st : Phase) (bytes : List ℕ) (asked : CallDecision) → fin.get s.connections id ≡ Some c
    → fin.keys (received_by s id c st bytes asked).connections ≡ fin.keys s.connections
received_known s id c (waiting prefix) bytes asked at = keys_put s id c _ at
received_known s id c (watching w) bytes asked at = refl
received_known s id c ended bytes asked at = refl
received_known s id c (gone had_ended) bytes asked at = refl

abbrev pub EachChanges : Type 0
EachChanges = (f : ℕ → Connection → Connection) (all : Connections) (id : ℕ) → fin.get (each f all) id ≡ option_map (f id) (fin.get all id)

still_some : {A B : Type 0} (f : A → B) (o : Option A) → is_some (option_map f o) ≡ is_some o
still_some f None = refl
still_some f (Some x) = refl

carried_keys : EachChanges → (s : State) (e : Event) (asked : CallDecision) → is_none (refusal s e) ≡ true → fin.keys (applied_event s e asked).connections ≡ fin.keys s.connections ++ opened_by e
carried_keys law s (opens id) asked free =
    ap (map (λ e. e.0)) (fin.entries-insert nat_cmp_total s.connections id (opening s.connections)) ∙ put_last id (opening s.connections) (fin.entries s.connections) (new_by (is_new s.connections id) free)
carried_keys law s (comes id bytes) asked free =
    by_known s id (fin.get s.connections id) _ (λ c at. received_known s id c c.phase bytes asked at) ∙ sym (append-nil (fin.keys s.connections))
carried_keys law s (goes id) asked free = by_known s id (fin.get s.connections id) _ (λ c at. keys_put s id c _ at) ∙ sym (append-nil (fin.keys s.connections))
carried_keys law s (pumps id max) asked free = by_known s id (fin.get s.connections id) _ (λ c at. keys_put s id c _ at) ∙ sym (append-nil (fin.keys s.connections))
carried_keys law s (ticks ms) asked free =
    same_keys (applied_event s (ticks ms) asked).connections s.connections (λ q. ap is_some (law _ s.connections q) ∙ still_some _ (fin.get s.connections q)) ∙ sym (append-nil (fin.keys s.connections))
carried_keys law s (compacts c) asked free = sym (append-nil (fin.keys s.connections))
carried_keys law s (retypes file) asked free = ap fin.keys (same_connections s (retyping s.types s.machine file)) ∙ sym (append-nil (fin.keys s.connections))

unrefused : (s t : State) (o : Option Refusal) → is_none o ≡ true → unless_refused o s t ≡ t
unrefused s t None is = refl
unrefused s t (Some why) is = absurd cc

-- an event that isn't refused opens its id, if it opens one
pub keys_after : EachChanges → (s t : State) (e : Event) → is_none (refusal s e) ≡ true → Steps s e t → fin.keys s.connections ++ opened_by e ≡ fin.keys t.connections
keys_after law s t e free (asked, asks, is) =
    sym (ap (λ x. fin.keys x.connections) (is ∙ unrefused s (applied_event s e asked) (refusal s e) free) ∙ carried_keys law s e asked free)

-- a refused one changes nothing
pub keys_stay : (s t : State) (e : Event) → is_none (refusal s e) ≡ false → Steps s e t → fin.keys s.connections ≡ fin.keys t.connections
keys_stay s t e refused steps = ap (λ x. fin.keys x.connections) (sym (refused_same s t e refused steps))

-- ---- what was written

found_written : (all : Connections) (q : ℕ) (o : Option Connection) → fin.get all q ≡ o
    → option_map (λ (c : Connection). written_on all q) o ≡ option_map (λ (c : Connection). c.written) o
found_written all q None at = refl
found_written all q (Some c) at = ap (λ o. Some (unwrap_or (option_map (λ (c : Connection). c.written) o) [])) at

ids_listed : (f : ℕ → List ℕ) (es : List (ℕ × Connection)) → map (λ id. (id, f id)) (map (λ e. e.0) es) ≡ each_of (λ q (c : Connection). f q) es
ids_listed f [] = refl
ids_listed f (e ∷ es) = ap (λ rest. (e.0, f e.0) ∷ rest) (ids_listed f es)

-- by their ids, what was written on each
pub all_listed : (s : State) → map (written_at s) (fin.keys s.connections) ≡ all_written s
all_listed s =
    let all = s.connections in
    ids_listed (written_on all) (fin.entries all)
    ∙ same_each (λ q (c : Connection). written_on all q) (λ q (c : Connection). c.written) all all (λ q. found_written all q (fin.get all q) refl)

-- one more of them
pub replies_more : (s : State) (ids : List ℕ) (i id : ℕ) (old new : List (ℕ × Vec ℕ Global)) (written : Vec ℕ Global) → i < length ids → id ≡ slice_index_or ids i 0 → new ≡ old ++ (id, written) ∷ []
    → written.items ≡ written_on s.connections id → map reply_seen old ≡ map (written_at s) (take i ids) → map reply_seen new ≡ map (written_at s) (take (i + 1) ids)
replies_more s ids i id old new written lt here pushed is before =
    ap (map reply_seen) pushed ∙ map-append reply_seen old ((id, written) ∷ [])
    ∙ ap₂ (λ (xs ys : List (ℕ × List ℕ)). xs ++ ys) before (ap (λ (bytes : List ℕ). (id, bytes) ∷ []) is ∙ ap (λ (k : ℕ). written_at s k ∷ []) here)
    ∙ sym (map_more (written_at s) ids i 0 lt)
