-- What the events of an exchange make of the hub's connections: a peer goes, one opens, bytes come on it.
use Rattle.std.proofs.Common.{◌≡◌, ◌≢◌, ℕ, ◌+◌, ◌<◌, ◌≤◌, Bool, true, false, cond, [], ◌∷◌, Option, Some, None, refl, sym, ap, subst, ◌∙◌, arith}
use Rattle.std.proofs.lemmas.Bool.{lt-leb, lt-ltb}
use Rattle.std.specs.Cmp.{nat_cmp_total}
use Rattle.std.specs.FinMap as fin
use Rattle.std.specs.Ordering.{nat_cmp}
use Rattle.std.specs.Prelude.{◌&&◌, is_some}
use Rattle.std.specs.declared.cmp.Ordering.{Ordering}
use Rattle.std.specs.declared.cmp.Ordering.TheVariants.{Less, Equal, Greater}
use Rattle.requests.specs.Decision.{undecided}
use Rattle.requests.specs.Refusals.{as_denied, too_many_connections}
use Rattle.requests.specs.Replies.{refusal_reply}
use Rattle.httpedge.proofs.Connected.{Entries, new_put, new_still, one_if, opens_first, opens_in, put, put_by}
use Rattle.httpedge.proofs.NextIds.{above_all, below_all}
use Rattle.httpedge.proofs.Staying.{put_elsewhere}
use Rattle.httpedge.specs.Connections.{Connection, Connections, ended, gone, has_ended, highest, is_new, is_open, max_open, next_id, open_count, new_connection, with_phase, with_written}
use Rattle.httpedge.specs.Runs.{Steps}
use Rattle.httpedge.specs.Steps.{State, by_connection, goes, id_not_above, opening, opens, unknown_id, unless_refused, with_connection, with_connections}
use Rattle.world_laws.specs.World.{ClientConnection}

-- ---- a peer that goes

abbrev pub gone_by : Connections → ℕ → Option Connection → Connections
gone_by all id None = all
gone_by all id (Some c) = fin.insert all id (with_phase c (gone (has_ended c.phase)))

goes_by : (s : State) (id : ℕ) (o : Option Connection)
    → with_connections s (gone_by s.connections id o) ≡ unless_refused (cond (is_some o) None (Some unknown_id)) s (by_connection s o (λ c. with_connection s id (with_phase c (gone (has_ended c.phase)))))
goes_by s id None = refl
goes_by s id (Some c) = refl

pub goes_so : (s : State) (id : ℕ) → Steps s (goes id) (with_connections s (gone_by s.connections id (fin.get s.connections id)))
goes_so s id = (undecided, refl, goes_by s id (fin.get s.connections id))

-- the client leaves its connection, if it has one
abbrev pub left_by : Connections → Option ClientConnection → Connections
left_by all None = all
left_by all (Some own) = gone_by all own.id (fin.get all own.id)

-- ---- ids

gone_new : (all : Connections) (id q : ℕ) (o : Option Connection) → fin.get all id ≡ o → is_new (gone_by all id o) q ≡ is_new all q
gone_new all id q None got = refl
gone_new all id q (Some c) got = new_still all id q c (with_phase c (gone (has_ended c.phase))) got

-- the ids that are new stay so
pub left_new : (all : Connections) (own : Option ClientConnection) (q : ℕ) → is_new (left_by all own) q ≡ is_new all q
left_new all None q = refl
left_new all (Some own) q = gone_new all own.id q (fin.get all own.id) refl

-- the next one, where some are left
pub next_is : (all : Connections) (n : ℕ) → highest (fin.keys all) + n ≤ 18446744073709551615 → 1 ≤ n → next_id all ≡ Some (highest (fin.keys all) + 1)
next_is all n left some = ap (λ (b : Bool). cond b (Some (highest (fin.keys all) + 1)) None) (lt-ltb (highest (fin.keys all)) 18446744073709551615 (omega (arith, left, some)))

-- after a new one is opened on what the client left, it is the highest
pub highest_after : (all : Connections) (own : Option ClientConnection) (c : Connection) → highest (fin.keys (fin.insert (left_by all own) (highest (fin.keys all) + 1) c)) ≤ highest (fin.keys all) + 1
highest_after all own c =
    let id : ℕ = highest (fin.keys all) + 1 in
    let above : is_new all (id + 1) ≡ true = above_all (fin.keys all) (id + 1) (omega arith) in
    let new : is_new (fin.insert (left_by all own) id c) (id + 1) ≡ true =
    new_put (left_by all own) id (id + 1) c ∙ ap (λ (b : Bool). b && is_new (left_by all own) (id + 1)) (lt-ltb id (id + 1) (omega arith)) ∙ left_new all own (id + 1) ∙ above in
    let low : highest (fin.keys (fin.insert (left_by all own) id c)) < id + 1 = below_all (fin.keys (fin.insert (left_by all own) id c)) (id + 1) (omega arith) new in
    omega (arith, low)

-- ---- how many are open

put_count : (id : ℕ) (c : Connection) (es : Entries) → opens_in (put id c es) ≤ opens_in es + one_if (is_open c.phase)
put_count id c [] = let first : opens_in ((id, c) ∷ []) ≡ one_if (is_open c.phase) + opens_in [] = opens_first (id, c) [] in omega (arith, first)
put_count id c (e ∷ es) = go (nat_cmp id e.0) (put_count id c es)
  where
    go : (r : Ordering) → opens_in (put id c es) ≤ opens_in es + one_if (is_open c.phase) → opens_in (put_by id c e es r) ≤ opens_in (e ∷ es) + one_if (is_open c.phase)
    go Less rest = let first : opens_in ((id, c) ∷ e ∷ es) ≡ one_if (is_open c.phase) + opens_in (e ∷ es) = opens_first (id, c) (e ∷ es) in omega (arith, first)
    go Equal rest =
        let first : opens_in ((e.0, c) ∷ es) ≡ one_if (is_open c.phase) + opens_in es = opens_first (e.0, c) es in
        let old : opens_in (e ∷ es) ≡ one_if (is_open e.1.phase) + opens_in es = opens_first e es in
        omega (arith, first, old)
    go Greater rest =
        let first : opens_in (e ∷ put id c es) ≡ one_if (is_open e.1.phase) + opens_in (put id c es) = opens_first e (put id c es) in
        let old : opens_in (e ∷ es) ≡ one_if (is_open e.1.phase) + opens_in es = opens_first e es in
        omega (arith, first, old, rest)

pub insert_count : (all : Connections) (id : ℕ) (c : Connection) → open_count (fin.insert all id c) ≤ open_count all + one_if (is_open c.phase)
insert_count all id c = subst (λ (es : Entries). opens_in es ≤ open_count all + one_if (is_open c.phase)) (sym (fin.entries-insert nat_cmp_total all id c)) (put_count id c (fin.entries all))

-- one that isn't open adds none
pub closed_count : (all : Connections) (id : ℕ) (c : Connection) → is_open c.phase ≡ false → open_count (fin.insert all id c) ≤ open_count all
closed_count all id c closed =
    let most : open_count (fin.insert all id c) ≤ open_count all + one_if (is_open c.phase) = insert_count all id c in
    let none : one_if (is_open c.phase) ≡ 0 = ap one_if closed in
    omega (arith, most, none)

gone_count : (all : Connections) (id : ℕ) (o : Option Connection) → open_count (gone_by all id o) ≤ open_count all
gone_count all id None = omega arith
gone_count all id (Some c) = closed_count all id (with_phase c (gone (has_ended c.phase))) refl

pub left_count : (all : Connections) (own : Option ClientConnection) → open_count (left_by all own) ≤ open_count all
left_count all None = omega arith
left_count all (Some own) = gone_count all own.id (fin.get all own.id)

-- ---- one that opens

-- under a new id, where one more may be open, nothing came on it yet
pub opens_so : (s : State) (id : ℕ) → is_new s.connections id ≡ true → open_count s.connections < max_open → Steps s (opens id) (with_connection s id new_connection)
opens_so s id new room = (
  undecided,
  refl,
  sym (
      ap (λ (b : Bool). unless_refused (cond b None (Some id_not_above)) s (with_connection s id (opening s.connections))) new
      ∙ ap (λ (b : Bool). with_connection s id (cond b (with_written new_connection (refusal_reply (as_denied too_many_connections)) ended) new_connection)) (lt-leb max_open (open_count s.connections) room)),
)

-- ---- the others

gone_elsewhere : (all : Connections) (id q : ℕ) (o : Option Connection) → q ≢ id → fin.get (gone_by all id o) q ≡ fin.get all q
gone_elsewhere all id q None apart = refl
gone_elsewhere all id q (Some c) apart = put_elsewhere all id q (with_phase c (gone (has_ended c.phase))) apart

pub left_elsewhere : (all : Connections) (own : ClientConnection) (q : ℕ) → q ≢ own.id → fin.get (left_by all (Some own)) q ≡ fin.get all q
left_elsewhere all own q apart = gone_elsewhere all own.id q (fin.get all own.id) apart
