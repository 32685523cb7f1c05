-- Connections by their ids.
use Rattle.std.proofs.Common.{◌≡◌, ℕ, Bool, true, false, cond, T, List, [], ◌∷◌, ◌+◌, ◌<◌, arith, length, map, Option, Some, None, refl, sym, ap, subst, ◌∙◌, ◌&&◌}
use Rattle.std.specs.Prelude.{option_map, nat_lt}
use Rattle.std.proofs.lemmas.Bool.{ltb-true}
use Rattle.std.specs.List.{filter, list_all}
use Rattle.std.specs.Cmp.{nat_cmp_total, tied_itself}
use Rattle.std.specs.Ordering.{nat_cmp, is_lt, eq_by_cmp, is_eq}
use Rattle.std.specs.FinMap as fin
use Rattle.std.specs.FinMap.Entries as entries
use Rattle.std.specs.declared.cmp.Ordering.{Ordering}
use Rattle.std.specs.declared.cmp.Ordering.TheVariants.{Less, Equal, Greater}
use Rattle.httpedge.specs.Connections.{Connection, Connections, each, is_new, is_open}

pub itself : (id : ℕ) → eq_by_cmp nat_cmp id id ≡ true
itself id = ap is_eq (tied_itself nat_cmp_total id)

pub put_there : (all : Connections) (id : ℕ) (c : Connection) → fin.get (fin.insert all id c) id ≡ Some c
put_there all id c = fin.get-insert nat_cmp_total all id c id ∙ ap (λ (b : Bool). cond b (Some c) (fin.get all id)) (itself id)

pub hidden : {A : Type 0} (b : Bool) (x y z : A) → cond b x (cond b y z) ≡ cond b x z
hidden true x y z = refl
hidden false x y z = refl

pub put_again : (all : Connections) (id : ℕ) (c d : Connection) → fin.insert (fin.insert all id c) id d ≡ fin.insert all id d
put_again all id c d = fin.same_map nat_cmp_total fin.nat_cmp-IsAntisymmetric _ _ (λ q.
    fin.get-insert nat_cmp_total (fin.insert all id c) id d q
    ∙ ap (cond (eq_by_cmp nat_cmp q id) (Some d)) (fin.get-insert nat_cmp_total all id c q)
    ∙ hidden (eq_by_cmp nat_cmp q id) (Some d) (Some c) (fin.get all q)
    ∙ sym (fin.get-insert nat_cmp_total all id d q))

-- ---- each connection

abbrev pub Entries : Type 0
Entries = List (ℕ × Connection)

abbrev pub changed : (ℕ → Connection → Connection) → Entries → Entries
changed f es = map (λ e. (e.0, f e.0 e.1)) es

below_same : (f : ℕ → Connection → Connection) (id : ℕ) (es : Entries) → entries.below_all nat_cmp id (changed f es) ≡ entries.below_all nat_cmp id es
below_same f id [] = refl
below_same f id (e ∷ es) = ap (λ (b : Bool). is_lt (nat_cmp id e.0) && b) (below_same f id es)

pub sorted_same : (f : ℕ → Connection → Connection) (es : Entries) → entries.is_sorted nat_cmp (changed f es) ≡ entries.is_sorted nat_cmp es
sorted_same f [] = refl
sorted_same f (e ∷ es) =
    ap (λ (b : Bool). b && entries.is_sorted nat_cmp (changed f es)) (below_same f e.0 es) ∙ ap (λ (b : Bool). entries.below_all nat_cmp e.0 es && b) (sorted_same f es)

by_key : (f : ℕ → Connection → Connection) (id k : ℕ) (b : Bool) (c : Connection) (o p : Option Connection) → (b ≡ true → id ≡ k) → p ≡ option_map (f id) o
    → cond b (Some (f k c)) p ≡ option_map (f id) (cond b (Some c) o)
by_key f id k true c o p same rest = ap (λ (j : ℕ). Some (f j c)) (sym (same refl))
by_key f id k false c o p same rest = rest

is_tied : (r : Ordering) → is_eq r ≡ true → r ≡ Equal
is_tied Less e = absurd cc
is_tied Equal e = refl
is_tied Greater e = absurd cc

pub tied_same : (id k : ℕ) → eq_by_cmp nat_cmp id k ≡ true → id ≡ k
tied_same id k e = fin.nat_cmp-IsAntisymmetric id k (is_tied (nat_cmp id k) e)

found : (f : ℕ → Connection → Connection) (id : ℕ) (es : Entries) → entries.find nat_cmp id (changed f es) ≡ option_map (f id) (entries.find nat_cmp id es)
found f id [] = refl
found f id (e ∷ es) = by_key f id e.0 (eq_by_cmp nat_cmp id e.0) e.1 (entries.find nat_cmp id es) (entries.find nat_cmp id (changed f es)) (tied_same id e.0) (found f id es)

pub got_each : (f : ℕ → Connection → Connection) (all : Connections) (id : ℕ) → fin.get (each f all) id ≡ option_map (f id) (fin.get all id)
got_each f all id =
    fin.get-from_sorted nat_cmp (changed f (fin.entries all)) id (subst T (sym (sorted_same f (fin.entries all))) (fin.entries_sorted all))
    ∙ found f id (fin.entries all) ∙ ap (option_map (f id)) (sym (fin.get-entries all id))

-- ---- ids that are new, and connections that are open

abbrev pub put : ℕ → Connection → Entries → Entries
put = entries.put nat_cmp

abbrev pub ids : Entries → List ℕ
ids es = map (λ e. e.0) es

and_parts : (a b : Bool) → a && b ≡ true → (a ≡ true) × (b ≡ true)
and_parts true b h = (refl, h)
and_parts false b h = absurd cc

twice : (a b : Bool) → a && (a && b) ≡ a && b
twice true b = refl
twice false b = refl

swap : (a b c : Bool) → a && (b && c) ≡ b && (a && c)
swap true true c = refl
swap true false c = refl
swap false true c = refl
swap false false c = refl

-- by how a key stands to the first of the entries
abbrev pub put_by : ℕ → Connection → (ℕ × Connection) → Entries → Ordering → Entries
put_by id c e es r = entries.by_order r ((id, c) ∷ e ∷ es) ((e.0, c) ∷ es) (e ∷ put id c es)

all_by : (p : ℕ → Bool) (id : ℕ) (c : Connection) (e : ℕ × Connection) (es : Entries) (r : Ordering) → (r ≡ Equal → id ≡ e.0)
    → list_all p (ids (put id c es)) ≡ p id && list_all p (ids es) → list_all p (ids (put_by id c e es r)) ≡ p id && (p e.0 && list_all p (ids es))
all_by p id c e es Less same rest = refl
all_by p id c e es Equal same rest = sym (ap (λ (k : ℕ). p k && (p e.0 && list_all p (ids es))) (same refl) ∙ twice (p e.0) (list_all p (ids es)))
all_by p id c e es Greater same rest = ap (λ (b : Bool). p e.0 && b) rest ∙ swap (p e.0) (p id) (list_all p (ids es))

pub all_put : (p : ℕ → Bool) (id : ℕ) (c : Connection) (es : Entries) → list_all p (ids (put id c es)) ≡ p id && list_all p (ids es)
all_put p id c [] = refl
all_put p id c (e ∷ es) = all_by p id c e es (nat_cmp id e.0) (fin.nat_cmp-IsAntisymmetric id e.0) (all_put p id c es)

-- an id above which a new one has to be, beside those that were known
pub new_put : (all : Connections) (id q : ℕ) (c : Connection) → is_new (fin.insert all id c) q ≡ nat_lt id q && is_new all q
new_put all id q c = ap (λ (es : Entries). list_all (λ known. nat_lt known q) (ids es)) (fin.entries-insert nat_cmp_total all id c) ∙ all_put (λ known. nat_lt known q) id c (fin.entries all)

known_below : (es : Entries) (id q : ℕ) (c : Connection) → entries.find nat_cmp id es ≡ Some c → list_all (λ known. nat_lt known q) (ids es) ≡ true → nat_lt id q ≡ true
known_below [] id q c found all = absurd cc
known_below (e ∷ es) id q c found all = known_by e es id q c (eq_by_cmp nat_cmp id e.0) (tied_same id e.0) found (and_parts (nat_lt e.0 q) (list_all (λ known. nat_lt known q) (ids es)) all) (known_below es id q c)
  where
    known_by : (e : ℕ × Connection) (es : Entries) (id q : ℕ) (c : Connection) (b : Bool) → (b ≡ true → id ≡ e.0) → cond b (Some e.1) (entries.find nat_cmp id es) ≡ Some c
        → (nat_lt e.0 q ≡ true) × (list_all (λ known. nat_lt known q) (ids es) ≡ true)
        → (entries.find nat_cmp id es ≡ Some c → list_all (λ known. nat_lt known q) (ids es) ≡ true → nat_lt id q ≡ true) → nat_lt id q ≡ true
    known_by e es id q c true same found all rest = ap (λ (k : ℕ). nat_lt k q) (same refl) ∙ all.0
    known_by e es id q c false same found all rest = rest found all.1

-- a new id is above each that is known
above_known : (all : Connections) (id q : ℕ) (c : Connection) → fin.get all id ≡ Some c → is_new all q ≡ true → nat_lt id q ≡ true
above_known all id q c known new = known_below (fin.entries all) id q c (sym (fin.get-entries all id) ∙ known) new

not_below : (id : ℕ) → nat_lt id id ≡ true → ⊥
not_below id e = let low : id < id = ltb-true id id e in omega (arith, low)

pub unknown : (all : Connections) (id : ℕ) (o : Option Connection) → fin.get all id ≡ o → is_new all id ≡ true → o ≡ None
unknown all id None got new = refl
unknown all id (Some c) got new = absurd (not_below id (above_known all id id c got new))

same_truth : (a b : Bool) → (b ≡ true → a ≡ true) → a && b ≡ b
same_truth true b h = refl
same_truth false true h = h refl
same_truth false false h = refl

-- what becomes of a known connection makes no id known
pub new_still : (all : Connections) (id q : ℕ) (old c : Connection) → fin.get all id ≡ Some old → is_new (fin.insert all id c) q ≡ is_new all q
new_still all id q old c known = new_put all id q c ∙ same_truth (nat_lt id q) (is_new all q) (above_known all id q old known)

-- ---- how many are open

abbrev pub one_if : Bool → ℕ
one_if true = 1
one_if false = 0

abbrev pub opens_of : Option Connection → ℕ
opens_of None = 0
opens_of (Some c) = one_if (is_open c.phase)

abbrev pub opens_in : Entries → ℕ
opens_in es = length (filter (λ c. is_open c.phase) (map (λ e. e.1) es))

counted : (c : Connection) (cs : List Connection) (b : Bool) → length (cond b (c ∷ cs) cs) ≡ one_if b + length cs
counted c cs true = omega arith
counted c cs false = omega arith

pub opens_first : (e : ℕ × Connection) (es : Entries) → opens_in (e ∷ es) ≡ one_if (is_open e.1.phase) + opens_in es
opens_first e es = counted e.1 (filter (λ c. is_open c.phase) (map (λ e. e.1) es)) (is_open e.1.phase)

pub none_below : (id : ℕ) (es : Entries) → entries.below_all nat_cmp id es ≡ true → entries.find nat_cmp id es ≡ None
none_below id [] below = refl
none_below id (e ∷ es) below = go (nat_cmp id e.0) (and_parts (is_lt (nat_cmp id e.0)) (entries.below_all nat_cmp id es) below) (none_below id es)
  where
    go : (r : Ordering) → (is_lt r ≡ true) × (entries.below_all nat_cmp id es ≡ true) → (entries.below_all nat_cmp id es ≡ true → entries.find nat_cmp id es ≡ None)
        → cond (is_eq r) (Some e.1) (entries.find nat_cmp id es) ≡ None
    go Less lt rest = rest lt.1
    go Equal lt rest = absurd cc
    go Greater lt rest = rest lt.1
