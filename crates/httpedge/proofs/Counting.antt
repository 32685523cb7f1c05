-- How many connections are open, by the ids of these.
use Rattle.std.proofs.Common.{arith, ◌≡◌, ℕ, ◌+◌, Bool, true, false, ◌&&◌, ◌||◌, cond, T, List, [], ◌∷◌, length, map, Option, Some, None, refl, sym, ap, subst, ◌∙◌}
use Rattle.std.specs.Prelude.{option_map, unwrap_or, ⊤}
use Rattle.std.specs.BTreeMap.{is_at}
use Rattle.std.specs.BTreeSet.{BTreeSet, contains}
use Rattle.std.specs.Cmp.{nat_cmp_total}
use Rattle.std.specs.FinMap as fin
use Rattle.std.specs.FinMap.Entries as entries
use Rattle.std.specs.List.{AllByRecursion, list_any}
use Rattle.std.specs.List.Sorted.{IsStrictlySortedBy}
use Rattle.std.specs.Ordering.{nat_cmp, eq_by_cmp, is_lt}
use Rattle.std.specs.declared.cmp.Ordering.TheVariants.{Less}
use Rattle.httpedge.specs.Connections.{Connection, Connections, is_open, open_count, open_on}
use Rattle.httpedge.proofs.Connected.{Entries, none_below, one_if, opens_first, opens_in, tied_same}

wrong : false ≡ true → ⊥
wrong e = cc

both : (a b : Bool) → a ≡ true → b ≡ true → a && b ≡ true
both true b x y = y
both false b x y = absurd cc

and_parts : (a b : Bool) → a && b ≡ true → (a ≡ true) × (b ≡ true)
and_parts true b h = (refl, h)
and_parts false b h = absurd cc

pub sorted_parts : (id : ℕ) (left : List ℕ) → IsStrictlySortedBy nat_cmp (id ∷ left) → AllByRecursion (λ y. nat_cmp id y ≡ Less) left × IsStrictlySortedBy nat_cmp left
unfolding IsStrictlySortedBy
sorted_parts id left sorted = sorted

-- ids as the keys of entries
abbrev Marks : Type 0
Marks = List (ℕ × ⊤)

abbrev marks : List ℕ → Marks
marks ks = map (λ k. (k, tt)) ks

abbrev mark_if : Bool → Option ⊤
mark_if b = cond b (Some tt) None

abbrev open_in : Option Connection → Bool
open_in o = unwrap_or (option_map (λ c. is_open c.phase) o) false

abbrev open_ids : Entries → List ℕ
open_ids [] = []
open_ids (e ∷ es) = cond (is_open e.1.phase) (e.0 ∷ open_ids es) (open_ids es)

marked : (q : ℕ) (ks : List ℕ) → entries.find nat_cmp q (marks ks) ≡ mark_if (list_any (is_at (nat_cmp q)) ks)
marked q [] = refl
marked q (k ∷ ks) = go (eq_by_cmp nat_cmp q k) (marked q ks)
  where
    go : (b : Bool) → entries.find nat_cmp q (marks ks) ≡ mark_if (list_any (is_at (nat_cmp q)) ks) → cond b (Some tt) (entries.find nat_cmp q (marks ks)) ≡ mark_if (b || list_any (is_at (nat_cmp q)) ks)
    go true rest = refl
    go false rest = rest

-- a first entry whose id is below all others
marked_first : (q : ℕ) (e : ℕ × Connection) (es : Entries) → entries.below_all nat_cmp e.0 es ≡ true → entries.find nat_cmp q (marks (open_ids es)) ≡ mark_if (open_in (entries.find nat_cmp q es))
    → entries.find nat_cmp q (marks (open_ids (e ∷ es))) ≡ mark_if (open_in (entries.find nat_cmp q (e ∷ es)))
marked_first q e es below rest = first (is_open e.1.phase) ∙ go (is_open e.1.phase) (eq_by_cmp nat_cmp q e.0) refl (tied_same q e.0)
  where
    later : q ≡ e.0 → entries.find nat_cmp q es ≡ None
    later same = none_below q es (subst (λ (k : ℕ). entries.below_all nat_cmp k es ≡ true) (sym same) below)

    first : (o : Bool) → entries.find nat_cmp q (marks (cond o (e.0 ∷ open_ids es) (open_ids es)))
        ≡ cond o (cond (eq_by_cmp nat_cmp q e.0) (Some tt) (entries.find nat_cmp q (marks (open_ids es)))) (entries.find nat_cmp q (marks (open_ids es)))
    first true = refl
    first false = refl

    go : (o b : Bool) → is_open e.1.phase ≡ o → (b ≡ true → q ≡ e.0)
        → cond o (cond b (Some tt) (entries.find nat_cmp q (marks (open_ids es)))) (entries.find nat_cmp q (marks (open_ids es)))
        ≡ mark_if (open_in (cond b (Some e.1) (entries.find nat_cmp q es)))
    go true true is same = sym (ap mark_if is)
    go true false is same = rest
    go false true is same = rest ∙ ap (λ (o : Option Connection). mark_if (open_in o)) (later (same refl)) ∙ sym (ap mark_if is)
    go false false is same = rest

marked_open : (q : ℕ) (es : Entries) → entries.is_sorted nat_cmp es ≡ true → entries.find nat_cmp q (marks (open_ids es)) ≡ mark_if (open_in (entries.find nat_cmp q es))
marked_open q [] sorted = refl
marked_open q (e ∷ es) sorted =
    let parts = and_parts (entries.below_all nat_cmp e.0 es) (entries.is_sorted nat_cmp es) sorted in
    marked_first q e es parts.0 (marked_open q es parts.1)

below_open : (k : ℕ) (es : Entries) → entries.below_all nat_cmp k es ≡ true → entries.below_all nat_cmp k (marks (open_ids es)) ≡ true
below_open k [] below = refl
below_open k (e ∷ es) below =
    let parts = and_parts (is_lt (nat_cmp k e.0)) (entries.below_all nat_cmp k es) below in
    go (is_open e.1.phase) parts.0 (below_open k es parts.1)
  where
    go : (o : Bool) → is_lt (nat_cmp k e.0) ≡ true → entries.below_all nat_cmp k (marks (open_ids es)) ≡ true
        → entries.below_all nat_cmp k (marks (cond o (e.0 ∷ open_ids es) (open_ids es))) ≡ true
    go true first rest = both (is_lt (nat_cmp k e.0)) (entries.below_all nat_cmp k (marks (open_ids es))) first rest
    go false first rest = rest

sorted_open : (es : Entries) → entries.is_sorted nat_cmp es ≡ true → entries.is_sorted nat_cmp (marks (open_ids es)) ≡ true
sorted_open [] sorted = refl
sorted_open (e ∷ es) sorted =
    let parts = and_parts (entries.below_all nat_cmp e.0 es) (entries.is_sorted nat_cmp es) sorted in
    go (is_open e.1.phase) (below_open e.0 es parts.0) (sorted_open es parts.1)
  where
    go : (o : Bool) → entries.below_all nat_cmp e.0 (marks (open_ids es)) ≡ true → entries.is_sorted nat_cmp (marks (open_ids es)) ≡ true
        → entries.is_sorted nat_cmp (marks (cond o (e.0 ∷ open_ids es) (open_ids es))) ≡ true
    go true first rest = both (entries.below_all nat_cmp e.0 (marks (open_ids es))) (entries.is_sorted nat_cmp (marks (open_ids es))) first rest
    go false first rest = rest

below_marks : (k : ℕ) (ks : List ℕ) → AllByRecursion (λ y. nat_cmp k y ≡ Less) ks → entries.below_all nat_cmp k (marks ks) ≡ true
below_marks k [] all = refl
below_marks k (x ∷ xs) (first, rest) = both (is_lt (nat_cmp k x)) (entries.below_all nat_cmp k (marks xs)) (ap is_lt first) (below_marks k xs rest)

sorted_marks : (ks : List ℕ) → IsStrictlySortedBy nat_cmp ks → entries.is_sorted nat_cmp (marks ks) ≡ true
sorted_marks [] sorted = refl
sorted_marks (k ∷ ks) sorted =
    let parts = sorted_parts k ks sorted in
    both (entries.below_all nat_cmp k (marks ks)) (entries.is_sorted nat_cmp (marks ks)) (below_marks k ks parts.0) (sorted_marks ks parts.1)

length_marks : (ks : List ℕ) → length (marks ks) ≡ length ks
length_marks [] = refl
length_marks (k ∷ ks) = let rest : length (marks ks) ≡ length ks = length_marks ks in omega (arith, rest)

length_open : (es : Entries) → length (open_ids es) ≡ opens_in es
length_open [] = refl
length_open (e ∷ es) = go (is_open e.1.phase) (length_open es) ∙ sym (opens_first e es)
  where
    go : (o : Bool) → length (open_ids es) ≡ opens_in es → length (cond o (e.0 ∷ open_ids es) (open_ids es)) ≡ one_if o + opens_in es
    go true rest = omega (arith, rest)
    go false rest = omega (arith, rest)

truly : (b : Bool) → T b → b ≡ true
truly true t = refl
truly false t = absurd t

-- ids in their order that are those of the open connections are as many
pub counted : (known : BTreeSet ℕ) (all : Connections) → IsStrictlySortedBy nat_cmp known.keys → ((q : ℕ) → contains nat_cmp known q ≡ open_on all q) → length known.keys ≡ open_count all
counted known all sorted listed =
    let es = fin.entries all in
    let in_order : entries.is_sorted nat_cmp es ≡ true = truly _ (fin.entries_sorted all) in
    let same : marks known.keys ≡ marks (open_ids es) =
    entries.same_entries nat_cmp nat_cmp_total fin.nat_cmp-IsAntisymmetric (marks known.keys) (marks (open_ids es))
    (subst T (sym (sorted_marks known.keys sorted)) tt) (subst T (sym (sorted_open es in_order)) tt)
    (λ q. marked q known.keys ∙ ap mark_if (listed q ∙ ap open_in (fin.get-entries all q)) ∙ sym (marked_open q es in_order)) in
    sym (length_marks known.keys) ∙ ap length same ∙ length_marks (open_ids es) ∙ length_open es
