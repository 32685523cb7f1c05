-- The keys of one index that have objects.
use Rattle.std.proofs.Common.{◌≡◌, ◌↔◌, ℕ, suc, ◌<◌, Bool, true, false, cond, ◌&&◌, ◌||◌, eqb, List, [], ◌∷◌, length, get_or, Option, Some, Global, BTreeSet, nat_cmp, Less, is_eq, refl, sym, subst, ap, ◌∙◌, arith, true≢false, ne_eqb}
use Rattle.std.specs.BTreeMap.{is_at, get}
use Rattle.std.specs.BTreeSet.{contains}
use Rattle.std.specs.Bool.{IsTrue}
use Rattle.std.specs.Cmp.Lexicographic.{slice_cmp}
use Rattle.std.specs.List.{All, AllByRecursion, list_any}
use Rattle.std.specs.List.Sorted.{IsStrictlySortedBy}
use Rattle.std.specs.Map.{keys_of, lookup}
use Rattle.std.specs.Str.{bytes_eq}
use Rattle.std.specs.Rc.{rc_str_bytes}
use Rattle.std.specs.declared.rc.RcStr.{RcStr}
use Rattle.std.proofs.lemmas.Map.Text.{is_eq-slice_cmp}
use Rattle.std.proofs.lemmas.Slice.Eq.{bytes_eq-Decides}
use Rattle.indexer.specs.declared.object.ObjectKey.{ObjectKey}
use Rattle.indexer.specs.Keys.{key_cmp, is_same}
use Rattle.indexer.specs.Objects.{is_among}
use Rattle.indexer.specs.Postings.{Postings, listed_at, has_in, under}
use Rattle.indexer.proofs.Same.{then_equal, equal_texts}
use Rattle.indexer.proofs.ByText.{text_cmp}
use Rattle.indexer.proofs.Under.{nothing_in}

abbrev pub Row : Type 0
Row = RcStr Global × BTreeSet ObjectKey

abbrev pub shown : List Row → List (List ℕ)
shown [] = []
shown (e ∷ es) = cond (eqb (length e.1.keys) 0) (shown es) (rc_str_bytes e.0 ∷ shown es)

pub empty_is : (r : Bool) (n : ℕ) → IsTrue r ↔ (n ≡ 0) → r ≡ eqb n 0
empty_is true n h = sym (ap (λ m. eqb m 0) (h.0 refl))
empty_is false n h = sym (ne_eqb n 0 (λ e. true≢false (sym (h.1 e))))

same_itself : (q : ObjectKey) → is_same q q ≡ true
same_itself q =
    then_equal (slice_cmp nat_cmp (rc_str_bytes q.namespace) (rc_str_bytes q.namespace)) (slice_cmp nat_cmp (rc_str_bytes q.name) (rc_str_bytes q.name))
    ∙ ap (λ b. b && is_eq (slice_cmp nat_cmp (rc_str_bytes q.name) (rc_str_bytes q.name))) (equal_texts (rc_str_bytes q.namespace) (rc_str_bytes q.namespace) refl)
    ∙ equal_texts (rc_str_bytes q.name) (rc_str_bytes q.name) refl

-- a set with keys has one
pub some_key : (keys : BTreeSet ObjectKey) → eqb (length keys.keys) 0 ≡ false → (q : ObjectKey) × (contains key_cmp keys q ≡ true)
some_key keys h = go keys.keys h
  where
    go : (ks : List ObjectKey) → eqb (length ks) 0 ≡ false → (q : ObjectKey) × (list_any (is_at (key_cmp q)) ks ≡ true)
    go [] e = absurd (true≢false e)
    go (k ∷ ks) e = (k, ap (λ b. b || list_any (is_at (key_cmp k)) ks) (same_itself k))

-- one that has a key isn't empty
pub has_some : (keys : BTreeSet ObjectKey) (q : ObjectKey) → contains key_cmp keys q ≡ true → eqb (length keys.keys) 0 ≡ false
has_some keys q h = ne_eqb _ _ (λ e. true≢false (sym h ∙ nothing_in (is_at (key_cmp q)) keys.keys e))

-- a key that is shown stands in a row with objects
pub row_of : (rows : List Row) (k : List ℕ) → is_among (shown rows) k ≡ true → (i : ℕ) × (i < length rows) × ((d : Row) → (rc_str_bytes (get_or rows i d).0 ≡ k) × (eqb (length (get_or rows i d).1.keys) 0 ≡ false))
row_of [] k h = absurd (true≢false (sym h))
row_of (e ∷ es) k h = go (eqb (length e.1.keys) 0) refl h (row_of es k)
  where
    later : (i : ℕ) × (i < length es) × ((d : Row) → (rc_str_bytes (get_or es i d).0 ≡ k) × (eqb (length (get_or es i d).1.keys) 0 ≡ false))
        → (i : ℕ) × (i < length (e ∷ es)) × ((d : Row) → (rc_str_bytes (get_or (e ∷ es) i d).0 ≡ k) × (eqb (length (get_or (e ∷ es) i d).1.keys) 0 ≡ false))
    later p = (suc p.0, omega (arith, p.1), p.2)

    here : (b : Bool) → bytes_eq (rc_str_bytes e.0) k ≡ b → eqb (length e.1.keys) 0 ≡ false → (b || is_among (shown es) k) ≡ true
        → (is_among (shown es) k ≡ true → (i : ℕ) × (i < length es) × ((d : Row) → (rc_str_bytes (get_or es i d).0 ≡ k) × (eqb (length (get_or es i d).1.keys) 0 ≡ false)))
        → (i : ℕ) × (i < length (e ∷ es)) × ((d : Row) → (rc_str_bytes (get_or (e ∷ es) i d).0 ≡ k) × (eqb (length (get_or (e ∷ es) i d).1.keys) 0 ≡ false))
    here true is full h rest = (0, omega arith, λ d. ((bytes_eq-Decides (rc_str_bytes e.0) k).0 is, full))
    here false is full h rest = later (rest h)

    go : (t : Bool) → eqb (length e.1.keys) 0 ≡ t → is_among (cond t (shown es) (rc_str_bytes e.0 ∷ shown es)) k ≡ true
        → (is_among (shown es) k ≡ true → (i : ℕ) × (i < length es) × ((d : Row) → (rc_str_bytes (get_or es i d).0 ≡ k) × (eqb (length (get_or es i d).1.keys) 0 ≡ false)))
        → (i : ℕ) × (i < length (e ∷ es)) × ((d : Row) → (rc_str_bytes (get_or (e ∷ es) i d).0 ≡ k) × (eqb (length (get_or (e ∷ es) i d).1.keys) 0 ≡ false))
    go true is h rest = later (rest h)
    go false is h rest = here (bytes_eq (rc_str_bytes e.0) k) refl is h rest

-- a key with objects is shown
pub is_shown : (rows : List Row) (k : List ℕ) (q : ObjectKey) → has_in (lookup (is_at (λ t. slice_cmp nat_cmp k (rc_str_bytes t))) rows) q ≡ true → is_among (shown rows) k ≡ true
is_shown [] k q h = absurd (true≢false (sym h))
is_shown (e ∷ es) k q h = go (is_eq (slice_cmp nat_cmp k (rc_str_bytes e.0))) refl h (is_shown es k q)
  where
    grows : (t b : Bool) → is_among (shown es) k ≡ true → is_among (cond t (shown es) (rc_str_bytes e.0 ∷ shown es)) k ≡ true
    grows true b h = h
    grows false b h = ap (λ r. bytes_eq (rc_str_bytes e.0) k || r) h ∙ any (bytes_eq (rc_str_bytes e.0) k)
      where
        any : (x : Bool) → (x || true) ≡ true
        any true = refl
        any false = refl

    go : (t : Bool) → is_eq (slice_cmp nat_cmp k (rc_str_bytes e.0)) ≡ t → has_in (cond t (Some e.1) (lookup (is_at (λ t. slice_cmp nat_cmp k (rc_str_bytes t))) es)) q ≡ true
        → (has_in (lookup (is_at (λ t. slice_cmp nat_cmp k (rc_str_bytes t))) es) q ≡ true → is_among (shown es) k ≡ true) → is_among (shown (e ∷ es)) k ≡ true
    go true is h rest =
        let same : k ≡ rc_str_bytes e.0 = (bytes_eq-Decides k (rc_str_bytes e.0)).0 (sym (is_eq-slice_cmp k (rc_str_bytes e.0)) ∙ is) in
        ap (λ t. is_among (cond t (shown es) (rc_str_bytes e.0 ∷ shown es)) k) (has_some e.1 q h)
        ∙ ap (λ b. b || is_among (shown es) k) ((bytes_eq-Decides (rc_str_bytes e.0) k).1 (sym same))
    go false is h rest = grows (eqb (length e.1.keys) 0) true (rest h)

-- both ways
pub shown_just : (postings : Postings) → All (λ e. get text_cmp postings e.0 ≡ Some e.1) postings.entries → (k : List ℕ) → (is_among (shown postings.entries) k ≡ true) ↔ ((q : ObjectKey) × (under postings k q ≡ true))
shown_just postings found k = (λ h. stands postings found k h, λ h. is_shown postings.entries k h.0 h.1)
  where
    first_row : (rows : List Row) (i : ℕ) → i < length rows → Row
    first_row [] i lt = absurd (omega arith)
    first_row (e ∷ es) i lt = e

    stands : (postings : Postings) → All (λ e. get text_cmp postings e.0 ≡ Some e.1) postings.entries → (k : List ℕ) → is_among (shown postings.entries) k ≡ true → (q : ObjectKey) × (under postings k q ≡ true)
    stands postings found k h =
        let p = row_of postings.entries k h in
        let d = first_row postings.entries p.0 p.1 in
        let e = get_or postings.entries p.0 d in
        let one = some_key e.1 (p.2 d).1 in
        let at : listed_at postings k ≡ Some e.1 = ap (λ (t : List ℕ). listed_at postings t) (sym (p.2 d).0) ∙ found p.0 d p.1 in
        (one.0, ap (λ (o : Option (BTreeSet ObjectKey)). has_in o one.0) at ∙ one.1)

-- the same said by another test
pub iff_along : (shows : Type 0) (p r : ObjectKey → Bool) → ((q : ObjectKey) → p q ≡ r q) → shows ↔ ((q : ObjectKey) × (p q ≡ true)) → shows ↔ ((q : ObjectKey) × (r q ≡ true))
iff_along shows p r same h = (λ s. ((h.0 s).0, sym (same (h.0 s).0) ∙ (h.0 s).1), λ t. h.1 (t.0, same t.0 ∙ t.1))

-- ---- in order

-- a text below all keys is below those that are shown
below_shown : (k : List ℕ) (rows : List Row) → AllByRecursion (λ t. slice_cmp nat_cmp k (rc_str_bytes t) ≡ Less) (keys_of rows) → AllByRecursion (λ t. slice_cmp nat_cmp k t ≡ Less) (shown rows)
below_shown k [] h = tt
below_shown k (e ∷ es) h = go (eqb (length e.1.keys) 0) (below_shown k es h.1)
  where
    go : (t : Bool) → AllByRecursion (λ t. slice_cmp nat_cmp k t ≡ Less) (shown es) → AllByRecursion (λ t. slice_cmp nat_cmp k t ≡ Less) (cond t (shown es) (rc_str_bytes e.0 ∷ shown es))
    go true rest = rest
    go false rest = (h.0, rest)

pub shown_ascends : (rows : List Row) → IsStrictlySortedBy text_cmp (keys_of rows) → IsStrictlySortedBy (slice_cmp nat_cmp) (shown rows)
unfolding IsStrictlySortedBy
shown_ascends [] h = tt
shown_ascends (e ∷ es) h = go (eqb (length e.1.keys) 0) (below_shown (rc_str_bytes e.0) es h.0) (shown_ascends es h.1)
  where
    go : (t : Bool) → AllByRecursion (λ t. slice_cmp nat_cmp (rc_str_bytes e.0) t ≡ Less) (shown es) → IsStrictlySortedBy (slice_cmp nat_cmp) (shown es)
        → IsStrictlySortedBy (slice_cmp nat_cmp) (cond t (shown es) (rc_str_bytes e.0 ∷ shown es))
    go true low rest = rest
    go false low rest = (low, rest)

pub nothing_ascends : (texts : List (List ℕ)) → texts ≡ [] → IsStrictlySortedBy (slice_cmp nat_cmp) texts
unfolding IsStrictlySortedBy
nothing_ascends texts is = subst (IsStrictlySortedBy (slice_cmp nat_cmp)) (sym is) tt
