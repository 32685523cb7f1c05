-- Copies of indexes.
use Rattle.std.proofs.Common.{arith, ◌≡◌, ◌∙◌, ◌↔◌, ◌<◌, ◌+◌, ◌&&◌, ℕ, Bool, true, false, List, [], ◌∷◌, ◌++◌, length, map, take, refl, sym, ap, ap₂, subst, string_bytes, String, Global, Bor}
use Rattle.std.specs.Prelude.{◌||◌, Vec}
use Rattle.std.specs.BTreeSet.{BTreeSet, contains}
use Rattle.std.specs.List.{All, AllByRecursion, list_any, slice_index_or}
use Rattle.std.specs.List.Sorted.{IsStrictlySortedBy}
use Rattle.std.specs.Ordering.{eq_by_cmp}
use Rattle.std.specs.Str.{bytes_eq}
use Rattle.std.specs.declared.cmp.Ordering.TheVariants.{Less}
use Rattle.std.proofs.lemmas.List.{map-append, map_more}
use Rattle.std.proofs.lemmas.List.Elements.{All-append, All-cons, All-nil}
use Rattle.std.proofs.lemmas.List.Folds.{list_any-append}
use Rattle.std.proofs.lemmas.Slice.Eq.{bytes_eq-Decides}
use Rattle.indexer.specs.Keys.{key_cmp}
use Rattle.indexer.specs.Indexer.{is_under}
use Rattle.indexer.specs.Kept.{IndexedObjects}
use Rattle.indexer.specs.Objects.{Place, is_among, place_cmp, place_of}
use Rattle.indexer.specs.declared.object.ObjectKey.{ObjectKey}
use Rattle.world.specs.Shots.{IsCopied, IsPosting, ShowsIndex, is_listed, key_seen}
use Rattle.world.specs.declared.trace.IndexShot.{IndexShot}

-- ---- keys of objects

pub moved_on : (done now : List ObjectKey) (copy key : ObjectKey) (left rest all : List ObjectKey) → now ≡ done ++ copy ∷ [] → place_of copy ≡ place_of key → left ≡ key ∷ rest
    → map place_of done ++ map place_of left ≡ map place_of all → map place_of now ++ map place_of rest ≡ map place_of all
moved_on done now copy key left rest all pushed same steps before =
    ap (λ xs. map place_of xs ++ map place_of rest) pushed
    ∙ ap (λ xs. xs ++ map place_of rest) (map-append place_of done (copy ∷ []))
    ∙ ap (λ (p : Place). (map place_of done ++ p ∷ []) ++ map place_of rest) same
    ∙ joined (map place_of done) (place_of key) (map place_of rest)
    ∙ ap (λ xs. map place_of done ++ map place_of xs) (sym steps) ∙ before
  where
    joined : (xs : List Place) (p : Place) (ys : List Place) → (xs ++ p ∷ []) ++ ys ≡ xs ++ p ∷ ys
    joined [] p ys = refl
    joined (x ∷ xs) p ys = ap (λ zs. x ∷ zs) (joined xs p ys)

-- a key is in a set where its place is one of theirs
pub among : (q : ObjectKey) (keys : List ObjectKey) (s : BTreeSet ObjectKey) → keys ≡ s.keys → list_any (eq_by_cmp place_cmp (place_of q)) (map place_of keys) ≡ contains key_cmp s q
among q keys s is = go keys ∙ ap (list_any (λ k. eq_by_cmp key_cmp q k)) is
  where
    go : (ks : List ObjectKey) → list_any (eq_by_cmp place_cmp (place_of q)) (map place_of ks) ≡ list_any (λ k. eq_by_cmp key_cmp q k) ks
    go [] = refl
    go (k ∷ ks) = ap (λ b. eq_by_cmp key_cmp q k || b) (go ks)

-- places ascend as their keys
below_place : (k : ObjectKey) (ks : List ObjectKey) → AllByRecursion (λ y. key_cmp k y ≡ Less) ks → AllByRecursion (λ p. place_cmp (place_of k) p ≡ Less) (map place_of ks)
below_place k [] h = tt
below_place k (x ∷ xs) h = (h.0, below_place k xs h.1)

pub places_ascend : (ks : List ObjectKey) → IsStrictlySortedBy key_cmp ks → IsStrictlySortedBy place_cmp (map place_of ks)
unfolding IsStrictlySortedBy
places_ascend [] h = tt
places_ascend (k ∷ ks) h = (below_place k ks h.0, places_ascend ks h.1)

pub none_ascend : (ks : List ObjectKey) → ks ≡ [] → IsStrictlySortedBy place_cmp (map place_of ks)
unfolding IsStrictlySortedBy
none_ascend ks is = subst (λ xs. IsStrictlySortedBy place_cmp (map place_of xs)) (sym is) tt

-- ---- keys of an index

distributed : (a b c d : Bool) → (b ≡ true → c ≡ d) → ((a && d) || (b && c)) ≡ ((a || b) && d)
distributed true true c true same = refl
distributed true true c false same = same refl
distributed true false c true same = refl
distributed true false c false same = refl
distributed false true c d same = same refl
distributed false false c d same = refl

equal : (a b : List ℕ) → bytes_eq a b ≡ true → a ≡ b
equal a b is = (bytes_eq-Decides a b).0 is

none_or : (b : Bool) → (b || false) ≡ b
none_or true = refl
none_or false = refl

-- U: whether the place stands under a key
pub listed_more : (U : List ℕ → Bool) (key text : List ℕ) (p : Place) (done now : List (String Global × Vec ObjectKey Global)) (more : String Global) (objects : Vec ObjectKey Global) (texts : List (List ℕ)) → now ≡ done ++ (more, objects) ∷ []
    → string_bytes more ≡ text → list_any (eq_by_cmp place_cmp p) (map place_of objects.items) ≡ U text
    → is_listed key p (map key_seen done) ≡ (is_among texts key && U key) → is_listed key p (map key_seen now) ≡ (is_among (texts ++ text ∷ []) key && U key)
listed_more U key text p done now more objects texts pushed same under before =
    ap (λ es. is_listed key p (map key_seen es)) pushed
    ∙ ap (is_listed key p) (map-append key_seen done ((more, objects) ∷ []))
    ∙ list_any-append (λ e. bytes_eq e.0 key && list_any (eq_by_cmp place_cmp p) e.1) (map key_seen done) (key_seen (more, objects) ∷ [])
    ∙ ap₂ (λ a b. a || b) before (none_or (bytes_eq (string_bytes more) key && list_any (eq_by_cmp place_cmp p) (map place_of objects.items)) ∙ ap₂ (λ t b. bytes_eq t key && b) same under)
    ∙ distributed (is_among texts key) (bytes_eq text key) (U text) (U key) (λ is. ap U (equal text key is))
    ∙ ap (λ b. b && U key) (sym (list_any-append (λ t. bytes_eq t key) texts (text ∷ []) ∙ ap (λ b. is_among texts key || b) (none_or (bytes_eq text key))))

pub listed_next : (U : List ℕ → Bool) (key : List ℕ) (p : Place) (texts : List (Bor (List ℕ))) (i : ℕ) (d : Bor (List ℕ)) (done now : List (String Global × Vec ObjectKey Global)) (more : String Global) (objects : Vec ObjectKey Global) → i < length texts
    → now ≡ done ++ (more, objects) ∷ [] → string_bytes more ≡ (slice_index_or texts i d).now → list_any (eq_by_cmp place_cmp p) (map place_of objects.items) ≡ U ((slice_index_or texts i d).now)
    → is_listed key p (map key_seen done) ≡ (is_among (map (λ t. t.now) (take i texts)) key && U key) → is_listed key p (map key_seen now) ≡ (is_among (map (λ t. t.now) (take (i + 1) texts)) key && U key)
listed_next U key p texts i d done now more objects lt pushed same under before =
    listed_more U key ((slice_index_or texts i d).now) p done now more objects (map (λ t. t.now) (take i texts)) pushed same under before
    ∙ ap (λ ts. is_among ts key && U key) (sym (map_more (λ t. t.now) texts i d lt))

whole : (a u : Bool) → (u ≡ true → a ≡ true) → (a && u) ≡ u
whole true u is = refl
whole false true is = is refl
whole false false is = refl

-- all the keys under which a place stands
pub listed_all : (U : ObjectKey → Bool) (texts : List (List ℕ)) (key : List ℕ) (q : ObjectKey) → ((is_among texts key ≡ true) ↔ ((k : ObjectKey) × (U k ≡ true))) → (is_among texts key && U q) ≡ U q
listed_all U texts key q members = whole (is_among texts key) (U q) (λ is. members.1 (q, is))

-- ---- the entries of a copy

all_append : {X : Type 0} (P : X → Type 0) (xs ys : List X) → AllByRecursion P xs → AllByRecursion P ys → AllByRecursion P (xs ++ ys)
all_append P [] ys all more = more
all_append P (x ∷ xs) ys all more = (all.0, all_append P xs ys all.1 more)

abbrev Entries : Type 0
Entries = List (String Global × Vec ObjectKey Global)

pub keys_next : (texts : List (Bor (List ℕ))) (i : ℕ) (d : Bor (List ℕ)) (done now : Entries) (more : String Global) (objects : Vec ObjectKey Global) → i < length texts → now ≡ done ++ (more, objects) ∷ [] → string_bytes more ≡ (slice_index_or texts i d).now
    → map (λ e. string_bytes e.0) done ≡ map (λ t. t.now) (take i texts) → map (λ e. string_bytes e.0) now ≡ map (λ t. t.now) (take (i + 1) texts)
keys_next texts i d done now more objects lt pushed same before =
    ap (map (λ e. string_bytes e.0)) pushed ∙ map-append (λ e. string_bytes e.0) done ((more, objects) ∷ []) ∙ ap₂ (λ (xs ys : List (List ℕ)). xs ++ ys) before (ap (λ k. k ∷ []) same) ∙ sym (map_more (λ t. t.now) texts i d lt)

pub copied_next : (held : IndexedObjects) (names : List (List ℕ)) (name : List ℕ) (text : List ℕ) (done now : Entries) (more : String Global) (objects : Vec ObjectKey Global) → now ≡ done ++ (more, objects) ∷ [] → string_bytes more ≡ text
    → ((q : ObjectKey) → list_any (eq_by_cmp place_cmp (place_of q)) (map place_of objects.items) ≡ is_under held names name text (place_of q)) → IsStrictlySortedBy place_cmp (map place_of objects.items)
    → AllByRecursion (IsCopied held names name) done → AllByRecursion (IsCopied held names name) now
copied_next held names name text done now more objects pushed same members ascending before =
    subst (AllByRecursion (IsCopied held names name)) (sym pushed)
    (all_append (IsCopied held names name) done ((more, objects) ∷ []) before ((ascending, λ q. members q ∙ ap (λ k. is_under held names name k (place_of q)) (sym same)), tt))

some_if_any : (p : Place) (ps : List Place) → list_any (eq_by_cmp place_cmp p) ps ≡ true → 0 < length ps
some_if_any p [] is = absurd cc
some_if_any p (x ∷ xs) is = omega arith

or_true : (a b : Bool) → b ≡ true → (a || b) ≡ true
or_true true b is = refl
or_true false b is = is

or_first : (a b : Bool) → a ≡ true → (a || b) ≡ true
or_first true b is = refl
or_first false b is = absurd cc

-- where each key is some object's, each has a place
pub all_filled : (held : IndexedObjects) (names : List (List ℕ)) (name : List ℕ) (es : Entries) → ((k : List ℕ) → is_among (map (λ e. string_bytes e.0) es) k ≡ true → (q : ObjectKey) × (is_under held names name k (place_of q) ≡ true))
    → AllByRecursion (IsCopied held names name) es → AllByRecursion (λ e. IsPosting (key_seen e)) es
all_filled held names name [] had all = tt
all_filled held names name (e ∷ es) had all =
    let k = string_bytes e.0 in
    let one = had k (or_first (bytes_eq k k) (is_among (map (λ x. string_bytes x.0) es) k) ((bytes_eq-Decides k k).1 refl)) in
    ((all.0.0, some_if_any (place_of one.0) (map place_of e.1.items) (all.0.1 one.0 ∙ one.1)), all_filled held names name es (λ t is. had t (or_true (bytes_eq k t) (is_among (map (λ x. string_bytes x.0) es) t) is)) all.1)

-- ---- all indexes

pub shots_next : (held : IndexedObjects) (names : List (List ℕ)) (all : List (String Global)) (i : ℕ) (item : String Global) (done now : List IndexShot) (x : IndexShot) → i < length all → item ≡ slice_index_or all i item → now ≡ done ++ x ∷ [] → string_bytes x.name ≡ string_bytes item
    → ShowsIndex held names x → (map (λ s. string_bytes s.name) done ≡ map string_bytes (take i all)) × All (ShowsIndex held names) done
    → (map (λ s. string_bytes s.name) now ≡ map string_bytes (take (i + 1) all)) × All (ShowsIndex held names) now
shots_next held names all i item done now x lt here pushed named shows before = (
  ap (map (λ s. string_bytes s.name)) pushed ∙ map-append (λ s. string_bytes s.name) done (x ∷ []) ∙ ap₂ (λ (xs ys : List (List ℕ)). xs ++ ys) before.0 (ap (λ n. n ∷ []) (named ∙ ap string_bytes here)) ∙ sym (map_more string_bytes all i item lt),
  subst (All (ShowsIndex held names)) (sym pushed) (All-append (ShowsIndex held names) done (x ∷ []) before.1 (All-cons (ShowsIndex held names) x [] shows (All-nil (ShowsIndex held names)))),
)
