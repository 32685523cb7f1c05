-- A copy of an index is the index of the objects, as a finite map.
use Rattle.std.proofs.Common.{◌≡◌, ◌∙◌, ◌<◌, ℕ, T, Bool, true, false, cond, ◌&&◌, ◌||◌, List, [], ◌∷◌, length, map, Option, Some, None, refl, sym, ap, ap₂, subst, arith, string_bytes, String, Global, Ordering, Less, Equal, Greater, is_eq, is_lt, nat_cmp, true≢false}
use Rattle.std.specs.Prelude.{Vec, is_some, option_map}
use Rattle.std.specs.Cmp.{IsTotalOrder, both_ways, tied_itself}
use Rattle.std.specs.Cmp.Lexicographic.{nat_list_cmp_total, slice_cmp}
use Rattle.std.specs.FinMap as fin
use Rattle.std.specs.FinMap.Entries.{below_all, find, is_sorted, is_some-find, same_entries}
use Rattle.std.specs.List.{AllByRecursion, filter, flat_map, list_any, slice_index_or}
use Rattle.std.specs.List.Sorted.{IsStrictlySortedBy}
use Rattle.std.specs.Ordering.{eq_by_cmp}
use Rattle.std.specs.Str.{bytes_eq}
use Rattle.std.proofs.lemmas.List.Folds.{list_any-append}
use Rattle.std.proofs.lemmas.Slice.Eq.{bytes_eq-Decides}
use Rattle.indexer.specs.Indexer.{has_one}
use Rattle.indexer.specs.Objects.{Place, Shared, Stored, is_among, place_cmp, place_of, shared_of}
use Rattle.indexer.specs.declared.object.ObjectKey.{ObjectKey}
use Rattle.reflector.specs.Client.{Objects, by_place, place_in}
use Rattle.reflector.specs.MirrorViews.{Keys, keyed}
use Rattle.reflector.proofs.Keyed.{beside, keyed-get}
use Rattle.reflector.proofs.Places.{place_total, same_place}
use Rattle.world.specs.Shots.{IsPosting, is_listed, key_seen}
use Rattle.world.specs.Traces.{index_of, places_under}

-- ---- tests

both_hold : (a b : Bool) → T a → T b → T (a && b)
both_hold true b p q = q
both_hold false b p q = p

pub first_holds : (a b : Bool) → T (a && b) → T a
first_holds true b p = tt
first_holds false b p = p

pub second_holds : (a b : Bool) → T (a && b) → T b
second_holds true b p = p
second_holds false b p = absurd p

and_true : (b : Bool) → (b && true) ≡ b
and_true true = refl
and_true false = refl

and_false : (b : Bool) → (b && false) ≡ false
and_false true = refl
and_false false = refl

or_false : (b : Bool) → (b || false) ≡ b
or_false true = refl
or_false false = refl

or_true : (a b : Bool) → b ≡ true → (a || b) ≡ true
or_true true b is = refl
or_true false b is = is

pub neither : (a b : Bool) → (a || b) ≡ false → (a ≡ false) × (b ≡ false)
neither true b is = absurd (true≢false is)
neither false b is = (refl, is)

isnt_equal : (r : Ordering) → T (is_lt r) → is_eq r ≡ false
isnt_equal Less p = refl
isnt_equal Equal p = absurd p
isnt_equal Greater p = absurd p

pub less : (r : Ordering) → T (is_lt r) → r ≡ Less
less Less p = refl
less Equal p = absurd p
less Greater p = absurd p

is_equal : (r : Ordering) → is_eq r ≡ true → r ≡ Equal
is_equal Less e = absurd (true≢false (sym e))
is_equal Equal e = refl
is_equal Greater e = absurd (true≢false (sym e))

-- ---- two lists in order that have the same members

module _ {K : Type 0} {R : K → K → Ordering} (total : IsTotalOrder R) (same : fin.IsAntisymmetric R) where
  abbrev has : K → List K → Bool
  has q xs = list_any (eq_by_cmp R q) xs

  abbrev marked : List K → List (K × Unit {0})
  marked xs = map (λ x. (x, tt)) xs

  firsts : (xs : List K) → map (λ e. e.0) (marked xs) ≡ xs
  firsts [] = refl
  firsts (x ∷ xs) = ap (λ ys. x ∷ ys) (firsts xs)

  below_marked : (x : K) (xs : List K) → AllByRecursion (λ y. R x y ≡ Less) xs → T (below_all R x (marked xs))
  below_marked x [] h = tt
  below_marked x (y ∷ ys) h = both_hold (is_lt (R x y)) (below_all R x (marked ys)) (subst (λ r. T (is_lt r)) (sym h.0) tt) (below_marked x ys h.1)

  sorted_marked : (xs : List K) → IsStrictlySortedBy R xs → T (is_sorted R (marked xs))
  unfolding IsStrictlySortedBy
  sorted_marked [] h = tt
  sorted_marked (x ∷ xs) h = both_hold (below_all R x (marked xs)) (is_sorted R (marked xs)) (below_marked x xs h.0) (sorted_marked xs h.1)

  alike : (x y : Option (Unit {0})) → is_some x ≡ is_some y → x ≡ y
  alike None None is = refl
  alike None (Some u) is = absurd (true≢false (sym is))
  alike (Some u) None is = absurd (true≢false is)
  alike (Some u) (Some v) is = refl

  found : (q : K) (xs : List K) → is_some (find R q (marked xs)) ≡ has q xs
  found q xs = is_some-find R q (marked xs) ∙ ap (list_any (eq_by_cmp R q)) (firsts xs)

  pub same_members : (xs ys : List K) → IsStrictlySortedBy R xs → IsStrictlySortedBy R ys → ((q : K) → has q xs ≡ has q ys) → xs ≡ ys
  same_members xs ys low high is =
      sym (firsts xs)
      ∙ ap (map (λ e. e.0)) (same_entries R total same (marked xs) (marked ys) (sorted_marked xs low) (sorted_marked ys high) (λ q. alike _ _ (found q xs ∙ is q ∙ sym (found q ys))))
      ∙ firsts ys

-- ---- keys

text_total : IsTotalOrder (slice_cmp nat_cmp)
text_total = nat_list_cmp_total

text_same : fin.IsAntisymmetric (slice_cmp nat_cmp)
text_same = fin.slice_cmp-IsAntisymmetric fin.nat_cmp-IsAntisymmetric

pub same_text : (a b : List ℕ) → bytes_eq a b ≡ true → a ≡ b
same_text a b is = (bytes_eq-Decides a b).0 is

pub text_itself : (a : List ℕ) → bytes_eq a a ≡ true
text_itself a = (bytes_eq-Decides a a).1 refl

-- both tests of texts are of equality
same_test : (q k : List ℕ) → eq_by_cmp (slice_cmp nat_cmp) q k ≡ bytes_eq k q
same_test q k =
    both_ways (eq_by_cmp (slice_cmp nat_cmp) q k) (bytes_eq k q) (λ is. subst (λ x. bytes_eq x q ≡ true) (text_same q k (is_equal (slice_cmp nat_cmp q k) is)) (text_itself q))
    (λ is. subst (λ x. eq_by_cmp (slice_cmp nat_cmp) q x ≡ true) (sym (same_text k q is)) (ap is_eq (tied_itself text_total q)))

pub place_same : fin.IsAntisymmetric place_cmp
place_same p q e = same_place p q (ap is_eq e)

place_itself : (p : Place) → eq_by_cmp place_cmp p p ≡ true
place_itself p = ap is_eq (tied_itself place_total p)

-- ---- places of objects

-- the place is that of an object's key, as they lie in memory
abbrev IsOfKey : Place → Type 0
IsOfKey p = (key : ObjectKey) × (p ≡ place_of key)

abbrev key_of : Shared → ObjectKey
key_of x = record { namespace = x.value.namespace; name = x.value.name }

of_keys : (keys : List ObjectKey) → AllByRecursion IsOfKey (map place_of keys)
of_keys [] = tt
of_keys (key ∷ keys) = ((key, refl), of_keys keys)

of_key : (ps : List Place) (q : Place) → AllByRecursion IsOfKey ps → list_any (eq_by_cmp place_cmp q) ps ≡ true → IsOfKey q
of_key [] q all is = absurd (true≢false (sym is))
of_key (p ∷ ps) q all is = go (eq_by_cmp place_cmp q p) refl (λ t. of_key ps q all.1 t) is
  where
    go : (b : Bool) → eq_by_cmp place_cmp q p ≡ b → (list_any (eq_by_cmp place_cmp q) ps ≡ true → IsOfKey q) → (b || list_any (eq_by_cmp place_cmp q) ps) ≡ true → IsOfKey q
    go true tied rest is = subst IsOfKey (sym (same_place q p tied)) all.0
    go false tied rest is = rest is

-- lists of such places are the same where they have the same keys
same_places : (ps qs : List Place) → AllByRecursion IsOfKey ps → AllByRecursion IsOfKey qs → IsStrictlySortedBy place_cmp ps → IsStrictlySortedBy place_cmp qs
    → ((key : ObjectKey) → list_any (eq_by_cmp place_cmp (place_of key)) ps ≡ list_any (eq_by_cmp place_cmp (place_of key)) qs) → ps ≡ qs
same_places ps qs ps_keys qs_keys low high is = same_members place_total place_same ps qs low high (λ q. both_ways _ _ (λ t. there q (of_key ps q ps_keys t) t) (λ t. back q (of_key qs q qs_keys t) t))
  where
    there : (q : Place) → IsOfKey q → list_any (eq_by_cmp place_cmp q) ps ≡ true → list_any (eq_by_cmp place_cmp q) qs ≡ true
    there q (key, same) t = subst (λ p. list_any (eq_by_cmp place_cmp p) qs ≡ true) (sym same) (sym (is key) ∙ subst (λ p. list_any (eq_by_cmp place_cmp p) ps ≡ true) same t)

    back : (q : Place) → IsOfKey q → list_any (eq_by_cmp place_cmp q) qs ≡ true → list_any (eq_by_cmp place_cmp q) ps ≡ true
    back q (key, same) t = subst (λ p. list_any (eq_by_cmp place_cmp p) ps ≡ true) (sym same) (is key ∙ subst (λ p. list_any (eq_by_cmp place_cmp p) qs ≡ true) same t)

-- ---- objects with a key

module _ (f : Stored → List (List ℕ)) (key : List ℕ) where
  -- one that has the key stands at this place
  abbrev has_at : Place → List Stored → Bool
  has_at p os = list_any (λ o. eq_by_cmp place_cmp p (place_in o) && is_among (f o) key) os

  among_places : (p : Place) (os : List Stored) → list_any (eq_by_cmp place_cmp p) (places_under f os key) ≡ has_at p os
  among_places p [] = refl
  among_places p (o ∷ os) = go (is_among (f o) key) (among_places p os)
    where
      go : (b : Bool) → list_any (eq_by_cmp place_cmp p) (places_under f os key) ≡ has_at p os → list_any (eq_by_cmp place_cmp p) (map place_in (cond b (o ∷ filter (λ x. is_among (f x) key) os) (filter (λ x. is_among (f x) key) os))) ≡ ((eq_by_cmp place_cmp p (place_in o) && b) || has_at p os)
      go true rest = ap₂ (λ (a b : Bool). a || b) (sym (and_true (eq_by_cmp place_cmp p (place_in o)))) rest
      go false rest = rest ∙ ap (λ (b : Bool). b || has_at p os) (sym (and_false (eq_by_cmp place_cmp p (place_in o))))

  below_kept : (p : Place) (os : List Stored) → AllByRecursion (λ q. place_cmp p q ≡ Less) (map place_in os) → AllByRecursion (λ q. place_cmp p q ≡ Less) (places_under f os key)
  below_kept p [] h = tt
  below_kept p (o ∷ os) h = go (is_among (f o) key) (below_kept p os h.1)
    where
      go : (b : Bool) → AllByRecursion (λ q. place_cmp p q ≡ Less) (places_under f os key) → AllByRecursion (λ q. place_cmp p q ≡ Less) (map place_in (cond b (o ∷ filter (λ x. is_among (f x) key) os) (filter (λ x. is_among (f x) key) os)))
      go true rest = (h.0, rest)
      go false rest = rest

  one_ascends : (o : Stored) (os : List Stored) (b : Bool) → AllByRecursion (λ q. place_cmp (place_in o) q ≡ Less) (places_under f os key) → IsStrictlySortedBy place_cmp (places_under f os key)
      → IsStrictlySortedBy place_cmp (map place_in (cond b (o ∷ filter (λ x. is_among (f x) key) os) (filter (λ x. is_among (f x) key) os)))
  unfolding IsStrictlySortedBy
  one_ascends o os true below rest = (below, rest)
  one_ascends o os false below rest = rest

  places_ascend : (os : List Stored) → IsStrictlySortedBy place_cmp (map place_in os) → IsStrictlySortedBy place_cmp (places_under f os key)
  unfolding IsStrictlySortedBy
  places_ascend [] h = tt
  places_ascend (o ∷ os) h = one_ascends o os (is_among (f o) key) (below_kept (place_in o) os h.0) (places_ascend os h.1)

  places_of_keys : (xs : List Shared) → AllByRecursion IsOfKey (places_under f (map shared_of xs) key)
  places_of_keys [] = tt
  places_of_keys (x ∷ xs) = go (is_among (f (shared_of x)) key) (places_of_keys xs)
    where
      go : (b : Bool) → AllByRecursion IsOfKey (places_under f (map shared_of xs) key) → AllByRecursion IsOfKey (map place_in (cond b (shared_of x ∷ filter (λ o. is_among (f o) key) (map shared_of xs)) (filter (λ o. is_among (f o) key) (map shared_of xs))))
      go true rest = ((key_of x, refl), rest)
      go false rest = rest

  -- a key under which some place is, is one of the objects' keys
  key_of_some : (os : List Stored) → 0 < length (places_under f os key) → is_among (flat_map f os) key ≡ true
  key_of_some [] some = absurd (omega (arith, some))
  key_of_some (o ∷ os) some = list_any-append (λ t. bytes_eq t key) (f o) (flat_map f os) ∙ go (is_among (f o) key) (λ t. key_of_some os t) some
    where
      go : (b : Bool) → (0 < length (places_under f os key) → is_among (flat_map f os) key ≡ true) → 0 < length (map place_in (cond b (o ∷ filter (λ x. is_among (f x) key) os) (filter (λ x. is_among (f x) key) os))) → (b || is_among (flat_map f os) key) ≡ true
      go true rest some = refl
      go false rest some = rest some

  some_of_key : (xs : List Shared) → is_among (flat_map f (map shared_of xs)) key ≡ true → (k : ObjectKey) × (has_at (place_of k) (map shared_of xs) ≡ true)
  some_of_key [] is = absurd (true≢false (sym is))
  some_of_key (x ∷ xs) is = go (is_among (f (shared_of x)) key) refl (λ t. some_of_key xs t) (sym (list_any-append (λ t. bytes_eq t key) (f (shared_of x)) (flat_map f (map shared_of xs))) ∙ is)
    where
      later : (k : ObjectKey) × (has_at (place_of k) (map shared_of xs) ≡ true) → (k : ObjectKey) × (has_at (place_of k) (map shared_of (x ∷ xs)) ≡ true)
      later (k, is) = (k, or_true _ _ is)

      go : (b : Bool) → is_among (f (shared_of x)) key ≡ b → (is_among (flat_map f (map shared_of xs)) key ≡ true → (k : ObjectKey) × (has_at (place_of k) (map shared_of xs) ≡ true)) → (b || is_among (flat_map f (map shared_of xs)) key) ≡ true → (k : ObjectKey) × (has_at (place_of k) (map shared_of (x ∷ xs)) ≡ true)
      go true own rest is = (key_of x, ap₂ (λ (a b : Bool). (a && b) || has_at (place_of (key_of x)) (map shared_of xs)) (place_itself (place_of (key_of x))) own)
      go false own rest is = later (rest is)

  none_at : (p : Place) (os : List Stored) → T (below_all place_cmp p (by_place os)) → has_at p os ≡ false
  none_at p [] low = refl
  none_at p (o ∷ os) low =
      ap₂ (λ (a b : Bool). (a && is_among (f o) key) || b) (isnt_equal (place_cmp p (place_in o)) (first_holds (is_lt (place_cmp p (place_in o))) _ low)) (none_at p os (second_holds (is_lt (place_cmp p (place_in o))) _ low))

  -- ---- by number

  module _ (ks : Keys) (i : ℕ) (at : (s : Stored) → slice_index_or (ks s) i [] ≡ f s) where
    under_in : (p : Place) (os : List Stored) → T (is_sorted place_cmp (by_place os)) → has_one (option_map (beside ks) (find place_cmp p (by_place os))) i key ≡ has_at p os
    under_in p [] low = refl
    under_in p (o ∷ os) low = go (eq_by_cmp place_cmp p (place_in o)) refl (under_in p os (second_holds (below_all place_cmp (place_in o) (by_place os)) _ low))
      where
        go : (b : Bool) → eq_by_cmp place_cmp p (place_in o) ≡ b → has_one (option_map (beside ks) (find place_cmp p (by_place os))) i key ≡ has_at p os → has_one (option_map (beside ks) (cond b (Some o) (find place_cmp p (by_place os)))) i key ≡ ((b && is_among (f o) key) || has_at p os)
        go true tied rest =
            ap (λ ts. is_among ts key) (at o) ∙ sym (or_false (is_among (f o) key))
            ∙ ap (λ (b : Bool). is_among (f o) key || b) (sym (none_at p os (subst (λ q. T (below_all place_cmp q (by_place os))) (sym (same_place p (place_in o) tied)) (first_holds (below_all place_cmp (place_in o) (by_place os)) _ low))))
        go false tied rest = rest

    pub under_at : (o : Objects) (os : List Stored) → fin.entries o ≡ by_place os → (p : Place) → has_one (fin.get (keyed ks o) p) i key ≡ has_at p os
    under_at o os are p =
        ap (λ h. has_one h i key) (keyed-get ks o p ∙ ap (option_map (beside ks)) (fin.get-entries o p ∙ ap (find place_cmp p) are))
        ∙ under_in p os (subst (λ es. T (is_sorted place_cmp es)) are (fin.entries_sorted o))

-- ---- a copy's entries

abbrev Entry : Type 0
Entry = String Global × Vec ObjectKey Global

abbrev Seen : Type 0
Seen = List (List ℕ × List Place)

below_keys : (k : List ℕ) (es : List Entry) → AllByRecursion (λ t. slice_cmp nat_cmp k t ≡ Less) (map (λ e. string_bytes e.0) es) → T (below_all (slice_cmp nat_cmp) k (map key_seen es))
below_keys k [] h = tt
below_keys k (e ∷ es) h = both_hold (is_lt (slice_cmp nat_cmp k (string_bytes e.0))) _ (subst (λ r. T (is_lt r)) (sym h.0) tt) (below_keys k es h.1)

keys_sorted : (es : List Entry) → IsStrictlySortedBy (slice_cmp nat_cmp) (map (λ e. string_bytes e.0) es) → T (is_sorted (slice_cmp nat_cmp) (map key_seen es))
unfolding IsStrictlySortedBy
keys_sorted [] h = tt
keys_sorted (e ∷ es) h = both_hold (below_all (slice_cmp nat_cmp) (string_bytes e.0) (map key_seen es)) _ (below_keys (string_bytes e.0) es h.0) (keys_sorted es h.1)

-- what is found under a key
abbrev found_in : Option (List Place) → Place → Bool
found_in None p = false
found_in (Some ps) p = list_any (eq_by_cmp place_cmp p) ps

none_listed : (q : List ℕ) (p : Place) (es : Seen) → T (below_all (slice_cmp nat_cmp) q es) → is_listed q p es ≡ false
none_listed q p [] low = refl
none_listed q p (e ∷ es) low =
    ap₂ (λ (a b : Bool). (a && list_any (eq_by_cmp place_cmp p) e.1) || b)
    (sym (same_test q e.0) ∙ isnt_equal (slice_cmp nat_cmp q e.0) (first_holds (is_lt (slice_cmp nat_cmp q e.0)) _ low)) (none_listed q p es (second_holds (is_lt (slice_cmp nat_cmp q e.0)) _ low))

listed_found : (q : List ℕ) (p : Place) (es : Seen) → T (is_sorted (slice_cmp nat_cmp) es) → is_listed q p es ≡ found_in (find (slice_cmp nat_cmp) q es) p
listed_found q p [] low = refl
listed_found q p (e ∷ es) low = ap (λ (b : Bool). (b && list_any (eq_by_cmp place_cmp p) e.1) || is_listed q p es) (sym (same_test q e.0)) ∙ go (eq_by_cmp (slice_cmp nat_cmp) q e.0) refl (listed_found q p es (second_holds (below_all (slice_cmp nat_cmp) e.0 es) _ low))
  where
    go : (b : Bool) → eq_by_cmp (slice_cmp nat_cmp) q e.0 ≡ b → is_listed q p es ≡ found_in (find (slice_cmp nat_cmp) q es) p → ((b && list_any (eq_by_cmp place_cmp p) e.1) || is_listed q p es) ≡ found_in (cond b (Some e.1) (find (slice_cmp nat_cmp) q es)) p
    go true tied rest =
        ap (λ (b : Bool). list_any (eq_by_cmp place_cmp p) e.1 || b)
        (none_listed q p es (subst (λ k. T (below_all (slice_cmp nat_cmp) k es)) (sym (text_same q e.0 (is_equal (slice_cmp nat_cmp q e.0) tied))) (first_holds (below_all (slice_cmp nat_cmp) e.0 es) _ low)))
        ∙ or_false (list_any (eq_by_cmp place_cmp p) e.1)
    go false tied rest = rest

-- what is found is one of the postings
record IsFound (ps : List Place) : Type 0 where
  keys : List ObjectKey
  are : ps ≡ map place_of keys
  posted : IsStrictlySortedBy place_cmp ps × (0 < length ps)

posting_of : (q : List ℕ) (es : List Entry) (ps : List Place) → AllByRecursion (λ e. IsPosting (key_seen e)) es → find (slice_cmp nat_cmp) q (map key_seen es) ≡ Some ps → IsFound ps
posting_of q [] ps all is = absurd cc
posting_of q (e ∷ es) ps all is = go (eq_by_cmp (slice_cmp nat_cmp) q (string_bytes e.0)) (λ t. posting_of q es ps all.1 t) is
  where
    go : (b : Bool) → (find (slice_cmp nat_cmp) q (map key_seen es) ≡ Some ps → IsFound ps) → cond b (Some (map place_of e.1.items)) (find (slice_cmp nat_cmp) q (map key_seen es)) ≡ Some ps → IsFound ps
    go true rest is = let same : map place_of e.1.items ≡ ps = cc in record { keys = e.1.items; are = sym same; posted = subst (λ xs. IsStrictlySortedBy place_cmp xs × (0 < length xs)) same all.0 }
    go false rest is = rest is

-- ---- the index

found_among : {X : Type 0} (g : List ℕ → X) (q : List ℕ) (ks : List (List ℕ)) → find (slice_cmp nat_cmp) q (map (λ k. (k, g k)) ks) ≡ cond (is_among ks q) (Some (g q)) None
found_among g q [] = refl
found_among g q (k ∷ ks) = ap (λ (b : Bool). cond b (Some (g k)) (find (slice_cmp nat_cmp) q (map (λ k. (k, g k)) ks))) (same_test q k) ∙ go (bytes_eq k q) refl (found_among g q ks)
  where
    go : (b : Bool) → bytes_eq k q ≡ b → find (slice_cmp nat_cmp) q (map (λ k. (k, g k)) ks) ≡ cond (is_among ks q) (Some (g q)) None → cond b (Some (g k)) (find (slice_cmp nat_cmp) q (map (λ k. (k, g k)) ks)) ≡ cond (b || is_among ks q) (Some (g q)) None
    go true is rest = ap (λ x. Some (g x)) (same_text k q is)
    go false is rest = rest

module _ (f : Stored → List (List ℕ)) (es : List Entry) (xs : List Shared) (ascending : IsStrictlySortedBy (slice_cmp nat_cmp) (map (λ e. string_bytes e.0) es)) (filled : AllByRecursion (λ e. IsPosting (key_seen e)) es)
    (places : IsStrictlySortedBy place_cmp (map place_in (map shared_of xs))) (members : (q : List ℕ) (key : ObjectKey) → is_listed q (place_of key) (map key_seen es) ≡ has_at f q (place_of key) (map shared_of xs)) where
  found_is : (q : List ℕ) (r : Option (List Place)) → find (slice_cmp nat_cmp) q (map key_seen es) ≡ r → r ≡ cond (is_among (flat_map f (map shared_of xs)) q) (Some (places_under f (map shared_of xs) q)) None
  found_is q None is = go (is_among (flat_map f (map shared_of xs)) q) refl
    where
      go : (b : Bool) → is_among (flat_map f (map shared_of xs)) q ≡ b → None ≡ cond b (Some (places_under f (map shared_of xs) q)) None
      go false among = refl
      go true among =
          let some = some_of_key f q xs among in
          absurd (true≢false (sym (members q some.0 ∙ some.1) ∙ listed_found q (place_of some.0) (map key_seen es) (keys_sorted es ascending) ∙ ap (λ r. found_in r (place_of some.0)) is))
  found_is q (Some ps) is =
      let posting = posting_of q es ps filled is in
      let same : ps ≡ places_under f (map shared_of xs) q =
      same_places ps (places_under f (map shared_of xs) q) (subst (AllByRecursion IsOfKey) (sym posting.are) (of_keys posting.keys)) (places_of_keys f q xs) posting.posted.0 (places_ascend f q (map shared_of xs) places)
      (λ key. ap (λ r. found_in r (place_of key)) (sym is) ∙ sym (listed_found q (place_of key) (map key_seen es) (keys_sorted es ascending)) ∙ members q key ∙ sym (among_places f q (place_of key) (map shared_of xs))) in
      let some : is_among (flat_map f (map shared_of xs)) q ≡ true = key_of_some f q (map shared_of xs) (subst (λ l. 0 < length l) same posting.posted.1) in
      ap Some same ∙ ap (λ (b : Bool). cond b (Some (places_under f (map shared_of xs) q)) None) (sym some)

  pub entries_are : map key_seen es ≡ fin.entries (index_of f (map shared_of xs))
  entries_are =
      let os = map shared_of xs in
      same_entries (slice_cmp nat_cmp) text_total text_same (map key_seen es) (fin.entries (index_of f os)) (keys_sorted es ascending) (fin.entries_sorted (index_of f os)) (λ q.
      found_is q (find (slice_cmp nat_cmp) q (map key_seen es)) refl ∙ sym (found_among (places_under f os) q (flat_map f os))
      ∙ sym (fin.get-from_entries text_total (map (λ k. (k, places_under f os k)) (flat_map f os)) q) ∙ fin.get-entries (index_of f os) q)
