-- Sorted names, and their set.
use Rattle.std.proofs.Common.{◌≡◌, ℕ, suc, ◌+◌, ◌<◌, ◌≤◌, ◌==◌, Bool, true, false, T, cond, not, ◌&&◌, ◌||◌, List, [], ◌∷◌, map, length, get_or, Option, Some, None, is_some, Ordering, Less, Equal, Greater, is_eq, nat_cmp, refl, sym, ap, ap₂, subst, ◌∙◌, add-one, arith, true≢false}
use Rattle.std.specs.Cmp.Lexicographic.{slice_cmp}
use Rattle.std.specs.FinMap as fin
use Rattle.std.specs.FinMap.{find, is_sorted, nat_cmp-IsAntisymmetric, slice_cmp-IsAntisymmetric}
use Rattle.std.specs.FinMap.Entries.{below_all}
use Rattle.std.specs.List.{list_any}
use Rattle.std.specs.List.Sorted.{IsPermutation}
use Rattle.std.specs.Ordering.{is_lt, eq_by_cmp, ordering_reverse}
use Rattle.std.proofs.lemmas.Bool.Decides.{nat_tests}
use Rattle.std.proofs.lemmas.Cmp.{nat_list_cmp_total}
use Rattle.std.proofs.lemmas.List.{length-map}
use Rattle.std.proofs.lemmas.List.Sorted.{list_any-IsPermutation, length_permutation, IsPermutation-map}
use Rattle.api_types.specs.Keywords.{name_set, different}
use Rattle.fieldpath.specs.Scalars.{ascend, ascend_from}

abbrev Name : Type 0
Name = List ℕ

abbrev cmp : Name → Name → Ordering
cmp = slice_cmp nat_cmp

abbrev pairs : List Name → List (Name × Unit {0})
pairs ns = map (λ n. (n, tt)) ns

and_first : (a b : Bool) → a && b ≡ true → a ≡ true
and_first true b h = refl
and_first false b h = h

and_second : (a b : Bool) → a && b ≡ true → b ≡ true
and_second true b h = h
and_second false b h = absurd (true≢false (sym h))

lt_is : (o : Ordering) → is_lt o ≡ true → o ≡ Less
lt_is Less h = refl
lt_is Equal h = absurd (true≢false (sym h))
lt_is Greater h = absurd (true≢false (sym h))

-- ---- a name that is below one is below those above it

below_further : (x y : Name) (ns : List Name) → cmp x y ≡ Less → below_all cmp y (pairs ns) ≡ true → below_all cmp x (pairs ns) ≡ true
below_further x y [] lt h = refl
below_further x y (n ∷ ns) lt h =
    ap₂ (λ a b. a && b) (ap is_lt (nat_list_cmp_total.trans x y n lt (lt_is (cmp y n) (and_first _ _ h)))) (below_further x y ns lt (and_second (is_lt (cmp y n)) _ h))

below_from : (x : Name) (ns : List Name) → ascend_from x ns ≡ true → below_all cmp x (pairs ns) ≡ true
below_from x [] h = refl
below_from x (n ∷ ns) h =
    let lt = and_first (is_lt (cmp x n)) _ h in
    ap₂ (λ a b. a && b) lt (below_further x n ns (lt_is _ lt) (below_from n ns (and_second (is_lt (cmp x n)) _ h)))

sorted_from : (x : Name) (ns : List Name) → ascend_from x ns ≡ true → is_sorted cmp (pairs (x ∷ ns)) ≡ true
sorted_from x [] h = refl
sorted_from x (n ∷ ns) h = ap₂ (λ a b. a && b) (below_from x (n ∷ ns) h) (sorted_from n ns (and_second (is_lt (cmp x n)) _ h))

is_sorted-pairs : (ns : List Name) → ascend ns ≡ true → T (is_sorted cmp (pairs ns))
is_sorted-pairs [] h = tt
is_sorted-pairs (n ∷ ns) h = subst T (sym (sorted_from n ns h)) tt

-- ---- the set of names that ascend has just them

same_names : (m n : fin.FinMap cmp (Unit {0})) → ((q : Name) → fin.get m q ≡ fin.get n q) → m ≡ n
same_names = fin.same_map nat_list_cmp_total (slice_cmp-IsAntisymmetric nat_cmp-IsAntisymmetric)

get-name_set : (ns : List Name) (q : Name) → fin.get (name_set ns) q ≡ find cmp q (pairs ns)
get-name_set ns q = fin.get-from_entries nat_list_cmp_total (pairs ns) q

name_set-sorted : (ns : List Name) → ascend ns ≡ true → name_set ns ≡ fin.from_sorted (pairs ns)
name_set-sorted ns h = same_names _ _ (λ q. get-name_set ns q ∙ sym (fin.get-from_sorted cmp (pairs ns) q (is_sorted-pairs ns h)))

entries_ascending : (ns : List Name) → ascend ns ≡ true → fin.entries (name_set ns) ≡ pairs ns
entries_ascending ns h = ap fin.entries (name_set-sorted ns h) ∙ fin.entries-from_sorted cmp (pairs ns) (is_sorted-pairs ns h)

names-pairs : (ns : List Name) → map (λ e. e.0) (pairs ns) ≡ ns
names-pairs [] = refl
names-pairs (n ∷ ns) = ap (λ ms. n ∷ ms) (names-pairs ns)

length-pairs : (ns : List Name) → length (pairs ns) ≡ length ns
length-pairs [] = refl
length-pairs (n ∷ ns) = ap suc (length-pairs ns)

keys_ascending : (ns : List Name) → ascend ns ≡ true → fin.keys (name_set ns) ≡ ns
keys_ascending ns h = ap (map (λ e. e.0)) (entries_ascending ns h) ∙ names-pairs ns

len_ascending : (ns : List Name) → ascend ns ≡ true → fin.len (name_set ns) ≡ length ns
len_ascending ns h = fin.len-entries (name_set ns) ∙ ap length (entries_ascending ns h) ∙ length-pairs ns

-- ---- the set of names in another order is the same

abbrev marked : Bool → Option (Unit {0})
marked b = cond b (Some tt) None

marked_or : (b c : Bool) → cond b (Some tt) (marked c) ≡ marked (b || c)
marked_or true c = refl
marked_or false c = refl

find-pairs : (q : Name) (ns : List Name) → find cmp q (pairs ns) ≡ marked (list_any (eq_by_cmp cmp q) ns)
find-pairs q [] = refl
find-pairs q (n ∷ ns) = ap (cond (eq_by_cmp cmp q n) (Some tt)) (find-pairs q ns) ∙ marked_or (eq_by_cmp cmp q n) _

name_set-IsPermutation : (ns ms : List Name) → IsPermutation ns ms → name_set ns ≡ name_set ms
name_set-IsPermutation ns ms p = same_names _ _ (λ q.
    get-name_set ns q ∙ find-pairs q ns ∙ ap marked (list_any-IsPermutation (eq_by_cmp cmp q) ns ms p) ∙ sym (get-name_set ms q ∙ find-pairs q ms))

abbrev if_different : fin.FinMap cmp (Unit {0}) → ℕ → Option (List Name)
if_different names n = cond (not (n == 0) && fin.len names == n) (Some (fin.keys names)) None

different-IsPermutation : (ns ms : List Name) → IsPermutation ns ms → different ns ≡ different ms
different-IsPermutation ns ms p = ap₂ if_different (name_set-IsPermutation ns ms p) (sym (length_permutation ns ms p))

same_length : (n : ℕ) → (n == n) ≡ true
same_length n = grind (arith, nat_tests)

shorter_differs : (m n : ℕ) → m < n → (m == n) ≡ false
shorter_differs m n h = grind (arith, nat_tests)

different_ascending : (ns : List Name) → ascend ns ≡ true → (length ns == 0) ≡ false → different ns ≡ Some ns
different_ascending ns h some = rw (some, len_ascending ns h, same_length (length ns), keys_ascending ns h) refl

different_empty : (ns : List Name) → (length ns == 0) ≡ true → different ns ≡ None
different_empty ns none = rw none refl

and_false : (b : Bool) → b && false ≡ false
and_false true = refl
and_false false = refl

different_shorter : (ns : List Name) → fin.len (name_set ns) < length ns → different ns ≡ None
different_shorter ns h = rw (shorter_differs (fin.len (name_set ns)) (length ns) h, and_false (not (length ns == 0))) refl

-- ---- sorted names that don't ascend have a smaller set

cond_le : (b : Bool) (l k : ℕ) → l ≤ k → cond b l (l + 1) ≤ suc k
cond_le true l k h = omega arith
cond_le false l k h = omega arith

len_le : (ns : List Name) → fin.len (name_set ns) ≤ length ns
len_le [] = rw (fin.len-empty cmp (Unit {0})) (omega arith)
len_le (n ∷ ns) = rw (fin.len-insert nat_list_cmp_total (name_set ns) n tt) (cond_le _ _ _ (len_le ns))

cond_lt : (b : Bool) (l k : ℕ) → l < k → cond b l (l + 1) < suc k
cond_lt true l k h = omega arith
cond_lt false l k h = omega arith

found : (x y : Name) (ns : List Name) → cmp x y ≡ Equal → fin.contains_key (name_set (y ∷ ns)) x ≡ true
found x y ns e = ap is_some (get-name_set (y ∷ ns) x ∙ ap (λ o. cond (is_eq o) (Some tt) (find cmp x (pairs ns))) e)

module _ {A : Type 0} (f : A → Name) where
  -- no element is below the one before it
  abbrev Rises : List A → Type 0
  Rises xs = (k : ℕ) (d : A) → k + 1 < length xs → is_lt (cmp (f (get_or xs (k + 1) d)) (f (get_or xs k d))) ≡ false

  tail_rises : (x : A) (xs : List A) → Rises (x ∷ xs) → Rises xs
  tail_rises x xs h k d lt = rw add-one (let e = h (suc k) d (omega arith) in rw add-one at e)

  shorter : (x y : A) (xs : List A) (o : Ordering) → cmp (f x) (f y) ≡ o → Rises (x ∷ y ∷ xs) → is_lt o && ascend_from (f y) (map f xs) ≡ false
      → (ascend_from (f y) (map f xs) ≡ false → fin.len (name_set (map f (y ∷ xs))) < length (y ∷ xs)) → fin.len (name_set (map f (x ∷ y ∷ xs))) < suc (length (y ∷ xs))
  shorter x y xs Less is h not before = rw (fin.len-insert nat_list_cmp_total (name_set (map f (y ∷ xs))) (f x) tt) (cond_lt _ _ _ (before not))
  shorter x y xs Equal is h not before =
      rw (fin.len-insert nat_list_cmp_total (name_set (map f (y ∷ xs))) (f x) tt, found (f x) (f y) (map f xs) is)
      (let le = len_le (map f (y ∷ xs)) in omega (arith, length-map xs f))
  shorter x y xs Greater is h not before = absurd (true≢false (ap is_lt (sym (nat_list_cmp_total.antisymm (f y) (f x) ∙ ap ordering_reverse is)) ∙ h 0 x (omega arith)))

  len_lt : (x : A) (xs : List A) → Rises (x ∷ xs) → ascend_from (f x) (map f xs) ≡ false → fin.len (name_set (map f (x ∷ xs))) < length (x ∷ xs)
  len_lt x [] h not = absurd (true≢false not)
  len_lt x (y ∷ xs) h not = shorter x y xs _ refl h not (len_lt y xs (tail_rises x (y ∷ xs) h))

  -- what sorting gives is what the set gives
  module _ (xs ys : List A) (p : IsPermutation xs ys) where
    same_different : different (map f xs) ≡ different (map f ys)
    same_different = different-IsPermutation (map f xs) (map f ys) (IsPermutation-map f xs ys p)

    pub sorted_differ : (length ys == 0) ≡ false → ascend (map f ys) ≡ true → different (map f xs) ≡ Some (map f ys)
    sorted_differ some h = same_different ∙ different_ascending (map f ys) h (ap (λ n. n == 0) (length-map ys f) ∙ some)

    pub none_differ : (length ys == 0) ≡ true → different (map f xs) ≡ None
    none_differ none = same_different ∙ different_empty (map f ys) (ap (λ n. n == 0) (length-map ys f) ∙ none)

    pub sorted_repeat : Rises ys → ascend (map f ys) ≡ false → different (map f xs) ≡ None
    sorted_repeat h not = same_different ∙ repeats ys h not
      where
        repeats : (zs : List A) → Rises zs → ascend (map f zs) ≡ false → different (map f zs) ≡ None
        repeats [] h not = absurd (true≢false not)
        repeats (z ∷ zs) h not = different_shorter (map f (z ∷ zs)) (subst (λ n. fin.len (name_set (map f (z ∷ zs))) < n) (sym (length-map (z ∷ zs) f)) (len_lt z zs h not))
