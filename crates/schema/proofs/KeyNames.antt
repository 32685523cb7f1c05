-- What doesn't depend on the order in which names are given, and what of key fields is said without it.
use Rattle.std.proofs.Common.{◌≡◌, ℕ, suc, ◌≤◌, ◌==◌, Bool, true, false, cond, not, ◌&&◌, ◌||◌, List, [], ◌∷◌, map, length, Ordering, Less, Equal, Greater, is_eq, nat_cmp, String, Global, string_bytes, refl, sym, ap, ap₂, subst, ◌∙◌, arith, true≢false}
use Rattle.std.specs.Cmp.{first_so, second_so}
use Rattle.std.specs.Cmp.Lexicographic.{slice_cmp}
use Rattle.std.specs.List.{AllByRecursion, list_any, list_all}
use Rattle.std.specs.FinMap.{nat_cmp-IsAntisymmetric, slice_cmp-IsAntisymmetric}
use Rattle.std.specs.Ordering.{is_gt, is_lt, ordering_reverse}
use Rattle.std.specs.Str.{bytes_eq}
use Rattle.std.proofs.lemmas.Bool.Decides.{nat_tests}
use Rattle.std.proofs.lemmas.Cmp.{nat_list_cmp_total}
use Rattle.std.proofs.lemmas.List.{length-map}
use Rattle.std.proofs.lemmas.Map.Text.{is_eq-slice_cmp}
use Rattle.fieldpath.specs.Elements.{Scalar, KeyFields}
use Rattle.fieldpath.specs.Scalars.{are_keys, ascend, ascend_from, key_fields, names}
use Rattle.fieldpath.specs.declared.scalar.Scalar as made
use Rattle.schema.specs.KeyFields.{fits_key}
use Rattle.schema.specs.KeyNames.{put_name, sorted, names_in}
use Rattle.schema.specs.Lawful.{is_some_name}
use Rattle.schema.specs.Place.{fits_some, fit_keys}
use Rattle.schema.specs.Shape.{Fields, shape_at}

abbrev Name : Type 0
Name = List ℕ

abbrev cmp : Name → Name → Ordering
cmp = slice_cmp nat_cmp

-- ---- functions that take names one by one, in any order

module _ {A : Type 0} (f : List Name → A) (g : Name → A → A)
    (one : (n : Name) (ns : List Name) → f (n ∷ ns) ≡ g n (f ns))
    (turned : (n m : Name) (x : A) → g n (g m x) ≡ g m (g n x)) where
  put_at : (n m : Name) (ms : List Name) → f (put_name n ms) ≡ g n (f ms) → (b : Bool) → f (cond b (m ∷ put_name n ms) (n ∷ m ∷ ms)) ≡ g n (f (m ∷ ms))
  put_at n m ms later true = one m (put_name n ms) ∙ ap (g m) later ∙ turned m n (f ms) ∙ ap (g n) (sym (one m ms))
  put_at n m ms later false = one n (m ∷ ms)

  pub put_anywhere : (n : Name) (ms : List Name) → f (put_name n ms) ≡ g n (f ms)
  put_anywhere n [] = one n []
  put_anywhere n (m ∷ ms) = put_at n m ms (put_anywhere n ms) (is_lt (cmp m n))

  pub in_any_order : (ns : List Name) → f (sorted ns) ≡ f ns
  in_any_order [] = refl
  in_any_order (n ∷ ns) = put_anywhere n (sorted ns) ∙ ap (g n) (in_any_order ns) ∙ sym (one n ns)

or_turned : (a b c : Bool) → a || (b || c) ≡ b || (a || c)
or_turned true true c = refl
or_turned true false c = refl
or_turned false b c = refl

pub and_turned : (a b c : Bool) → a && (b && c) ≡ b && (a && c)
and_turned true b c = refl
and_turned false true c = refl
and_turned false false c = refl

pub list_any-sorted : (p : Name → Bool) (ns : List Name) → list_any p (sorted ns) ≡ list_any p ns
list_any-sorted p ns = in_any_order (list_any p) (λ n b. p n || b) (λ n ns. refl) (λ n m b. or_turned (p n) (p m) b) ns

pub list_all-sorted : (p : Name → Bool) (ns : List Name) → list_all p (sorted ns) ≡ list_all p ns
list_all-sorted p ns = in_any_order (list_all p) (λ n b. p n && b) (λ n ns. refl) (λ n m b. and_turned (p n) (p m) b) ns

pub length-sorted : (ns : List Name) → length (sorted ns) ≡ length ns
length-sorted ns = in_any_order length (λ n k. suc k) (λ n ns. refl) (λ n m k. refl) ns

is_some_name-sorted : (ns : List Name) → is_some_name (sorted ns) ≡ is_some_name ns
is_some_name-sorted ns = in_any_order is_some_name (λ n b. true) (λ n ns. refl) (λ n m b. refl) ns

pub some_named : (ns : List (String Global)) → (length ns == 0) ≡ false → is_some_name (names_in ns) ≡ true
some_named [] h = absurd (true≢false h)
some_named (n ∷ ns) h = is_some_name-sorted (map string_bytes (n ∷ ns))

-- ---- the order of names

pub NotAbove : Name → Name → Type 0
NotAbove n m = is_gt (cmp n m) ≡ false

backwards : (n m : Name) (o : Ordering) → cmp m n ≡ o → cmp n m ≡ ordering_reverse o
backwards n m o is = nat_list_cmp_total.antisymm n m ∙ ap ordering_reverse is

same_at : (n m : Name) → cmp n m ≡ Equal → n ≡ m
same_at n m is = slice_cmp-IsAntisymmetric nat_cmp-IsAntisymmetric n m is

unlike : (n m : Name) (o : Ordering) → cmp n m ≡ o → is_eq o ≡ false → bytes_eq n m ≡ false
unlike n m o is apart = sym (is_eq-slice_cmp n m) ∙ ap is_eq is ∙ apart

alike : (n m : Name) → cmp n m ≡ Equal → bytes_eq n m ≡ true
alike n m is = sym (is_eq-slice_cmp n m) ∙ ap is_eq is

is_less : (o : Ordering) → is_lt o ≡ true → o ≡ Less
is_less Less h = refl
is_less Equal h = absurd (true≢false (sym h))
is_less Greater h = absurd (true≢false (sym h))

-- what is below the first is below what stands behind it
further : (x y z : Name) → cmp x y ≡ Less → NotAbove y z → cmp x z ≡ Less
unfolding NotAbove
further x y z lt h = by_order (cmp y z) refl h
  where
    by_order : (o : Ordering) → cmp y z ≡ o → is_gt o ≡ false → cmp x z ≡ Less
    by_order Less is h = nat_list_cmp_total.trans x y z lt is
    by_order Equal is h = ap (cmp x) (sym (same_at y z is)) ∙ lt
    by_order Greater is h = absurd (true≢false h)

not_above : (x y z : Name) → NotAbove x y → NotAbove y z → NotAbove x z
unfolding NotAbove
not_above x y z h k = by_order (cmp x y) refl h
  where
    by_order : (o : Ordering) → cmp x y ≡ o → is_gt o ≡ false → is_gt (cmp x z) ≡ false
    by_order Less is h = ap is_gt (further x y z is k)
    by_order Equal is h = ap (λ n. is_gt (cmp n z)) (same_at x y is) ∙ k
    by_order Greater is h = absurd (true≢false h)

-- a test of `put_name`
before : (n m : Name) → is_lt (cmp m n) ≡ true → NotAbove m n
unfolding NotAbove
before n m h = ap is_gt (is_less (cmp m n) h)

not_before : (n m : Name) → is_lt (cmp m n) ≡ false → NotAbove n m
unfolding NotAbove
not_before n m h = by_order (cmp m n) refl h
  where
    by_order : (o : Ordering) → cmp m n ≡ o → is_lt o ≡ false → is_gt (cmp n m) ≡ false
    by_order Less is h = absurd (true≢false h)
    by_order Equal is h = ap is_gt (backwards n m Equal is)
    by_order Greater is h = ap is_gt (backwards n m Greater is)

-- ---- sorted names

-- none is above one that stands behind it
abbrev pub Rises : List Name → Type 0
Rises [] = Unit {0}
Rises (n ∷ ns) = AllByRecursion (λ m. NotAbove n m) ns × Rises ns

all_put : (P : Name → Type 0) (n : Name) (ms : List Name) → P n → AllByRecursion P ms → AllByRecursion P (put_name n ms)
all_put P n [] h hs = (h, tt)
all_put P n (m ∷ ms) h hs = by_test (all_put P n ms h hs.1) (is_lt (cmp m n))
  where
    by_test : AllByRecursion P (put_name n ms) → (b : Bool) → AllByRecursion P (cond b (m ∷ put_name n ms) (n ∷ m ∷ ms))
    by_test later true = (hs.0, later)
    by_test later false = (h, hs)

all_further : (n m : Name) (ms : List Name) → NotAbove n m → AllByRecursion (λ k. NotAbove m k) ms → AllByRecursion (λ k. NotAbove n k) ms
all_further n m [] h hs = tt
all_further n m (k ∷ ks) h hs = (not_above n m k h hs.0, all_further n m ks h hs.1)

put_rises : (n : Name) (ms : List Name) → Rises ms → Rises (put_name n ms)
put_rises n [] h = (tt, tt)
put_rises n (m ∷ ms) h = by_test (put_rises n ms h.1) (is_lt (cmp m n)) refl
  where
    by_test : Rises (put_name n ms) → (b : Bool) → is_lt (cmp m n) ≡ b → Rises (cond b (m ∷ put_name n ms) (n ∷ m ∷ ms))
    by_test later true is = (all_put (λ k. NotAbove m k) n ms (before n m is) h.0, later)
    by_test later false is = ((not_before n m is, all_further n m ms (not_before n m is) h.0), h)

pub sorted_rises : (ns : List Name) → Rises (sorted ns)
sorted_rises [] = tt
sorted_rises (n ∷ ns) = put_rises n (sorted ns) (sorted_rises ns)

-- what is below the first is none of them
none_alike : (n : Name) (ms : List Name) → AllByRecursion (λ m. cmp n m ≡ Less) ms → list_any (bytes_eq n) ms ≡ false
none_alike n [] h = refl
none_alike n (m ∷ ms) h = ap₂ (λ a b. a || b) (unlike n m Less h.0 refl) (none_alike n ms h.1)

below_all : (n m : Name) (ms : List Name) → cmp n m ≡ Less → AllByRecursion (λ k. NotAbove m k) ms → AllByRecursion (λ k. cmp n k ≡ Less) ms
below_all n m [] lt h = tt
below_all n m (k ∷ ks) lt h = (further n m k lt h.0, below_all n m ks lt h.1)

-- ---- sorted names ascend exactly where they differ

-- a name in front of those that it isn't above
prefix_ascends : (n m : Name) (ms : List Name) → NotAbove n m → AllByRecursion (λ k. NotAbove m k) ms → ascend_from n (m ∷ ms) ≡ not (bytes_eq n m || list_any (bytes_eq n) ms) && ascend_from m ms
unfolding NotAbove
prefix_ascends n m ms h hs = by_order (cmp n m) refl h
  where
    by_order : (o : Ordering) → cmp n m ≡ o → is_gt o ≡ false → is_lt (cmp n m) && ascend_from m ms ≡ not (bytes_eq n m || list_any (bytes_eq n) ms) && ascend_from m ms
    by_order Less is h =
        ap (λ o. is_lt o && ascend_from m ms) is
        ∙ sym (ap₂ (λ a b. not (a || b) && ascend_from m ms) (unlike n m Less is refl) (none_alike n ms (below_all n m ms is hs)))
    by_order Equal is h = ap (λ o. is_lt o && ascend_from m ms) is ∙ sym (ap (λ a. not (a || list_any (bytes_eq n) ms) && ascend_from m ms) (alike n m is))
    by_order Greater is h = absurd (true≢false h)

put_ascends : (n m : Name) (ms : List Name) → is_lt (cmp m n) ≡ true → AllByRecursion (λ k. NotAbove m k) ms → Rises ms
    → ascend_from m (put_name n ms) ≡ not (list_any (bytes_eq n) ms) && ascend_from m ms
put_ascends n m [] lt hs h = ap (λ b. b && true) lt
put_ascends n m (k ∷ ks) lt hs h = by_test (λ lower. put_ascends n k ks lower h.0 h.1) (is_lt (cmp k n)) refl
  where
    by_test : (is_lt (cmp k n) ≡ true → ascend_from k (put_name n ks) ≡ not (list_any (bytes_eq n) ks) && ascend_from k ks) → (b : Bool) → is_lt (cmp k n) ≡ b
        → ascend_from m (cond b (k ∷ put_name n ks) (n ∷ k ∷ ks)) ≡ not (bytes_eq n k || list_any (bytes_eq n) ks) && (is_lt (cmp m k) && ascend_from k ks)
    by_test later true is =
        ap (λ b. is_lt (cmp m k) && b) (later is) ∙ and_turned (is_lt (cmp m k)) (not (list_any (bytes_eq n) ks)) (ascend_from k ks)
        ∙ sym (ap (λ b. not (b || list_any (bytes_eq n) ks) && (is_lt (cmp m k) && ascend_from k ks)) (unlike n k Greater (backwards n k Less (is_less (cmp k n) is)) refl))
    by_test later false is =
        ap (λ b. b && ascend_from n (k ∷ ks)) lt ∙ prefix_ascends n k ks (not_before n k is) h.0
        ∙ sym (ap (λ o. not (bytes_eq n k || list_any (bytes_eq n) ks) && (is_lt o && ascend_from k ks)) (further m n k (is_less (cmp m n) lt) (not_before n k is)))

one_ascends : (n : Name) (ms : List Name) → Rises ms → ascend (put_name n ms) ≡ not (list_any (bytes_eq n) ms) && ascend ms
one_ascends n [] h = refl
one_ascends n (m ∷ ms) h = by_test (is_lt (cmp m n)) refl
  where
    by_test : (b : Bool) → is_lt (cmp m n) ≡ b → ascend (cond b (m ∷ put_name n ms) (n ∷ m ∷ ms)) ≡ not (bytes_eq n m || list_any (bytes_eq n) ms) && ascend_from m ms
    by_test true is =
        put_ascends n m ms is h.0 h.1
        ∙ sym (ap (λ b. not (b || list_any (bytes_eq n) ms) && ascend_from m ms) (unlike n m Greater (backwards n m Less (is_less (cmp m n) is)) refl))
    by_test false is = prefix_ascends n m ms (not_before n m is) h.0

pub differ_by : (all : List (String Global)) (name : String Global) (rest : List (String Global)) (b : Bool) → all ≡ name ∷ rest → list_any (bytes_eq (string_bytes name)) (names_in rest) ≡ b
    → ascend (names_in all) ≡ not b && ascend (names_in rest)
differ_by all name rest b is named =
    ap (λ ns. ascend (names_in ns)) is ∙ one_ascends (string_bytes name) (names_in rest) (sorted_rises (map string_bytes rest)) ∙ ap (λ t. not t && ascend (names_in rest)) named

-- names that ascend are sorted
put_first : (n : Name) (ns : List Name) → ascend_from n ns ≡ true → put_name n ns ≡ n ∷ ns
put_first n [] h = refl
put_first n (m ∷ ms) h = ap (λ b. cond b (m ∷ put_name n ms) (n ∷ m ∷ ms)) (ap is_lt (backwards m n Less (is_less (cmp n m) (first_so (is_lt (cmp n m)) (ascend_from m ms) h))))

rest_ascends : (n : Name) (ns : List Name) → ascend_from n ns ≡ true → ascend ns ≡ true
rest_ascends n [] h = refl
rest_ascends n (m ∷ ms) h = second_so (is_lt (cmp n m)) (ascend_from m ms) h

pub sorted_already : (ns : List Name) → ascend ns ≡ true → sorted ns ≡ ns
sorted_already [] h = refl
sorted_already (n ∷ ns) h = ap (put_name n) (sorted_already ns (rest_ascends n ns h)) ∙ put_first n ns h

-- ---- key fields that are just those named

abbrev KeyField : Type 0
KeyField = Name × Scalar

-- each above the one before it
abbrev AreRising : KeyFields → Type 0
AreRising [] = Unit {0}
AreRising (k ∷ ks) = AllByRecursion (λ l. cmp k.0 l.0 ≡ Less) ks × AreRising ks

above_too : (n m : Name) (ks : KeyFields) → cmp n m ≡ Less → AllByRecursion (λ l. cmp m l.0 ≡ Less) ks → AllByRecursion (λ l. cmp n l.0 ≡ Less) ks
above_too n m [] lt h = tt
above_too n m (k ∷ ks) lt h = (nat_list_cmp_total.trans n m k.0 lt h.0, above_too n m ks lt h.1)

rising_from : (k : KeyField) (ks : KeyFields) → ascend_from k.0 (names ks) ≡ true → AreRising (k ∷ ks)
rising_from k [] h = (tt, tt)
rising_from k (l ∷ ks) h =
    let lt = is_less (cmp k.0 l.0) (first_so (is_lt (cmp k.0 l.0)) (ascend_from l.0 (names ks)) h) in
    let later = rising_from l ks (second_so (is_lt (cmp k.0 l.0)) (ascend_from l.0 (names ks)) h) in
    ((lt, above_too k.0 l.0 ks lt later.0), later)

rising : (ks : KeyFields) → ascend (names ks) ≡ true → AreRising ks
rising [] h = tt
rising (k ∷ ks) h = rising_from k ks h

module _ (all : Fields) where
  -- a name below all of them makes no difference
  skipped : (n : Name) (ns : List Name) (ks : KeyFields) → AllByRecursion (λ l. cmp n l.0 ≡ Less) ks → list_all (fits_key (n ∷ ns) all) ks ≡ list_all (fits_key ns all) ks
  skipped n ns [] h = refl
  skipped n ns (k ∷ ks) h =
      ap₂ (λ a b. ((a || list_any (bytes_eq k.0) ns) && fits_some (shape_at k.0 all) k.1) && b) (unlike k.0 n Greater (backwards k.0 n Less h.0) refl) (skipped n ns ks h.1)

  -- a field below the first name is none of those named
  unnamed : (n : Name) (ns : List Name) (k : KeyField) (ks : KeyFields) → cmp n k.0 ≡ Greater → AllByRecursion (λ m. NotAbove n m) ns → list_all (fits_key (n ∷ ns) all) (k ∷ ks) ≡ false
  unnamed n ns k ks gt h =
      let lt = backwards k.0 n Greater gt in
      ap₂ (λ a b. ((a || b) && fits_some (shape_at k.0 all) k.1) && list_all (fits_key (n ∷ ns) all) ks) (unlike k.0 n Less lt refl) (none_alike k.0 ns (below_all k.0 n ns lt h))

  -- there are no more of them than names
  few : (ns : List Name) (ks : KeyFields) → Rises ns → AreRising ks → list_all (fits_key ns all) ks ≡ true → length ks ≤ length ns
  few ns [] h r fit = omega arith
  few [] (k ∷ ks) h r fit = absurd (true≢false (sym fit))
  few (n ∷ ns) (k ∷ ks) h r fit = by_order (λ ls s f. few ns ls h.1 s f) (cmp n k.0) refl
    where
      by_order : ((ls : KeyFields) → AreRising ls → list_all (fits_key ns all) ls ≡ true → length ls ≤ length ns) → (o : Ordering) → cmp n k.0 ≡ o → suc (length ks) ≤ suc (length ns)
      by_order later Less is = let most = later (k ∷ ks) r (sym (skipped n ns (k ∷ ks) (is, above_too n k.0 ks is r.0)) ∙ fit) in omega arith
      by_order later Equal is =
          let above : AllByRecursion (λ l. cmp n l.0 ≡ Less) ks = subst (λ m. AllByRecursion (λ l. cmp m l.0 ≡ Less) ks) (sym (same_at n k.0 is)) r.0 in
          let most = later ks r.1 (sym (skipped n ns ks above) ∙ second_so (fits_key (n ∷ ns) all k) (list_all (fits_key (n ∷ ns) all) ks) fit) in omega arith
      by_order later Greater is = absurd (true≢false (sym fit ∙ unnamed n ns k ks is h.0))

  and_false : (b : Bool) → b && false ≡ false
  and_false true = refl
  and_false false = refl

  fewer : (i j : ℕ) → suc i ≤ j → (i == j) ≡ false
  fewer i j h = grind (arith, nat_tests)

  too_many : (i j : ℕ) (b : Bool) → (b ≡ true → suc i ≤ j) → (i == j) && b ≡ false
  too_many i j true h = ap (λ t. t && true) (fewer i j (h refl))
  too_many i j false h = and_false (i == j)

  one_more : (i j : ℕ) → (suc i == suc j) ≡ (i == j)
  one_more i j = grind (arith, nat_tests)

  -- just those named, each of its field's type
  fit_in_any_order : (ns : List Name) (ks : KeyFields) → Rises ns → AreRising ks → fit_keys ns all ks ≡ (length ks == length ns) && list_all (fits_key ns all) ks
  fit_in_any_order [] [] h r = refl
  fit_in_any_order [] (k ∷ ks) h r = sym (and_false (length (k ∷ ks) == 0))
  fit_in_any_order (n ∷ ns) [] h r = sym (ap (λ b. b && true) (fewer 0 (length (n ∷ ns)) (omega arith)))
  fit_in_any_order (n ∷ ns) (k ∷ ks) h r =
      by_order (fit_in_any_order ns ks h.1 r.1) (cmp n k.0) refl ∙ ap (λ b. b && list_all (fits_key (n ∷ ns) all) (k ∷ ks)) (sym (one_more (length ks) (length ns)))
    where
      named : fit_keys ns all ks ≡ (length ks == length ns) && list_all (fits_key ns all) ks → cmp n k.0 ≡ Equal → (m : Name) → n ≡ m → AllByRecursion (λ l. cmp m l.0 ≡ Less) ks
          → fits_some (shape_at n all) k.1 && fit_keys ns all ks ≡ (length ks == length ns) && (fits_some (shape_at m all) k.1 && list_all (fits_key (n ∷ ns) all) ks)
      named later is m same above =
          ap₂ (λ p b. fits_some (shape_at p all) k.1 && b) same (later ∙ ap (λ b. (length ks == length ns) && b) (sym (skipped n ns ks (subst (λ p. AllByRecursion (λ l. cmp p l.0 ≡ Less) ks) (sym same) above))))
          ∙ and_turned (fits_some (shape_at m all) k.1) (length ks == length ns) (list_all (fits_key (n ∷ ns) all) ks)

      by_order : fit_keys ns all ks ≡ (length ks == length ns) && list_all (fits_key ns all) ks → (o : Ordering) → cmp n k.0 ≡ o
          → (bytes_eq n k.0 && fits_some (shape_at n all) k.1) && fit_keys ns all ks ≡ (length ks == length ns) && list_all (fits_key (n ∷ ns) all) (k ∷ ks)
      by_order later Less is =
          ap (λ b. (b && fits_some (shape_at n all) k.1) && fit_keys ns all ks) (unlike n k.0 Less is refl)
          ∙ sym (too_many (length ks) (length ns) (list_all (fits_key (n ∷ ns) all) (k ∷ ks)) (λ fit. few ns (k ∷ ks) h.1 r (sym (skipped n ns (k ∷ ks) (is, above_too n k.0 ks is r.0)) ∙ fit)))
      by_order later Equal is =
          ap (λ b. (b && fits_some (shape_at n all) k.1) && fit_keys ns all ks) (alike n k.0 is) ∙ named later is k.0 (same_at n k.0 is) r.0
          ∙ sym (ap (λ b. (length ks == length ns) && (((b || list_any (bytes_eq k.0) ns) && fits_some (shape_at k.0 all) k.1) && list_all (fits_key (n ∷ ns) all) ks)) (alike k.0 n (backwards k.0 n Equal is)))
      by_order later Greater is =
          ap (λ b. (b && fits_some (shape_at n all) k.1) && fit_keys ns all ks) (unlike n k.0 Greater is refl)
          ∙ sym (ap (λ b. (length ks == length ns) && b) (unnamed n ns k ks is h.0) ∙ and_false (length ks == length ns))

key_fields_count : (fs : List (String Global × made.Scalar)) → length (key_fields fs) ≡ length fs
key_fields_count [] = refl
key_fields_count (f ∷ fs) = ap suc (key_fields_count fs)

keys_ascend : (ks : KeyFields) → are_keys ks ≡ true → ascend (names ks) ≡ true
keys_ascend [] h = refl
keys_ascend (k ∷ ks) h = h

pub fit_sorted : (all : Fields) (ns : List (String Global)) (fs : List (String Global × made.Scalar)) (ks : KeyFields) → key_fields fs ≡ ks → are_keys ks ≡ true
    → fit_keys (names_in ns) all ks ≡ (length fs == length ns) && list_all (fits_key (names_in ns) all) (key_fields fs)
fit_sorted all ns fs ks is h =
    fit_in_any_order all (names_in ns) ks (sorted_rises (map string_bytes ns)) (rising ks (keys_ascend ks h))
    ∙ ap₂ (λ i j. (i == j) && list_all (fits_key (names_in ns) all) ks) (ap length (sym is) ∙ key_fields_count fs) (length-sorted (map string_bytes ns) ∙ length-map ns string_bytes)
    ∙ ap (λ ls. (length fs == length ns) && list_all (fits_key (names_in ns) all) ls) (sym is)

pub as_many : (i j : ℕ) (b : Bool) → i ≡ j → (i == j) && b ≡ b
as_many i j b h = ap (λ t. t && b) (let h : (i == j) ≡ true = grind (arith, nat_tests) in h)

pub not_as_many : (i j : ℕ) (b : Bool) → (i ≡ j → ⊥) → (i == j) && b ≡ (i == j)
not_as_many i j b h = let apart : (i == j) ≡ false = grind (arith, nat_tests) in ap (λ t. t && b) apart ∙ sym apart
