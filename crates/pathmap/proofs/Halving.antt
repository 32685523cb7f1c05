-- Where a name stands among names that rise.
use Rattle.std.proofs.Common.{◌≡◌, ℕ, zero, suc, ◌+◌, ◌<◌, ◌≤◌, ◌⊎◌, inl, inr, arith, Bool, true, false, cond, is_eq, is_lt, nat_cmp, get_or, List, [], ◌∷◌, map, length, Some, None, String, Global, string_bytes, refl, sym, ap, subst, ◌∙◌, Ordering, Less, Equal, Greater, true≢false}
use Rattle.std.specs.Cmp.{tied_itself}
use Rattle.std.specs.Cmp.Lexicographic.{slice_cmp}
use Rattle.std.specs.List.{AllWithin}
use Rattle.std.specs.List.Sorted.{IsPartitionedBy, IsPartitionPoint}
use Rattle.std.specs.Ordering.{ordering_reverse}
use Rattle.std.specs.Str.{bytes_eq}
use Rattle.std.proofs.lemmas.Bool.{cases_lt}
use Rattle.std.proofs.lemmas.Cmp.{nat_list_cmp_total}
use Rattle.std.proofs.lemmas.Map.Keys.{sorted_head, sorted_tail}
use Rattle.std.proofs.lemmas.Slice.Eq.{bytes_eq-Decides}
use Rattle.pathmap.specs.Contents.{Content}
use Rattle.pathmap.specs.Cuts.{index_from}
use Rattle.pathmap.specs.Levels.{IsRising}
use Rattle.pathmap.specs.Maps.{contents_in}
use Rattle.pathmap.specs.Merged.{prefix_of}
use Rattle.pathmap.proofs.Merging.{Above, after_all, equal_is, less_is}

abbrev Named : Type 0
Named = List (List ℕ × Content)

abbrev cmp : List ℕ → List ℕ → Ordering
cmp = slice_cmp nat_cmp

-- whether this one is before the name
abbrev pub less : List ℕ → String Global × Content → Bool
less f x = is_lt (cmp (string_bytes x.0) f)

-- one of the names that are above this one
above_at : (g : List ℕ) (xs : List (String Global × Content)) (i : ℕ) (d : String Global × Content) → Above g (contents_in xs) → i < length xs → cmp g (string_bytes (get_or xs i d).0) ≡ Less
above_at g [] i d above lt = absurd (omega (arith, lt))
above_at g (x ∷ xs) zero d above lt = above.0
above_at g (x ∷ xs) (suc i) d above lt = above_at g xs i d above.1 (omega (arith, lt))

-- a name below this one, and all before it
pub before : (f : List ℕ) (xs : List (String Global × Content)) (i : ℕ) (d : String Global × Content) → IsRising (contents_in xs) → i < length xs → less f (get_or xs i d) ≡ true → i < length (prefix_of f (contents_in xs))
before f [] i d rises lt is = absurd (omega (arith, lt))
before f (x ∷ xs) zero d rises lt is = subst (λ b. 0 < length (cond b ((string_bytes x.0, x.1) ∷ prefix_of f (contents_in xs)) [])) (sym is) (omega arith)
before f (x ∷ xs) (suc i) d rises lt is =
    let name = string_bytes (get_or xs i d).0 in
    let later = before f xs i d (sorted_tail cmp (string_bytes x.0) (map (λ c. c.0) (contents_in xs)) rises) (omega (arith, lt)) is in
    let this = nat_list_cmp_total.trans (string_bytes x.0) name f (above_at (string_bytes x.0) xs i d (sorted_head cmp (string_bytes x.0) (map (λ c. c.0) (contents_in xs)) rises) (omega (arith, lt))) (less_is (cmp name f) is) in
    subst (λ b. suc i < length (cond b ((string_bytes x.0, x.1) ∷ prefix_of f (contents_in xs)) [])) (sym (ap is_lt this)) (omega (arith, later))

-- a name that is not below this one
behind : (f : List ℕ) (xs : List (String Global × Content)) (i : ℕ) (d : String Global × Content) → i < length xs → less f (get_or xs i d) ≡ false → length (prefix_of f (contents_in xs)) ≤ i
behind f [] i d lt is = absurd (omega (arith, lt))
behind f (x ∷ xs) zero d lt is = subst (λ b. length (cond b ((string_bytes x.0, x.1) ∷ prefix_of f (contents_in xs)) []) ≤ 0) (sym is) (omega arith)
behind f (x ∷ xs) (suc i) d lt is = by_test (behind f xs i d (omega (arith, lt)) is) (less f x)
  where
    by_test : length (prefix_of f (contents_in xs)) ≤ i → (b : Bool) → length (cond b ((string_bytes x.0, x.1) ∷ prefix_of f (contents_in xs)) []) ≤ suc i
    by_test later true = omega (arith, later)
    by_test later false = omega arith

-- one of the prefix
in_prefix : (f : List ℕ) (xs : List (String Global × Content)) (i : ℕ) (d : String Global × Content) → i < length (prefix_of f (contents_in xs)) → less f (get_or xs i d) ≡ true
in_prefix f [] i d lt = absurd (omega (arith, lt))
in_prefix f (x ∷ xs) zero d lt = by_test (less f x) refl lt
  where
    by_test : (b : Bool) → less f x ≡ b → 0 < length (cond b ((string_bytes x.0, x.1) ∷ prefix_of f (contents_in xs)) []) → less f x ≡ true
    by_test true is lt = is
    by_test false is lt = absurd (omega (arith, lt))
in_prefix f (x ∷ xs) (suc i) d lt = in_prefix f xs i d (later (less f x) lt)
  where
    later : (b : Bool) → suc i < length (cond b ((string_bytes x.0, x.1) ∷ prefix_of f (contents_in xs)) []) → i < length (prefix_of f (contents_in xs))
    later true lt = omega (arith, lt)
    later false lt = absurd (omega (arith, lt))

-- names that rise: first those below this one, then the others
pub parted : (f : List ℕ) (xs : List (String Global × Content)) → IsRising (contents_in xs) → IsPartitionedBy (less f) xs
parted f xs rises = λ i j d le lt is.
    let far = before f xs j d rises lt is in
    in_prefix f xs i d (omega (arith, le, far))

pub prefix_within : (f : List ℕ) (xs : List (String Global × Content)) → length (prefix_of f (contents_in xs)) ≤ length xs
prefix_within f [] = omega arith
prefix_within f (x ∷ xs) = by_test (prefix_within f xs) (is_lt (cmp (string_bytes x.0) f))
  where
    by_test : length (prefix_of f (contents_in xs)) ≤ length xs → (b : Bool) → length (cond b ((string_bytes x.0, x.1) ∷ prefix_of f (contents_in xs)) []) ≤ suc (length xs)
    by_test later true = omega (arith, later)
    by_test later false = omega arith

-- where the others begin
pub point_is : (f : List ℕ) (xs : List (String Global × Content)) (n : ℕ) → IsRising (contents_in xs) → n ≤ length xs → IsPartitionPoint (λ x. less f x ≡ true) (λ x. less f x ≡ false) xs n → n ≡ length (prefix_of f (contents_in xs))
point_is f [] n rises le point = omega (arith, le)
point_is f (x ∷ xs) n rises le point =
    let low = at_least n le point.0 in
    let high = at_most (cases_lt n (length (x ∷ xs))) in
    omega (arith, low, high)
  where
    at_least : (n : ℕ) → n ≤ length (x ∷ xs) → AllWithin (λ y. less f y ≡ true) (x ∷ xs) 0 n → n ≤ length (prefix_of f (contents_in (x ∷ xs)))
    at_least zero le all = omega arith
    at_least (suc m) le all = let far = before f (x ∷ xs) m x rises (omega (arith, le)) (all m x (omega arith) (omega arith)) in omega (arith, far)

    at_most : (n < length (x ∷ xs)) ⊎ (length (x ∷ xs) ≤ n) → length (prefix_of f (contents_in (x ∷ xs))) ≤ n
    at_most (inl lt) = behind f (x ∷ xs) n x lt (point.1 n x (omega arith) lt)
    at_most (inr ge) = let most = prefix_within f (x ∷ xs) in omega (arith, most, ge)

-- ---- whether the one at that place has the name

unlike : (f g : List ℕ) → is_eq (cmp f g) ≡ false → (b : Bool) → bytes_eq f g ≡ b → b ≡ false
unlike f g other false is = refl
unlike f g other true is = absurd (true≢false (ap is_eq (sym (tied_itself nat_list_cmp_total f) ∙ ap (cmp f) ((bytes_eq-Decides f g).0 is)) ∙ other))

none_above : (k : ℕ) (f : List ℕ) (cs : Named) → Above f cs → index_from k f cs ≡ None
none_above k f [] above = refl
none_above k f (c ∷ cs) above =
    ap (λ b. cond b (Some k) (index_from (k + 1) f cs)) (unlike c.0 f (ap is_eq (nat_list_cmp_total.antisymm c.0 f ∙ ap ordering_reverse above.0)) (bytes_eq c.0 f) refl) ∙ none_above (k + 1) f cs above.1

-- the name at that place decides
pub at_prefix : (k : ℕ) (f : List ℕ) (xs : List (String Global × Content)) (n : ℕ) (e : String Global × Content) → IsRising (contents_in xs) → n ≡ length (prefix_of f (contents_in xs)) → n < length xs → e ≡ get_or xs n e
    → index_from k f (contents_in xs) ≡ cond (bytes_eq (string_bytes e.0) f) (Some (k + n)) None
at_prefix k f [] n e rises at lt is = absurd (omega (arith, lt))
at_prefix k f (x ∷ xs) n e rises at lt is =
    by_order (λ m. at_prefix (k + 1) f xs m e (sorted_tail cmp (string_bytes x.0) (map (λ c. c.0) (contents_in xs)) rises)) (cmp (string_bytes x.0) f) refl
  where
    rest : Above (string_bytes x.0) (contents_in xs)
    rest = sorted_head cmp (string_bytes x.0) (map (λ c. c.0) (contents_in xs)) rises

    first : (b : Bool) → is_lt (cmp (string_bytes x.0) f) ≡ false → bytes_eq (string_bytes x.0) f ≡ b → (cond b (Some k) (index_from (k + 1) f (contents_in xs)) ≡ cond b (Some k) None)
        → cond (bytes_eq (string_bytes x.0) f) (Some k) (index_from (k + 1) f (contents_in xs)) ≡ cond (bytes_eq (string_bytes e.0) f) (Some (k + n)) None
    first b not_less is_b done = at_none n (at ∙ ap (λ t. length (cond t ((string_bytes x.0, x.1) ∷ prefix_of f (contents_in xs)) [])) not_less) is
      where
        at_none : (n : ℕ) → n ≡ 0 → e ≡ get_or (x ∷ xs) n e → cond (bytes_eq (string_bytes x.0) f) (Some k) (index_from (k + 1) f (contents_in xs)) ≡ cond (bytes_eq (string_bytes e.0) f) (Some (k + n)) None
        at_none zero z here =
            ap (λ t. cond t (Some k) (index_from (k + 1) f (contents_in xs))) is_b ∙ done ∙ ap (λ m. cond b (Some m) None) from_none ∙ sym (ap (λ y. cond (bytes_eq (string_bytes y.0) f) (Some (k + 0)) None) here ∙ ap (λ t. cond t (Some (k + 0)) None) is_b)
          where
            from_none : k ≡ k + 0
            from_none = omega arith
        at_none (suc m) z here = absurd (omega (arith, z))

    by_order : ((m : ℕ) → m ≡ length (prefix_of f (contents_in xs)) → m < length xs → e ≡ get_or xs m e → index_from (k + 1) f (contents_in xs) ≡ cond (bytes_eq (string_bytes e.0) f) (Some (k + 1 + m)) None)
        → (o : Ordering) → cmp (string_bytes x.0) f ≡ o → cond (bytes_eq (string_bytes x.0) f) (Some k) (index_from (k + 1) f (contents_in xs)) ≡ cond (bytes_eq (string_bytes e.0) f) (Some (k + n)) None
    by_order more_of Less less = later n (at ∙ ap (λ t. length (cond t ((string_bytes x.0, x.1) ∷ prefix_of f (contents_in xs)) [])) (ap is_lt less)) lt is
      where
        later : (n : ℕ) → n ≡ suc (length (prefix_of f (contents_in xs))) → n < suc (length xs) → e ≡ get_or (x ∷ xs) n e
            → cond (bytes_eq (string_bytes x.0) f) (Some k) (index_from (k + 1) f (contents_in xs)) ≡ cond (bytes_eq (string_bytes e.0) f) (Some (k + n)) None
        later zero is_n lt_n here = absurd (omega (arith, is_n))
        later (suc m) is_n lt_n here =
            ap (λ t. cond t (Some k) (index_from (k + 1) f (contents_in xs))) (unlike (string_bytes x.0) f (ap is_eq less) (bytes_eq (string_bytes x.0) f) refl)
            ∙ more_of m (omega (arith, is_n)) (omega (arith, lt_n)) here
            ∙ ap (λ j. cond (bytes_eq (string_bytes e.0) f) (Some j) None) further
          where
            further : k + 1 + m ≡ k + suc m
            further = omega arith
    by_order more_of Equal tied = first true (ap is_lt tied) (equal_is (string_bytes x.0) f tied) refl
    by_order more_of Greater more =
        first false (ap is_lt more) (unlike (string_bytes x.0) f (ap is_eq more) (bytes_eq (string_bytes x.0) f) refl)
        (none_above (k + 1) f (contents_in xs) (after_all f (string_bytes x.0) (contents_in xs) (nat_list_cmp_total.antisymm f (string_bytes x.0) ∙ ap ordering_reverse more) rest))

-- behind all
pub past_prefix : (k : ℕ) (f : List ℕ) (xs : List (String Global × Content)) → IsRising (contents_in xs) → length xs ≤ length (prefix_of f (contents_in xs)) → index_from k f (contents_in xs) ≡ None
past_prefix k f [] rises past = refl
past_prefix k f (x ∷ xs) rises past = by_order (past_prefix (k + 1) f xs (sorted_tail cmp (string_bytes x.0) (map (λ c. c.0) (contents_in xs)) rises)) (cmp (string_bytes x.0) f) refl past
  where
    by_order : (length xs ≤ length (prefix_of f (contents_in xs)) → index_from (k + 1) f (contents_in xs) ≡ None) → (o : Ordering) → cmp (string_bytes x.0) f ≡ o → suc (length xs) ≤ length (cond (is_lt (cmp (string_bytes x.0) f)) ((string_bytes x.0, x.1) ∷ prefix_of f (contents_in xs)) [])
        → cond (bytes_eq (string_bytes x.0) f) (Some k) (index_from (k + 1) f (contents_in xs)) ≡ None
    by_order later Less less long =
        let more = subst (λ o. suc (length xs) ≤ length (cond (is_lt o) ((string_bytes x.0, x.1) ∷ prefix_of f (contents_in xs)) [])) less long in
        ap (λ t. cond t (Some k) (index_from (k + 1) f (contents_in xs))) (unlike (string_bytes x.0) f (ap is_eq less) (bytes_eq (string_bytes x.0) f) refl)
        ∙ later (omega (arith, more))
    by_order later Equal tied long = let none = subst (λ o. suc (length xs) ≤ length (cond (is_lt o) ((string_bytes x.0, x.1) ∷ prefix_of f (contents_in xs)) [])) tied long in absurd (omega (arith, none))
    by_order later Greater above long = let none = subst (λ o. suc (length xs) ≤ length (cond (is_lt o) ((string_bytes x.0, x.1) ∷ prefix_of f (contents_in xs)) [])) above long in absurd (omega (arith, none))

-- what both calls say of a list that three names stand for
pub well_typed : (f : List ℕ) (xs ys zs : List (String Global × Content)) (n : ℕ) (r b : Bool) → xs ≡ zs → ys ≡ zs → IsRising (contents_in zs) → (IsRising (contents_in xs) → n ≡ length (prefix_of f (contents_in xs)))
    → (IsRising (contents_in ys) → n ≡ length (prefix_of f (contents_in ys)) → index_from 0 f (contents_in ys) ≡ cond r (Some n) None) → r ≡ b → (index_from 0 f (contents_in zs) ≡ cond b (Some n) None) × (n ≡ length (prefix_of f (contents_in zs)))
well_typed f xs ys zs n r b xs_is ys_is rises count index is =
    let at = count (subst (λ l. IsRising (contents_in l)) (sym xs_is) rises) ∙ ap (λ l. length (prefix_of f (contents_in l))) xs_is in (
      ap (λ l. index_from 0 f (contents_in l)) (sym ys_is)
          ∙ index (subst (λ l. IsRising (contents_in l)) (sym ys_is) rises) (at ∙ ap (λ l. length (prefix_of f (contents_in l))) (sym ys_is)) ∙ ap (λ t. cond t (Some n) None) is,
      at,
    )

pub from_none : (n : ℕ) → n ≡ 0 + n
from_none n = omega arith
