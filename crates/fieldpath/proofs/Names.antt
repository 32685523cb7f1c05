-- Names that ascend: what is below a name, and above one.
use Rattle.std.proofs.Common.{◌≡◌, ◌&&◌, ℕ, true, List, [], ◌∷◌, Ordering, Less, Equal, Greater, nat_cmp, refl, sym, ap, ap₂, true≢false}
use Rattle.std.specs.Cmp.Lexicographic.{slice_cmp}
use Rattle.std.specs.Ordering.{is_lt}
use Rattle.std.proofs.lemmas.Bool.{and_parts}
use Rattle.std.proofs.lemmas.Cmp.{nat_list_cmp_total}
use Rattle.fieldpath.specs.Scalars.{ascend, ascend_from}

pub lt_is : (o : Ordering) → is_lt o ≡ true → o ≡ Less
lt_is Less h = refl
lt_is Equal h = absurd (true≢false (sym h))
lt_is Greater h = absurd (true≢false (sym h))

pub first_below : (k l : List ℕ) (ns : List (List ℕ)) → ascend_from k (l ∷ ns) ≡ true → slice_cmp nat_cmp k l ≡ Less
first_below k l ns h = lt_is (slice_cmp nat_cmp k l) (and_parts (is_lt (slice_cmp nat_cmp k l)) (ascend_from l ns) h).0

pub rest_above : (k l : List ℕ) (ns : List (List ℕ)) → ascend_from k (l ∷ ns) ≡ true → ascend_from l ns ≡ true
rest_above k l ns h = (and_parts (is_lt (slice_cmp nat_cmp k l)) (ascend_from l ns) h).1

-- what is below a name is below those above it
pub further : (k l : List ℕ) (ns : List (List ℕ)) → slice_cmp nat_cmp k l ≡ Less → ascend_from l ns ≡ true → ascend_from k ns ≡ true
further k l [] lt h = refl
further k l (n ∷ ns) lt h = ap₂ (λ a b. a && b) (ap is_lt (nat_list_cmp_total.trans k l n lt (first_below l n ns h))) (rest_above l n ns h)

pub ascend_rest : (l : List ℕ) (ns : List (List ℕ)) → ascend_from l ns ≡ true → ascend ns ≡ true
ascend_rest l [] h = refl
ascend_rest l (n ∷ ns) h = rest_above l n ns h
