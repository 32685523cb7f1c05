-- The order of places.
use Rattle.std.proofs.Common.{◌≡◌, ℕ, List, refl, ap₂, Ordering, Less, Equal, Greater, is_eq, nat_cmp}
use Rattle.std.specs.Ordering.{ordering_then, eq_by_cmp}
use Rattle.std.specs.Cmp.{IsTotalOrder}
use Rattle.std.specs.Cmp.Lexicographic.{slice_cmp, nat_list_cmp_total}
use Rattle.std.specs.FinMap.{nat_cmp-IsAntisymmetric, slice_cmp-IsAntisymmetric}
use Rattle.std.proofs.lemmas.Cmp.{then_total, on_total}
use Rattle.std.specs.Prelude.{true}
use Rattle.indexer.specs.Objects.{Place, place_cmp}

pub place_total : IsTotalOrder place_cmp
place_total = then_total (on_total (λ p. p.0) nat_list_cmp_total) (on_total (λ p. p.1) nat_list_cmp_total)

first_equal : (r s : Ordering) → is_eq (ordering_then r s) ≡ true → r ≡ Equal
first_equal Less s e = absurd cc
first_equal Equal s e = refl
first_equal Greater s e = absurd cc

is_equal : (r : Ordering) → is_eq r ≡ true → r ≡ Equal
is_equal Less e = absurd cc
is_equal Equal e = refl
is_equal Greater e = absurd cc

second_equal : (r s : Ordering) → is_eq (ordering_then r s) ≡ true → s ≡ Equal
second_equal Less s e = absurd cc
second_equal Equal s e = is_equal s e
second_equal Greater s e = absurd cc

pub same_place : (p q : Place) → eq_by_cmp place_cmp p q ≡ true → p ≡ q
same_place p q e =
    ap₂ (λ (x y : List ℕ). (x, y))
    (slice_cmp-IsAntisymmetric nat_cmp-IsAntisymmetric p.0 q.0 (first_equal (slice_cmp nat_cmp p.0 q.0) (slice_cmp nat_cmp p.1 q.1) e))
    (slice_cmp-IsAntisymmetric nat_cmp-IsAntisymmetric p.1 q.1 (second_equal (slice_cmp nat_cmp p.0 q.0) (slice_cmp nat_cmp p.1 q.1) e))
