-- An order of lists, read through a map.
use Rattle.std.proofs.Common.{◌≡◌, List, [], ◌∷◌, map, refl, ap, Ordering}
use Rattle.std.specs.Ordering.{ordering_then}
use Rattle.std.specs.Cmp.Lexicographic.{slice_cmp}

pub cmp-map : {A B : Type 0} (R : B → B → Ordering) (f : A → B) (xs ys : List A) → slice_cmp (λ x y. R (f x) (f y)) xs ys ≡ slice_cmp R (map f xs) (map f ys)
cmp-map R f [] [] = refl
cmp-map R f [] (y ∷ ys) = refl
cmp-map R f (x ∷ xs) [] = refl
cmp-map R f (x ∷ xs) (y ∷ ys) = ap (ordering_then (R (f x) (f y))) (cmp-map R f xs ys)
