-- Tokens that lead to a place below another.
use Rattle.std.proofs.Common.{◌≡◌, ◌<◌, List, [], ◌∷◌, length, map, Bool, true, false, ◌&&◌, ltb, String, Global, string_bytes, refl, sym, ap, ◌∙◌, arith}
use Rattle.std.proofs.lemmas.Bool.Decides.{nat_tests}
use Rattle.std.specs.List.{starts_with}
use Rattle.std.specs.String.{string_eq}
use Rattle.json_patch.specs.Operations.{is_below}

pub not_longer : (xs ys : List (String Global)) → ltb (length xs) (length ys) ≡ false → false ≡ is_below (map string_bytes xs) (map string_bytes ys)
not_longer [] [] short = refl
not_longer [] (y ∷ ys) short = absurd (grind (arith, nat_tests))
not_longer (x ∷ xs) [] short = refl
not_longer (x ∷ xs) (y ∷ ys) short =
    let later = not_longer xs ys (grind (arith, nat_tests)) in
    sym (and_false (string_eq x y)) ∙ ap (λ b. string_eq x y && b) later
  where
    and_false : (b : Bool) → (b && false) ≡ false
    and_false true = refl
    and_false false = refl

pub longer : (xs ys : List (String Global)) → length xs < length ys → starts_with string_eq ys xs ≡ is_below (map string_bytes xs) (map string_bytes ys)
longer [] [] long = absurd (omega arith)
longer [] (y ∷ ys) long = refl
longer (x ∷ xs) [] long = absurd (omega arith)
longer (x ∷ xs) (y ∷ ys) long = ap (λ b. string_eq x y && b) (longer xs ys (omega arith))
