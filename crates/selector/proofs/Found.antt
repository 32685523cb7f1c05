-- Whether a list has what is looked for.
use Rattle.std.proofs.Common.{◌≡◌, ℕ, ◌+◌, ◌<◌, Bool, true, false, cond, not, ◌||◌, List, [], ◌∷◌, length, Option, Some, None, refl, sym, ap, subst, ◌∙◌, arith, eqb, eqb-true, true≢false, suc, ◌++◌, take, drop, get_or, take-append-drop, drop-cons}
use Rattle.std.specs.List.{list_any, position_or_len}
use Rattle.std.specs.Prelude.{MatchOption}

pub list_any-none : {X : Type 0} (p : X → Bool) (xs : List X) → position_or_len p xs ≡ length xs → list_any p xs ≡ false
list_any-none p [] e = refl
list_any-none p (x ∷ xs) e = go (p x) (list_any-none p xs) e
  where
    go : (t : Bool) → (position_or_len p xs ≡ length xs → list_any p xs ≡ false) → cond (not t) (1 + position_or_len p xs) 0 ≡ length (x ∷ xs) → (t || list_any p xs) ≡ false
    go true rest h = absurd (omega arith)
    go false rest h = rest (omega arith)

pub list_any-some : {X : Type 0} (p : X → Bool) (xs : List X) → position_or_len p xs < length xs → list_any p xs ≡ true
list_any-some p [] lt = absurd (omega arith)
list_any-some p (x ∷ xs) lt = go (p x) (list_any-some p xs) lt
  where
    go : (t : Bool) → (position_or_len p xs < length xs → list_any p xs ≡ true) → cond (not t) (1 + position_or_len p xs) 0 < length (x ∷ xs) → (t || list_any p xs) ≡ true
    go true rest h = refl
    go false rest h = rest (omega arith)

pub at_none : {X : Type 0} (r : Option X) (P : Type 0) (Q : X → Type 0) → r ≡ None → MatchOption r P Q → P
at_none None P Q e h = h
at_none (Some x) P Q e h = absurd cc

pub at_some : {X : Type 0} (r : Option X) (P : Type 0) (Q : X → Type 0) (x : X) → r ≡ Some x → MatchOption r P Q → Q x
at_some {X} None P Q x e h = absurd cc
at_some {X} (Some y) P Q x e h = let same : y ≡ x = cc in subst Q same h

pub some_bytes : (xs : List ℕ) (r : Bool) → r ≡ eqb (length xs) 0 → r ≡ false → 0 < length xs
some_bytes [] r is same = absurd (true≢false (sym is ∙ same))
some_bytes (x ∷ xs) r is same = omega arith

pub no_bytes : (xs : List ℕ) (r : Bool) → r ≡ eqb (length xs) 0 → r ≡ true → xs ≡ []
no_bytes [] r is same = refl
no_bytes (x ∷ xs) r is same = let none : length (x ∷ xs) ≡ 0 = eqb-true _ _ (sym is ∙ same) in absurd (omega arith)

pub split_at_item : {X : Type 0} (xs : List X) (i : ℕ) (d : X) → i < length xs → xs ≡ take i xs ++ get_or xs i d ∷ drop (suc i) xs
split_at_item xs i d lt = sym (take-append-drop i xs) ∙ ap (λ ys. take i xs ++ ys) (drop-cons xs i d lt)
