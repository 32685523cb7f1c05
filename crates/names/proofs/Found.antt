-- Tests that follow one another, and whether a list has what is looked for.
use Rattle.std.proofs.Common.{◌≡◌, ◌+◌, Bool, true, false, cond, not, ◌&&◌, ◌||◌, List, [], ◌∷◌, length, refl, sym, ◌∙◌, arith}
use Rattle.std.specs.List.{list_any, position_or_len}

-- the second of two tests that must both pass, where the first passed
pub both : {a b : Bool} (r s : Bool) → r ≡ true → r ≡ a → s ≡ b → s ≡ (a && b)
both {a} {b} r s is first second = let e : a ≡ true = sym first ∙ is in rw e second

pub list_any-none : {X : Type 0} (p : X → Bool) (xs : List X) → position_or_len p xs ≡ length xs → list_any p xs ≡ false
list_any-none p [] e = refl
list_any-none p (x ∷ xs) e = go (p x) (list_any-none p xs) e
  where
    go : (t : Bool) → (position_or_len p xs ≡ length xs → list_any p xs ≡ false) → cond (not t) (1 + position_or_len p xs) 0 ≡ length (x ∷ xs) → (t || list_any p xs) ≡ false
    go true rest h = absurd (omega arith)
    go false rest h = rest (omega arith)
