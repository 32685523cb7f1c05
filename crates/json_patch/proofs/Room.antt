-- What is left of some room after one size, and after another.
use Rattle.std.proofs.Common.{◌≡◌, ℕ, ◌+◌, ◌-◌, ◌≤◌, leb, le-leb, leb-true, leb-false, Option, Some, None, Bool, true, false, if◌then◌else◌, option_and_then, refl, sym, ap, ap₂, ◌∙◌, arith}
use Rattle.std.specs.Option.{SomeIff}
use Rattle.std.proofs.lemmas.Bool.{lt-leb}
use Rattle.std.proofs.lemmas.Bool.Decides.{nat_tests}
use Rattle.json_patch.specs.CopiedSize.{left_of}

-- what a checked difference gives
pub checked : (room size : ℕ) (o : Option ℕ) → SomeIff o (size ≤ room) (room - size) → o ≡ left_of room size
checked room size None is = by_test (leb size room) refl
  where
    by_test : (b : Bool) → leb size room ≡ b → None ≡ (if b then Some (room - size) else None)
    by_test true fits = absurd (is (leb-true size room fits))
    by_test false fits = refl
checked room size (Some left) is = ap Some (is.1) ∙ sym (ap (λ b. if b then Some (room - size) else None) (le-leb size room is.0))

pub within : (room a b : ℕ) → a ≤ room → leb b (room - a) ≡ leb (a + b) room
within room a b fits = grind (arith, nat_tests)

after_at : (room a b : ℕ) (t : Bool) → leb a room ≡ t → option_and_then (λ left. left_of left b) (if t then Some (room - a) else None) ≡ left_of room (a + b)
after_at room a b true is =
    let rest : room - a - b ≡ room - (a + b) = omega arith in
    ap₂ (λ t n. if t then Some n else None) (within room a b (leb-true a room is)) rest
after_at room a b false is =
    let less = leb-false a room is in
    sym (ap (λ t. if t then Some (room - (a + b)) else None) (lt-leb (a + b) room (omega arith)))

after_both : (room a b : ℕ) → option_and_then (λ left. left_of left b) (left_of room a) ≡ left_of room (a + b)
after_both room a b = after_at room a b (leb a room) refl

pub after_more : (room a b left : ℕ) → Some left ≡ left_of room a → left_of left b ≡ left_of room (a + b)
after_more room a b left is = ap (option_and_then (λ l. left_of l b)) is ∙ after_both room a b

pub none_after : (room a b : ℕ) → None ≡ left_of room a → None ≡ left_of room (a + b)
none_after room a b is = ap (option_and_then (λ l. left_of l b)) is ∙ after_both room a b
