-- Names of a round: what the number is to them, and which is the first that isn't taken.
use Rattle.std.proofs.Common.{◌≡◌, ◌∙◌, ℕ, zero, suc, ◌+◌, ◌-◌, ◌/◌, ◌%◌, ◌<◌, ◌≤◌, Bool, true, false, List, ◌++◌, take, codes, Option, Some, None, refl, sym, ap, ap₂, cond, arith, lit<, true≢false, option_map, is_some}
use Rattle.std.specs.Option.{option_or}
use Rattle.system_metadata.specs.Digits.{last_digits}
use Rattle.system_metadata.specs.GeneratedNames.{border, generated_name, name_if_free, first_free}
use Rattle.system_metadata.proofs.LastDigits.{differ, length-last_digits, same_number, split_end}

abbrev pub letters : List ℕ
letters = codes "bcdfghjklmnpqrstvwxz2456789"

-- one name, one number of a round
pub same_name : (prefix : List ℕ) (a b : ℕ) → a < 14_348_907 → b < 14_348_907 → generated_name prefix a ≡ generated_name prefix b → a ≡ b
same_name prefix a b ha hb e =
    let ends = split_end (take (border prefix 58) prefix) (take (border prefix 58) prefix) (last_digits letters 5 a) (last_digits letters 5 b) (length-last_digits letters 5 a ∙ sym (length-last_digits letters 5 b)) e in
    same_number letters (differ letters refl) (lit< tt) 5 a b (omega (arith, ha, hb)) ends.1

five_digits : (a b : ℕ) → a % 14_348_907 ≡ b % 14_348_907 → last_digits letters 5 a ≡ last_digits letters 5 b
unfolding last_digits
five_digits a b e =
    let d : a % 27 ≡ b % 27 = omega (arith, e) in
    let d₁ : a / 27 % 27 ≡ b / 27 % 27 = omega (arith, e) in
    let d₂ : a / 27 / 27 % 27 ≡ b / 27 / 27 % 27 = omega (arith, e) in
    let d₃ : a / 27 / 27 / 27 % 27 ≡ b / 27 / 27 / 27 % 27 = omega (arith, e) in
    let d₄ : a / 27 / 27 / 27 / 27 % 27 ≡ b / 27 / 27 / 27 / 27 % 27 = omega (arith, e) in
    rw (d, d₁, d₂, d₃, d₄) refl

name_again : (prefix : List ℕ) (a b : ℕ) → a % 14_348_907 ≡ b % 14_348_907 → generated_name prefix a ≡ generated_name prefix b
name_again prefix a b e = ap (λ l. take (border prefix 58) prefix ++ l) (five_digits a b e)

none_left : (is_taken : List ℕ → Bool) (prefix : List ℕ) (number : ℕ) → first_free is_taken prefix number 0 ≡ None
unfolding first_free
none_left is_taken prefix number = refl

more_left : (is_taken : List ℕ → Bool) (prefix : List ℕ) (number count : ℕ) → first_free is_taken prefix number (suc count) ≡ option_or (name_if_free is_taken prefix number) (first_free is_taken prefix (number + 1) count)
unfolding first_free
more_left is_taken prefix number count = refl

-- round and round
pub again : (is_taken : List ℕ → Bool) (prefix : List ℕ) (count a b : ℕ) → a % 14_348_907 ≡ b % 14_348_907 → first_free is_taken prefix a count ≡ first_free is_taken prefix b count
unfolding first_free
again is_taken prefix zero a b e = refl
again is_taken prefix (suc count) a b e =
    let name = name_again prefix a b e in
    let rest = again is_taken prefix count (a + 1) (b + 1) (omega (arith, e)) in
    ap₂ option_or (ap (λ n. cond (is_taken n) None (Some n)) name) rest

-- ---- a round, as far as it has come

-- what is left of the round has the name
abbrev pub IsLeft : (List ℕ → Bool) → List ℕ → ℕ → ℕ → Type 0
IsLeft is_taken prefix first step =
    first_free is_taken prefix (first + step) (14_348_907 - step) ≡ first_free is_taken prefix first 14_348_907

pub left_first : (is_taken : List ℕ → Bool) (prefix : List ℕ) (first : ℕ) → IsLeft is_taken prefix first 0
left_first is_taken prefix first =
    let same : first + 0 ≡ first = omega arith in
    ap (λ n. first_free is_taken prefix n 14_348_907) same

one_more : (step : ℕ) → step < 14_348_907 → 14_348_907 - step ≡ suc (14_348_907 - (step + 1))
one_more step lt = omega (arith, lt)

module _ {X : Type 0} (shown : X → List ℕ) (is_taken : List ℕ → Bool) (prefix : List ℕ) (first step : ℕ) (lt : step < 14_348_907) (so_far : IsLeft is_taken prefix first step) where
  here : option_or (name_if_free is_taken prefix (first + step)) (first_free is_taken prefix (first + step + 1) (14_348_907 - (step + 1))) ≡ first_free is_taken prefix first 14_348_907
  here =
      sym (more_left is_taken prefix (first + step) (14_348_907 - (step + 1)))
      ∙ ap (first_free is_taken prefix (first + step)) (sym (one_more step lt))
      ∙ so_far

  pub left_next : (found : Option X) → is_some found ≡ false → option_map shown found ≡ name_if_free is_taken prefix (first + step) → IsLeft is_taken prefix first (step + 1)
  left_next (Some x) none is = absurd (true≢false none)
  left_next None none is =
      let after : first + (step + 1) ≡ first + step + 1 = omega arith in
      ap (λ n. first_free is_taken prefix n (14_348_907 - (step + 1))) after
      ∙ ap (λ o. option_or o (first_free is_taken prefix (first + step + 1) (14_348_907 - (step + 1)))) is
      ∙ here

  pub left_found : (found : Option X) → is_some found ≡ true → option_map shown found ≡ name_if_free is_taken prefix (first + step) → option_map shown found ≡ first_free is_taken prefix first 14_348_907
  left_found None some is = absurd (true≢false (sym some))
  left_found (Some x) some is =
      ap (λ o. option_or o (first_free is_taken prefix (first + step + 1) (14_348_907 - (step + 1)))) is ∙ here

pub left_none : (is_taken : List ℕ → Bool) (prefix : List ℕ) (first step : ℕ) → 14_348_907 ≤ step → IsLeft is_taken prefix first step → None ≡ first_free is_taken prefix first 14_348_907
left_none is_taken prefix first step all so_far =
    let over : 0 ≡ 14_348_907 - step = omega (arith, all) in
    sym (none_left is_taken prefix (first + step)) ∙ ap (first_free is_taken prefix (first + step)) over ∙ so_far

-- the round begins anywhere
pub whole_round : (is_taken : List ℕ → Bool) (prefix : List ℕ) (number : ℕ) → first_free is_taken prefix (number % 14_348_907) 14_348_907 ≡ first_free is_taken prefix number 14_348_907
whole_round is_taken prefix number = again is_taken prefix 14_348_907 (number % 14_348_907) number (omega arith)
