-- Lengths by their digits.
use Rattle.std.proofs.Common.{arith, ◌≡◌, ℕ, suc, ◌+◌, ◌-◌, ◌*◌, ◌<◌, ◌≤◌, ◌^◌, Bool, true, false, leb, List, [], ◌∷◌, length, drop, get_or, Some, None, refl, sym, ap, ◌∙◌, drop-cons}
use Rattle.std.proofs.lemmas.Bool.{eqb-true, le-leb}
use Rattle.std.proofs.lemmas.Fmt.{decimal_is_IsNumeral}
use Rattle.std.proofs.lemmas.Str.Parse.{digit_from_value}
use Rattle.std.proofs.lemmas.Str.{digit_value_digit}
use Rattle.std.specs.Prelude.{◌&&◌, ◌==◌, if◌then◌else◌}
use Rattle.std.specs.Char.{digit_value, is_ascii_digit}
use Rattle.std.specs.Fmt.{decimal}
use Rattle.std.specs.List.{list_all}
use Rattle.std.specs.Str.Parse.{AllDigits, digits_value_after}
use Rattle.wire.specs.Lengths.{decimal_value, is_length, length_in, number_after}

-- ---- one or more digits

pub none_empty : (value : List ℕ) → (length value == 0) ≡ true → false ≡ is_length value
none_empty [] none = refl
none_empty (b ∷ value) none = let is = eqb-true (length (b ∷ value)) 0 none in absurd (omega (arith, is))

pub some_digits : (value : List ℕ) → (length value == 0) ≡ false → list_all is_ascii_digit value ≡ is_length value
some_digits [] some = absurd cc
some_digits (b ∷ value) some = refl

-- what is said of a value that is a length, and of another
pub length_is : (value : List ℕ) → is_length value ≡ true → length_in value ≡ Some (decimal_value value)
length_is value is = ap (λ (t : Bool). if t then Some (decimal_value value) else None) is

pub length_isnt : (value : List ℕ) → is_length value ≡ false → length_in value ≡ None
length_isnt value isnt = ap (λ (t : Bool). if t then Some (decimal_value value) else None) isnt

-- ---- its number

number_grows : (n : ℕ) (ds : List ℕ) → n ≤ number_after n ds
number_grows n [] = omega arith
number_grows n (d ∷ ds) = let more = number_grows (n * 10 + (d - 48)) ds in omega (arith, more)

pub above_limit : (max n i d : ℕ) (ds : List ℕ) → i < length ds → d ≡ get_or ds i 0 - 48 → number_after n (drop i ds) ≡ number_after 0 ds → max < n * 10 + d → max < decimal_value ds
above_limit max n i d ds lt is stated above =
    let step : number_after n (drop i ds) ≡ number_after (n * 10 + d) (drop (suc i) ds) =
    ap (number_after n) (drop-cons ds i 0 lt) ∙ ap (λ (e : ℕ). number_after (n * 10 + e) (drop (suc i) ds)) (sym is) in
    let grown = number_grows (n * 10 + d) (drop (suc i) ds) in
    let same : number_after 0 ds ≡ number_after (n * 10 + d) (drop (suc i) ds) = sym stated ∙ step in
    omega (arith, grown, same, above)

-- ---- a printed length

pub digit_is_digit : (b : ℕ) → 48 ≤ b → b ≤ 57 → is_ascii_digit b ≡ true
digit_is_digit b low high = go (leb 48 b) (leb b 57) (le-leb _ _ low) (le-leb _ _ high)
  where
    go : (s t : Bool) → s ≡ true → t ≡ true → (s && t) ≡ true
    go true true s-is t-is = refl
    go true false s-is t-is = absurd cc
    go false t s-is t-is = absurd cc

both : (a b : Bool) → a ≡ true → b ≡ true → (a && b) ≡ true
both true b a-is b-is = b-is
both false b a-is b-is = absurd cc

all_digits : (ds : List ℕ) → AllDigits 10 ds → list_all is_ascii_digit ds ≡ true
all_digits [] all = refl
all_digits (b ∷ ds) all =
    let range = digit_from_value b all.0 in
    both (is_ascii_digit b) (list_all is_ascii_digit ds) (digit_is_digit b range.0 range.1) (all_digits ds all.1)

number_value : (n : ℕ) (ds : List ℕ) → AllDigits 10 ds → number_after n ds ≡ digits_value_after 10 n ds
number_value n [] all = refl
number_value n (b ∷ ds) all =
    let value : digit_value b + 48 ≡ b = digit_value_digit b (digit_from_value b all.0) in
    ap (λ (k : ℕ). number_after k ds) (omega (arith, value)) ∙ number_value (n * 10 + digit_value b) ds all.1

some_length : (ds : List ℕ) → 0 < length ds → list_all is_ascii_digit ds ≡ true → is_length ds ≡ true
some_length [] some all = absurd (omega (arith, some))
some_length (b ∷ ds) some all = all

-- a decimal reads as itself
pub decimal_read : (n : ℕ) → n < 2 ^ 64 → length_in (decimal n) ≡ Some n
decimal_read n wide =
    let numeral = decimal_is_IsNumeral n wide in
    length_is (decimal n) (some_length (decimal n) numeral.0.0 (all_digits (decimal n) numeral.0.1))
    ∙ ap (λ (m : ℕ). Some m) (number_value 0 (decimal n) numeral.0.1 ∙ numeral.1)
