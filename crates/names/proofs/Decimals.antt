-- What `parse` reads of a decimal, and which texts are decimals.
use Rattle.std.proofs.Common.{◌≡◌, ◌↔◌, ◌∙◌, ℕ, zero, suc, ◌^◌, ◌<◌, ◌≤◌, ◌==◌, ◌&&◌, Bool, true, false, cond, leb, eqb-true, true≢false, List, [], ◌∷◌, length, get_or, Some, None, refl, sym, ap, subst, arith, rules, leb-true}
use Rattle.std.specs.Prelude.{decimal}
use Rattle.std.specs.declared.result.Result.{Result}
use Rattle.std.specs.declared.result.Result.TheVariants.{Err}
use Rattle.std.specs.List.{list_all}
use Rattle.std.specs.Char.{is_ascii_digit}
use Rattle.std.specs.Result.{OkIff}
use Rattle.std.specs.Str.Parse.{digits_value, ParsesUnsigned}
use Rattle.std.proofs.lemmas.Bool.{eq-eqb, le-leb}
use Rattle.std.proofs.lemmas.Fmt.{decimal_digit, decimal_nonempty, first_decimal, digits_decimal, digits_value-decimal, decimal-digits_value}
use Rattle.std.proofs.lemmas.Str.Parse.{IsNumeralModel, numerals_by_value, parse_digits}
use Rattle.names.specs.Decimals.{IsDecimalOf, is_decimal, decimal_up_to}

pub digits : IsNumeralModel (λ ds. list_all is_ascii_digit ds ≡ true) (digits_value 10)
digits = numerals_by_value _ (search rules)

-- a decimal has a digit, and nothing but digits
all_digits : (text : List ℕ) → is_decimal text ≡ true → list_all is_ascii_digit text ≡ true
all_digits [] e = absurd (true≢false (sym e))
all_digits (b ∷ bs) e = go (b == 48) refl e
  where
    alone : (cs : List ℕ) → b ≡ 48 → (length (b ∷ cs) == 1) ≡ true → list_all is_ascii_digit (b ∷ cs) ≡ true
    alone [] is one = rw is refl
    alone (c ∷ cs) is one = let two : length (b ∷ c ∷ cs) ≡ 1 = eqb-true _ _ one in absurd (omega arith)

    go : (t : Bool) → (b == 48) ≡ t → cond t (length (b ∷ bs) == 1) (list_all is_ascii_digit (b ∷ bs)) ≡ true → list_all is_ascii_digit (b ∷ bs) ≡ true
    go true is h = alone bs (eqb-true _ _ is) h
    go false is h = h

has_one : (text : List ℕ) → is_decimal text ≡ true → 0 < length text
has_one [] e = absurd (true≢false (sym e))
has_one (b ∷ bs) e = omega arith

-- a decimal that isn't read is past 64 bits
pub none_read : {E : Type 0} (max : ℕ) (text : List ℕ) (r : Result ℕ E) (e : E) → max < 2 ^ 64 → is_decimal text ≡ true → ParsesUnsigned 64 10 text r → r ≡ Err e → None ≡ decimal_up_to max text
none_read max text r e fits is read failed =
    let decided : OkIff (Err e) ((0 < length text) × (digits_value 10 text < 2 ^ 64)) (digits_value 10 text) = subst (λ q. OkIff q ((0 < length text) × (digits_value 10 text < 2 ^ 64)) (digits_value 10 text)) failed (parse_digits digits 64 text r read (all_digits text is)) in
    past (leb (digits_value 10 text) max) refl (λ below. decided (has_one text is, below))
  where
    past : (t : Bool) → leb (digits_value 10 text) max ≡ t → ¬ (digits_value 10 text < 2 ^ 64) → None ≡ cond (is_decimal text && t) (Some (digits_value 10 text)) None
    past true le above = let small : digits_value 10 text ≤ max = leb-true (digits_value 10 text) max le in absurd (above (omega arith))
    past false le above = rw is refl

-- ---- the text of a number

no_zero_before : (text : List ℕ) → is_decimal text ≡ true → get_or text 0 0 ≡ 48 → length text ≡ 1
no_zero_before [] is first = absurd (true≢false (sym is))
no_zero_before (b ∷ bs) is first =
    let same : (b == 48) ≡ true = eq-eqb b 48 first in
    let one : (length (b ∷ bs) == 1) ≡ true = rw same at is in
    eqb-true _ _ one

is_decimal_by : (text : List ℕ) → list_all is_ascii_digit text ≡ true → 0 < length text → (get_or text 0 0 ≡ 48 → length text ≡ 1) → is_decimal text ≡ true
is_decimal_by [] all some lead = absurd (omega arith)
is_decimal_by (b ∷ bs) all some lead = go (b == 48) refl
  where
    go : (t : Bool) → (b == 48) ≡ t → cond t (length (b ∷ bs) == 1) (list_all is_ascii_digit (b ∷ bs)) ≡ true
    go true is = eq-eqb _ _ (lead (eqb-true _ _ is))
    go false is = all

reaches : (n : ℕ) → n < 2 ^ 64 → get_or (decimal n) 0 0 ≡ 48 → length (decimal n) ≡ 1
reaches zero small first = ap length (decimal_digit 0 (omega arith))
reaches (suc n) small first = let above : 48 < get_or (decimal (suc n)) 0 0 = first_decimal (suc n) (omega arith) small in absurd (omega arith)

number_is : (max n : ℕ) → n < 2 ^ 64 → n ≤ max → decimal_up_to max (decimal n) ≡ Some n
number_is max n small le =
    let is = is_decimal_by (decimal n) (digits_decimal digits n small) (decimal_nonempty n small) (reaches n small) in
    let value : digits_value 10 (decimal n) ≡ n = digits_value-decimal digits n small in
    rw (is, value, le-leb n max le) refl

text_is : (max : ℕ) (text : List ℕ) (n : ℕ) → max < 2 ^ 64 → decimal_up_to max text ≡ Some n → IsDecimalOf max text n
text_is max text n fits read = go (is_decimal text) (leb (digits_value 10 text) max) refl refl read
  where
    go : (d l : Bool) → is_decimal text ≡ d → leb (digits_value 10 text) max ≡ l → cond (d && l) (Some (digits_value 10 text)) None ≡ Some n → IsDecimalOf max text n
    go true true is le e =
        let value : digits_value 10 text ≡ n = cc in
        let small : digits_value 10 text ≤ max = leb-true (digits_value 10 text) max le in
        let written = decimal-digits_value digits text (all_digits text is) (has_one text is) (no_zero_before text is) (omega arith) in
        (omega (arith, value, small), sym written ∙ ap decimal value)
    go true false is le e = cc
    go false l is le e = cc

-- a text is read as the number whose decimal it is
pub exact : (max : ℕ) (text : List ℕ) (n : ℕ) → max < 2 ^ 64 → (decimal_up_to max text ≡ Some n) ↔ IsDecimalOf max text n
exact max text n fits = (text_is max text n fits, λ h. ap (decimal_up_to max) h.1 ∙ number_is max n (omega (arith, h.0)) h.0)
