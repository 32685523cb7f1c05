-- Whole numbers, told from floats before a float is computed.
use Rattle.std.proofs.Common.{◌≡◌, ◌^◌, ◌&&◌, Bool, true, false, cond, true≢false, nat_lt, nat_le, ℤ, pos, negsuc, int_lt, Option, Some, None, is_some, option_map, refl, sym, arith}
use Rattle.std.specs.Float.{binary64, float_is_finite}
use Rattle.fast_float.specs.Text.{Parts, digits_of, nearest, with_sign}
use Rattle.serde_json.specs.Data.{Num, unsigned, negative, float}
use Rattle.serde_json.specs.Find.{of_integer}
use Rattle.serde_json.specs.Read.{is_integer, float_of, number_from}
use Rattle.serde_json.specs.View.{number_view}
use Rattle.serde_json.specs.declared.number.Number.{Number}
use Rattle.json_texts.specs.InOrder.{is_whole}
use Rattle.json_texts.specs.Whole.{unless_float, whole_from}

no_float : (b : Bool) (p : Parts) → None ≡ unless_float (float_of b p)
no_float b p = by_test (float_is_finite (nearest binary64 b p))
  where
    by_test : (t : Bool) → None ≡ unless_float (cond t (Some (float (nearest binary64 b p))) None)
    by_test true = refl
    by_test false = refl

-- what is left of a number, if floats are left out
pub whole-number : (b : Bool) (p : Parts) → whole_from b p ≡ unless_float (number_from b p)
whole-number false p = by_test (is_integer p && nat_lt (digits_of p) (2 ^ 64))
  where
    by_test : (t : Bool) → cond t (Some (unsigned (digits_of p))) None ≡ unless_float (cond t (Some (unsigned (digits_of p))) (float_of false p))
    by_test true = refl
    by_test false = no_float false p
whole-number true p = by_test (is_integer p && nat_lt 0 (digits_of p) && nat_le (digits_of p) (2 ^ 63))
  where
    by_test : (t : Bool) → cond t (Some (negative (with_sign true (digits_of p)))) None ≡ unless_float (cond t (Some (negative (with_sign true (digits_of p)))) (float_of true p))
    by_test true = refl
    by_test false = no_float true p

pub below_zero : (z : ℤ) → int_lt z (pos 0) ≡ true → of_integer z ≡ negative z
below_zero (pos n) h = absurd (grind arith)
below_zero (negsuc n) h = refl

pub some-whole : (r : Option Number) (o : Option Num) → option_map number_view r ≡ unless_float o → is_some r ≡ is_whole o
some-whole r None h = none_of r h
  where
    none_of : (r : Option Number) → option_map number_view r ≡ None → is_some r ≡ false
    none_of None h = refl
    none_of (Some x) h = absurd cc
some-whole r (Some (unsigned n)) h = some_of r h
  where
    some_of : (r : Option Number) → option_map number_view r ≡ Some (unsigned n) → is_some r ≡ true
    some_of None h = absurd cc
    some_of (Some x) h = refl
some-whole r (Some (negative z)) h = some_of r h
  where
    some_of : (r : Option Number) → option_map number_view r ≡ Some (negative z) → is_some r ≡ true
    some_of None h = absurd cc
    some_of (Some x) h = refl
some-whole r (Some (float x)) h = none_of r h
  where
    none_of : (r : Option Number) → option_map number_view r ≡ None → is_some r ≡ false
    none_of None h = refl
    none_of (Some x) h = absurd cc

-- a whole number's text is not refused
pub not_none : (o : Option Num) → is_whole o ≡ true → None ≡ unless_float o → ⊥
not_none None h none = true≢false (sym h)
not_none (Some (unsigned n)) h none = absurd cc
not_none (Some (negative z)) h none = absurd cc
not_none (Some (float x)) h none = true≢false (sym h)

-- and stands for what the data says
pub number_is : (o : Option Num) (n : Num) → Some n ≡ unless_float o → o ≡ Some n
number_is None n h = absurd cc
number_is (Some (unsigned m)) n h = sym h
number_is (Some (negative z)) n h = sym h
number_is (Some (float x)) n h = absurd cc
