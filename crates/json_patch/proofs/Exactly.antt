-- Numbers that are equal exactly: an integer against a float.
use Rattle.std.proofs.Common.{◌≡◌, ℕ, zero, suc, ◌*◌, ◌/◌, ◌%◌, ◌^◌, ◌<◌, ◌≤◌, ℤ, pos, negsuc, Bool, true, false, ◌&&◌, ◌||◌, T, Option, Some, None, option_map, unwrap_or, is_some, refl, sym, ap, ap₂, ◌∙◌, arith, eqb, true≢false, mul-le-mul_right, div-add-mod', mod-lt, mul-pos, div-lt_iff_lt-mul, inl, inr}
use Rattle.std.specs.Prelude.{nat_abs}
use Rattle.std.specs.Bool.{beq}
use Rattle.std.specs.Float.{Float, nan, inf, fin, binary64, two_to}
use Rattle.std.specs.Float.Ieee
use Rattle.std.proofs.lemmas.Float.{eq_flip, eq_trans, T_from_true}
use Rattle.std.proofs.lemmas.Bool.{cases_order}
use Rattle.std.proofs.lemmas.Bool.Decides.{nat_tests}
use lib.Ieee.{up, down}
use lib.Ieee.Exact.{HasValue}
use lib.Ieee.Back.{round_whole}
use lib.Ieee.Fits.{down_pos}
use Rattle.serde_json.specs.Data.{Num, unsigned, negative, float}
use Rattle.serde_json.specs.Find.{as_u64, as_i64, to_float}
use Rattle.json_patch.specs.Equality.{integer, same_number, whole}

-- ---- an integer's sign and size

pub as_unsigned : (n : Num) (k : ℕ) → Some k ≡ as_u64 n → Some (false, k) ≡ integer n
as_unsigned (unsigned m) k is = ap (option_map (λ (j : ℕ). (false, j))) is
as_unsigned (negative z) k is = absurd (true≢false (ap is_some is))
as_unsigned (float x) k is = absurd (true≢false (ap is_some is))

pub as_negative : (n : Num) (z : ℤ) → None ≡ as_u64 n → Some z ≡ as_i64 n → Some (true, nat_abs z) ≡ integer n
as_negative (unsigned m) z none is = absurd (true≢false (sym (ap is_some none)))
as_negative (negative y) z none is = ap (option_map (λ (j : ℤ). (true, nat_abs j))) is
as_negative (float x) z none is = absurd (true≢false (ap is_some is))

pub no_integer : (n : Num) → None ≡ as_u64 n → None ≡ as_i64 n → None ≡ integer n
no_integer (unsigned m) none neither = absurd (true≢false (sym (ap is_some none)))
no_integer (negative y) none neither = absurd (true≢false (sym (ap is_some neither)))
no_integer (float x) none neither = refl

-- ---- floats that are equal

from_T : (b : Bool) → T b → b ≡ true
from_T true t = refl
from_T false t = absurd t

both : (a b : Bool) → (a ≡ true → b ≡ true) → (b ≡ true → a ≡ true) → a ≡ b
both true b f g = sym (f refl)
both false true f g = g refl
both false false f g = refl

turned_round : (x y : Float) → Ieee.eq x y ≡ Ieee.eq y x
turned_round x y = both _ _ (λ e. from_T _ (eq_flip x y (T_from_true _ e))) (λ e. from_T _ (eq_flip y x (T_from_true _ e)))

alike : (y z x : Float) → Ieee.eq y z ≡ true → Ieee.eq y x ≡ Ieee.eq z x
alike y z x e =
    let there : T (Ieee.eq y z) = T_from_true _ e in
    both _ _ (λ p. from_T _ (eq_trans z y x (eq_flip y z there) (T_from_true _ p))) (λ p. from_T _ (eq_trans y z x there (T_from_true _ p)))

same_value : (y : Float) (n : ℕ) → HasValue y false n 1 → Ieee.eq y (fin false n (pos 0)) ≡ true
unfolding Ieee.eq
same_value nan n h = absurd h
same_value (inf t) n h = absurd h
same_value (fin true m e) n h = absurd (true≢false h.0)
same_value (fin false m e) n h = grind (arith, nat_tests, h.1)

-- up to 2 ^ 53 the nearest float is the integer
pub small : (n : ℕ) (x : Float) → n ≤ 2 ^ 53 → Ieee.eq (Ieee.of_int binary64 (pos n)) x ≡ Ieee.eq (fin false n (pos 0)) x
unfolding Ieee.of_int
small n x h = let near = Ieee.round binary64 false n 1 in alike near (fin false n (pos 0)) x (same_value near n (round_whole binary64 false n h))

pub top_is : Ieee.of_bits binary64 4895412794951729152 ≡ two_to 64
unfolding Ieee.of_bits
top_is = refl

-- k against the fraction a / d, by its whole part, where a whole part of k's size has no fraction beside it
by_whole_part : (k a d : ℕ) → 0 < d → (k ≡ a / d → a % d ≡ 0) → eqb (a / d) k ≡ eqb (k * d) a
by_whole_part k a d p whole =
    let parts = div-add-mod' a d in
    let rest = mod-lt a p in
    elim (cases_order k (a / d)) [
      | inl same ↦ let none = whole same in let e : k * d ≡ a = ap (λ x. x * d) same ∙ omega arith in grind (arith, nat_tests)
      | inr (inl below) ↦ let e = mul-le-mul_right d below in grind (arith, nat_tests)
      | inr (inr above) ↦ let e = mul-le-mul_right d above in grind (arith, nat_tests)
    ]

-- a float whose whole part is above 2 ^ 53 has no fraction
no_fraction : (s : Bool) (m : ℕ) (e : ℤ) → Ieee.fits binary64 (fin s m e) ≡ true → 2 ^ 53 < m * up e / down e → m * up e % down e ≡ 0
unfolding Ieee.fits
no_fraction s m (pos e) f big = omega arith
no_fraction s zero (negsuc e) f big = absurd (omega (arith, Rattle.std.proofs.Common.div-le_self (0 * 1) (2 ^ suc e)))
no_fraction s (suc m) (negsuc e) f big =
    let digits : suc m < 2 ^ 53 = grind (arith, nat_tests) in
    absurd (omega (arith, Rattle.std.proofs.Common.div-le_self (suc m * 1) (2 ^ suc e)))

-- a larger integer against a float below 2 ^ 64, by the float's whole part
pub large : (n : ℕ) (x : Float) → 2 ^ 53 < n → Ieee.fits binary64 x ≡ true → Ieee.lt x (two_to 64) ≡ true → eqb (Ieee.to_unsigned 64 x) n ≡ Ieee.eq (fin false n (pos 0)) x
unfolding Ieee.lt Ieee.eq Ieee.to_unsigned
large n nan big f high = absurd (true≢false (sym high))
large n (inf true) big f high = grind (arith, nat_tests)
large n (inf false) big f high = absurd (true≢false (sym high))
large n (fin true m e) big f high =
    let some : 0 < n * down e = mul-pos (omega arith) (down_pos e) in
    grind (arith, nat_tests)
large n (fin false m e) big f high =
    let a = m * up e in
    let below : a < 2 ^ 64 * down e = grind (arith, nat_tests) in
    let whole : a / down e < 2 ^ 64 = (div-lt_iff_lt-mul {x = a} {y = 2 ^ 64} (down_pos e)).1 below in
    let test = by_whole_part n a (down e) (down_pos e) (λ same. no_fraction false m e f (omega arith)) in
    grind (arith, nat_tests, test)

-- a float from 2 ^ 64 on is none, nor is a NaN
pub far : (n : ℕ) (x : Float) → n < 2 ^ 64 → Ieee.lt x (two_to 64) ≡ false → false ≡ Ieee.eq (fin false n (pos 0)) x
unfolding Ieee.lt Ieee.eq
far n nan h high = refl
far n (inf s) h high = refl
far n (fin true m e) h high = grind (arith, nat_tests, down_pos e)
far n (fin false m e) h high = grind (arith, nat_tests, mul-le-mul_right (down e) h, down_pos e)

pub below_zero : (n : ℕ) (x : Float) → Ieee.eq (fin false n (pos 0)) (Ieee.neg x) ≡ Ieee.eq (fin true n (pos 0)) x
unfolding Ieee.eq Ieee.neg
below_zero n nan = refl
below_zero n (inf s) = refl
below_zero n (fin true m e) = refl
below_zero n (fin false m e) = refl

pub same_integers : (i j : Bool × ℕ) → (eqb i.1 j.1 && (beq i.0 j.0 || eqb i.1 0)) ≡ Ieee.eq (whole i) (whole j)
unfolding Ieee.eq
same_integers i j =
    let as_is : (k : ℕ) → k ≡ k * 1 * 1 = λ k. omega arith in
    ap₂ (λ a b. eqb a b && (beq i.0 j.0 || eqb a 0)) (as_is i.1) (as_is j.1)

-- ---- two numbers

abbrev alike_by : Num → Num → Option (Bool × ℕ) → Option (Bool × ℕ) → Bool
alike_by a b o r = Ieee.eq (unwrap_or (option_map whole o) (to_float a)) (unwrap_or (option_map whole r) (to_float b))

module _ (a b : Num) where
  pub two_integers : (i j : Bool × ℕ) → Some i ≡ integer a → Some j ≡ integer b → Ieee.eq (whole i) (whole j) ≡ same_number a b
  two_integers i j p q = ap₂ (alike_by a b) p q

  pub first_integer : (i : Bool × ℕ) → Some i ≡ integer a → None ≡ integer b → Ieee.eq (whole i) (to_float b) ≡ same_number a b
  first_integer i p q = ap₂ (alike_by a b) p q

  pub second_integer : (j : Bool × ℕ) → None ≡ integer a → Some j ≡ integer b → Ieee.eq (whole j) (to_float a) ≡ same_number a b
  second_integer j p q = turned_round (whole j) (to_float a) ∙ ap₂ (alike_by a b) p q

  pub neither_integer : None ≡ integer a → None ≡ integer b → Ieee.eq (to_float a) (to_float b) ≡ same_number a b
  neither_integer p q = ap₂ (alike_by a b) p q
