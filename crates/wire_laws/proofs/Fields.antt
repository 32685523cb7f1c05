-- Fields of a head that are printed with one blank before the value, and CR LF after it.
use Rattle.std.proofs.Common.{arith, ◌≡◌, ℕ, ◌≤◌, ◌<◌, ◌^◌, Bool, true, false, cond, leb, List, [], ◌∷◌, length, refl, IsTrue}
use Rattle.std.proofs.lemmas.Bool.{le-leb, ne_eqb}
use Rattle.std.proofs.lemmas.Fmt.{decimal_is_IsNumeral}
use Rattle.std.proofs.lemmas.List.Elements.{All-cons, All-head, All-nil}
use Rattle.std.proofs.lemmas.Str.Parse.{digit_from_value}
use Rattle.std.specs.Prelude.{◌&&◌, ◌||◌, ◌==◌, not, reverse}
use Rattle.std.specs.Char.{is_ascii_digit}
use Rattle.std.specs.Fmt.{decimal}
use Rattle.std.specs.List.{list_all}
use Rattle.std.specs.Str.Parse.{AllDigits}
use Rattle.httparse.specs.Grammar as grammar
use Rattle.httparse.specs.Grammar.{AllPass, Field, IsField, is_token_byte, is_ows, is_value_byte, skip_ows, trim_ows}
use Rattle.httparse.proofs.TrimLemmas.{AllPass-reverse, trim_ows_space}
use Rattle.wire.proofs.Lengths.{digit_is_digit}
use Rattle.wire.proofs.Lines.{passes_each}

pub and_first : (a b : Bool) → (a && b) ≡ true → a ≡ true
and_first true b is = refl
and_first false b is = absurd cc

pub and_rest : (a b : Bool) → (a && b) ≡ true → b ≡ true
and_rest true b is = is
and_rest false b is = absurd cc

-- a field whose value stands after one blank
abbrev pub field : List ℕ → List ℕ → Field
field name value = record { name = name; raw = 32 ∷ value; end = grammar.crlf }

pub is_field : (name value : List ℕ) → 0 < length name → list_all is_token_byte name ≡ true → AllPass is_value_byte value → IsField (field name value)
is_field name value some token pass = record {
  name = (some, passes_each is_token_byte name token);
  raw = All-cons (λ b. IsTrue (is_value_byte b)) 32 value refl pass;
}

-- ---- digits

pub digits_pass : (test : ℕ → Bool) → ((b : ℕ) → 48 ≤ b → b ≤ 57 → test b ≡ true) → (digits : List ℕ) → AllDigits 10 digits → AllPass test digits
digits_pass test is [] all = All-nil (λ b. IsTrue (test b))
digits_pass test is (b ∷ digits) all =
    let range = digit_from_value b all.0 in
    All-cons (λ v. IsTrue (test v)) b digits (is b range.0 range.1) (digits_pass test is digits all.1)

pub digit_is_value : (b : ℕ) → 48 ≤ b → b ≤ 57 → is_value_byte b ≡ true
digit_is_value b low high = go (b == 9) (leb 32 b) (b == 127) (le-leb _ _ (omega (arith, low))) (ne_eqb b 127 (λ e. absurd (omega (arith, e, high))))
  where
    go : (s t u : Bool) → t ≡ true → u ≡ false → (s || (t && not u)) ≡ true
    go true t u t-is u-is = refl
    go false true true t-is u-is = absurd cc
    go false true false t-is u-is = refl
    go false false u t-is u-is = absurd cc

abbrev pub is_no_blank : ℕ → Bool
is_no_blank b = not (is_ows b)

pub digit_is_no_blank : (b : ℕ) → 48 ≤ b → b ≤ 57 → is_no_blank b ≡ true
digit_is_no_blank b low high = go (b == 32) (b == 9) (ne_eqb b 32 (λ e. absurd (omega (arith, e, low)))) (ne_eqb b 9 (λ e. absurd (omega (arith, e, low))))
  where
    go : (s t : Bool) → s ≡ false → t ≡ false → not (s || t) ≡ true
    go true t s-is t-is = absurd cc
    go false true s-is t-is = absurd cc
    go false false s-is t-is = refl

skip_none : (bytes : List ℕ) → AllPass is_no_blank bytes → skip_ows bytes ≡ bytes
skip_none [] pass = refl
skip_none (b ∷ bytes) pass = go (is_ows b) (All-head (λ v. IsTrue (is_no_blank v)) b bytes pass)
  where
    go : (t : Bool) → not t ≡ true → cond t (skip_ows bytes) (b ∷ bytes) ≡ b ∷ bytes
    go true is = absurd cc
    go false is = refl

pub unblank_trimmed : (value : List ℕ) → AllPass is_no_blank value → trim_ows (32 ∷ value) ≡ value
unblank_trimmed value pass = trim_ows_space value (skip_none value pass) (skip_none (reverse value) (AllPass-reverse is_no_blank value pass))

pub trimmed : (n : ℕ) → n < 2 ^ 64 → trim_ows (32 ∷ decimal n) ≡ decimal n
trimmed n wide = unblank_trimmed (decimal n) (digits_pass is_no_blank digit_is_no_blank (decimal n) (decimal_is_IsNumeral n wide).0.1)

pub decimal_digits : (n : ℕ) → n < 2 ^ 64 → AllPass is_ascii_digit (decimal n)
decimal_digits n wide = digits_pass is_ascii_digit digit_is_digit (decimal n) (decimal_is_IsNumeral n wide).0.1

pub decimal_is_value : (n : ℕ) → n < 2 ^ 64 → AllPass is_value_byte (decimal n)
decimal_is_value n wide = digits_pass is_value_byte digit_is_value (decimal n) (decimal_is_IsNumeral n wide).0.1
