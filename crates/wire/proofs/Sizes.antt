-- The size of a chunk, in hexadecimal digits.
use Rattle.std.proofs.Common.{arith, ◌≡◌, ℕ, ◌+◌, ◌*◌, ◌/◌, ◌%◌, ◌<◌, ◌≤◌, zero, suc, Bool, true, false, cond, List, [], ◌∷◌, length, refl, sym, ap, ◌∙◌}
use Rattle.std.specs.Prelude.{◌==◌, ◌&&◌}
use Rattle.std.specs.Char.{is_ascii_hexdigit}
use Rattle.std.specs.Fmt.{digit_glyph, digits, digits_onto}
use Rattle.std.specs.List.{list_all}
use Rattle.std.proofs.lemmas.Fmt.{digits_is_IsNumeral}
use Rattle.wire.specs.Lengths.{IsSize, hexadecimal}

glyph_hex : (d : ℕ) → d < 16 → is_ascii_hexdigit (digit_glyph false d) ≡ true
glyph_hex zero low = refl
glyph_hex (suc zero) low = refl
glyph_hex (suc (suc zero)) low = refl
glyph_hex (suc (suc (suc zero))) low = refl
glyph_hex (suc (suc (suc (suc zero)))) low = refl
glyph_hex (suc (suc (suc (suc (suc zero))))) low = refl
glyph_hex (suc (suc (suc (suc (suc (suc zero)))))) low = refl
glyph_hex (suc (suc (suc (suc (suc (suc (suc zero))))))) low = refl
glyph_hex (suc (suc (suc (suc (suc (suc (suc (suc zero)))))))) low = refl
glyph_hex (suc (suc (suc (suc (suc (suc (suc (suc (suc zero))))))))) low = refl
glyph_hex (suc (suc (suc (suc (suc (suc (suc (suc (suc (suc zero)))))))))) low = refl
glyph_hex (suc (suc (suc (suc (suc (suc (suc (suc (suc (suc (suc zero))))))))))) low = refl
glyph_hex (suc (suc (suc (suc (suc (suc (suc (suc (suc (suc (suc (suc zero)))))))))))) low = refl
glyph_hex (suc (suc (suc (suc (suc (suc (suc (suc (suc (suc (suc (suc (suc zero))))))))))))) low = refl
glyph_hex (suc (suc (suc (suc (suc (suc (suc (suc (suc (suc (suc (suc (suc (suc zero)))))))))))))) low = refl
glyph_hex (suc (suc (suc (suc (suc (suc (suc (suc (suc (suc (suc (suc (suc (suc (suc zero))))))))))))))) low = refl
glyph_hex (suc (suc (suc (suc (suc (suc (suc (suc (suc (suc (suc (suc (suc (suc (suc (suc d)))))))))))))))) low = absurd (omega (arith, low))

rest_low : (n : ℕ) → n % 16 < 16
rest_low n = omega arith

both : (a b : Bool) → a ≡ true → b ≡ true → (a && b) ≡ true
both true b x y = y
both false b x y = absurd cc

hex_by : (b : Bool) (xs ys : List ℕ) → list_all is_ascii_hexdigit xs ≡ true → list_all is_ascii_hexdigit ys ≡ true → list_all is_ascii_hexdigit (cond b xs ys) ≡ true
hex_by true xs ys one other = one
hex_by false xs ys one other = other

onto_hex : (k n : ℕ) (acc : List ℕ) → list_all is_ascii_hexdigit acc ≡ true → list_all is_ascii_hexdigit (digits_onto k 16 false n acc) ≡ true
onto_hex zero n acc are = are
onto_hex (suc k) n acc are =
    let first = both (is_ascii_hexdigit (digit_glyph false (n % 16))) (list_all is_ascii_hexdigit acc) (glyph_hex (n % 16) (rest_low n)) are in
    hex_by (n / 16 == 0) (digit_glyph false (n % 16) ∷ acc) (digits_onto k 16 false (n / 16) (digit_glyph false (n % 16) ∷ acc)) first (onto_hex k (n / 16) (digit_glyph false (n % 16) ∷ acc) first)

-- so many digits write each number below this
abbrev room : ℕ → ℕ
room zero = 1
room (suc j) = 16 * room j

differs : false ≡ true → ⊥
differs e = cc

short_by : (b : Bool) (n j d : ℕ) (acc rest : List ℕ) → (n / 16 == 0) ≡ b → n < room (suc j) → ((i : ℕ) → n / 16 < room (suc i) → length rest ≤ suc i + length (d ∷ acc))
    → length (cond b (d ∷ acc) rest) ≤ suc j + length acc
short_by true n j d acc rest is few later = omega arith
short_by false n zero d acc rest is few later = (let none : n / 16 ≡ 0 = omega (arith, few) in absurd (differs (sym is ∙ ap (λ (m : ℕ). m == 0) none)))
short_by false n (suc i) d acc rest is few later =
    (let fewer : n / 16 < room (suc i) = omega (arith, few) in
    let long = later i fewer in omega (arith, long))

onto_short : (k j n : ℕ) (acc : List ℕ) → n < room (suc j) → length (digits_onto k 16 false n acc) ≤ suc j + length acc
onto_short zero j n acc low = omega arith
onto_short (suc k) j n acc low =
    short_by (n / 16 == 0) n j (digit_glyph false (n % 16)) acc (digits_onto k 16 false (n / 16) (digit_glyph false (n % 16) ∷ acc)) refl low
    (λ i few. onto_short k i (n / 16) (digit_glyph false (n % 16) ∷ acc) few)

hex_digits : (n : ℕ) → list_all is_ascii_hexdigit (hexadecimal n) ≡ true
unfolding digits
hex_digits n = onto_hex 64 n [] refl

hex_short : (n : ℕ) → n < 18446744073709551616 → length (hexadecimal n) ≤ 16
unfolding digits
hex_short n low = onto_short 64 15 n [] low

-- a printed size reads as itself
pub size_read : (n : ℕ) → n < 18446744073709551616 → IsSize (hexadecimal n) n
size_read n low =
    let numeral = digits_is_IsNumeral 16 false (omega arith) (omega arith) n (omega (arith, low)) in
    record { are_digits = hex_digits n; some = numeral.0.0; few = hex_short n low; value = numeral.1 }
