-- The size of a chunk that is too long for 16 digits.
use Rattle.std.proofs.Common.{arith, ◌≡◌, ℕ, ◌+◌, ◌*◌, ◌/◌, ◌%◌, ◌<◌, ◌≤◌, zero, suc, Bool, true, false, cond, List, [], ◌∷◌, length, refl, sym, ap, ◌∙◌}
use Rattle.std.specs.Prelude.{◌&&◌, ◌==◌}
use Rattle.std.specs.Char.{is_ascii_hexdigit}
use Rattle.std.specs.Fmt.{digit_glyph, digits, digits_onto}
use Rattle.std.specs.List.{list_all}
use Rattle.std.proofs.lemmas.Bool.{eqb-true}
use Rattle.std.proofs.lemmas.Fmt.{hex_one_digit}
use Rattle.wire.specs.Lengths.{hexadecimal}
use Rattle.wire.proofs.Sizes.{size_read}
use Rattle.wire_laws.proofs.Fields.{and_first}

-- ---- hexadecimal digits

glyph_hex : (d : ℕ) → d < 16 → is_ascii_hexdigit (digit_glyph false d) ≡ true
glyph_hex d low =
    let one = size_read d (omega (arith, low)) in
    and_first (is_ascii_hexdigit (digit_glyph false d)) true (ap (list_all is_ascii_hexdigit) (sym (hex_one_digit false d low)) ∙ one.are_digits)

hex_by : (b : Bool) (xs ys : List ℕ) → list_all is_ascii_hexdigit xs ≡ true → list_all is_ascii_hexdigit ys ≡ true → list_all is_ascii_hexdigit (cond b xs ys) ≡ true
hex_by true xs ys one other = one
hex_by false xs ys one other = other

onto_hex : (k n : ℕ) (acc : List ℕ) → list_all is_ascii_hexdigit acc ≡ true → list_all is_ascii_hexdigit (digits_onto k 16 false n acc) ≡ true
onto_hex zero n acc are = are
onto_hex (suc k) n acc are =
    let first : list_all is_ascii_hexdigit (digit_glyph false (n % 16) ∷ acc) ≡ true = ap (λ (b : Bool). b && list_all is_ascii_hexdigit acc) (glyph_hex (n % 16) (omega arith)) ∙ are in
    hex_by (n / 16 == 0) (digit_glyph false (n % 16) ∷ acc) (digits_onto k 16 false (n / 16) (digit_glyph false (n % 16) ∷ acc)) first (onto_hex k (n / 16) (digit_glyph false (n % 16) ∷ acc) first)

pub hex_digits : (n : ℕ) → list_all is_ascii_hexdigit (hexadecimal n) ≡ true
unfolding digits
hex_digits n = onto_hex 64 n [] refl

-- ---- how many

long_by : (b : Bool) (low : ℕ) (xs ys : List ℕ) → (b ≡ true → low ≤ length xs) → low ≤ length ys → low ≤ length (cond b xs ys)
long_by true low xs ys one other = one refl
long_by false low xs ys one other = other

onto_grows : (k n : ℕ) (acc : List ℕ) → length acc ≤ length (digits_onto k 16 false n acc)
onto_grows zero n acc = omega arith
onto_grows (suc k) n acc =
    let more : suc (length acc) ≤ length (digits_onto k 16 false (n / 16) (digit_glyph false (n % 16) ∷ acc)) = onto_grows k (n / 16) (digit_glyph false (n % 16) ∷ acc) in
    long_by (n / 16 == 0) (length acc) (digit_glyph false (n % 16) ∷ acc) (digits_onto k 16 false (n / 16) (digit_glyph false (n % 16) ∷ acc)) (λ is. omega arith) (omega (arith, more))

-- the least number of so many digits and one
abbrev least : ℕ → ℕ
least zero = 1
least (suc j) = 16 * least j

least_some : (j : ℕ) → 1 ≤ least j
least_some zero = omega arith
least_some (suc j) = let some = least_some j in omega (arith, some)

onto_long : (k j n : ℕ) (acc : List ℕ) → j < k → least j ≤ n → suc j + length acc ≤ length (digits_onto k 16 false n acc)
onto_long zero j n acc room high = absurd (omega (arith, room))
onto_long (suc k) zero n acc room high =
    let more : suc (length acc) ≤ length (digits_onto k 16 false (n / 16) (digit_glyph false (n % 16) ∷ acc)) = onto_grows k (n / 16) (digit_glyph false (n % 16) ∷ acc) in
    long_by (n / 16 == 0) (1 + length acc) (digit_glyph false (n % 16) ∷ acc) (digits_onto k 16 false (n / 16) (digit_glyph false (n % 16) ∷ acc)) (λ is. omega arith) (omega (arith, more))
onto_long (suc k) (suc j) n acc room high =
    let some = least_some j in
    let more : suc j + suc (length acc) ≤ length (digits_onto k 16 false (n / 16) (digit_glyph false (n % 16) ∷ acc)) =
    onto_long k j (n / 16) (digit_glyph false (n % 16) ∷ acc) (omega (arith, room)) (omega (arith, high)) in
    long_by (n / 16 == 0) (suc (suc j) + length acc) (digit_glyph false (n % 16) ∷ acc) (digits_onto k 16 false (n / 16) (digit_glyph false (n % 16) ∷ acc))
    (λ is. let none = eqb-true (n / 16) 0 is in absurd (omega (arith, none, high, some))) (omega (arith, more))

pub hex_long : (n : ℕ) → 18446744073709551616 ≤ n → 16 < length (hexadecimal n)
unfolding digits
hex_long n high = let long = onto_long 64 16 n [] (omega arith) high in omega (arith, long)
