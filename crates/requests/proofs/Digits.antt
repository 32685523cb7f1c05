-- Digits without leading zeros are equal just where the numbers are that they write.
use Rattle.std.proofs.Common.{arith, ◌≡◌, ℕ, zero, suc, ◌+◌, ◌-◌, ◌*◌, ◌<◌, ◌≤◌, ◌⊎◌, inl, inr, Bool, true, false, leb, not, ◌&&◌, List, [], ◌∷◌, ◌++◌, length, take, drop, refl, sym, ap, ap₂, ◌∙◌}
use Rattle.std.specs.Prelude.{nat_eq, ◌==◌, if◌then◌else◌}
use Rattle.std.specs.Char.{is_ascii_digit}
use Rattle.std.specs.List.{list_all}
use Rattle.std.specs.Str.{bytes_eq}
use Rattle.std.proofs.lemmas.Bool.{eqb-true, leb-true}
use Rattle.std.proofs.lemmas.Bool.Decides.{Decides-eqb, Decides-like, same_from_decides}
use Rattle.std.proofs.lemmas.Slice.Eq.{bytes_eq-Decides}
use Rattle.std.proofs.lemmas.List.{take-append-drop, length-drop, length-take}
use Rattle.wire.specs.Lengths.{decimal_value, is_length, length_in, number_after}
use Rattle.wire.proofs.Lengths.{length_is, length_isnt}
use Rattle.requests.specs.Heads.{number, malformed, agreed, length_said}
use Rattle.requests.specs.Views.{begins_plain, is_plain, without_zeros}

and_parts : (a b : Bool) → a && b ≡ true → (a ≡ true) × (b ≡ true)
and_parts true b h = (refl, h)
and_parts false b h = absurd cc

digit_range : (b : ℕ) → is_ascii_digit b ≡ true → (48 ≤ b) × (b ≤ 57)
digit_range b is = let parts = and_parts (leb 48 b) (leb b 57) is in (leb-true 48 b parts.0, leb-true b 57 parts.1)

-- ---- as many digits

same_ends : (m n : ℕ) (ds es : List ℕ) → length ds ≡ length es → list_all is_ascii_digit ds ≡ true → list_all is_ascii_digit es ≡ true
    → number_after m ds ≡ number_after n es → (m ≡ n) × (ds ≡ es)
same_ends m n [] [] long ds-are es-are is = (is, refl)
same_ends m n [] (e ∷ es) long ds-are es-are is = absurd (omega (arith, long))
same_ends m n (d ∷ ds) [] long ds-are es-are is = absurd (omega (arith, long))
same_ends m n (d ∷ ds) (e ∷ es) long ds-are es-are is =
    let one = and_parts (is_ascii_digit d) (list_all is_ascii_digit ds) ds-are in
    let other = and_parts (is_ascii_digit e) (list_all is_ascii_digit es) es-are in
    let rest = same_ends (m * 10 + (d - 48)) (n * 10 + (e - 48)) ds es (omega (arith, long)) one.1 other.1 is in
    let d-in = digit_range d one.0 in
    let e-in = digit_range e other.0 in
    let heads : m * 10 + (d - 48) ≡ n * 10 + (e - 48) = rest.0 in
    let first : m ≡ n = omega (arith, heads, d-in.0, d-in.1, e-in.0, e-in.1) in
    let same : d ≡ e = omega (arith, heads, d-in.0, d-in.1, e-in.0, e-in.1) in
    (first, ap₂ (λ (x : ℕ) (xs : List ℕ). x ∷ xs) same rest.1)

-- ---- more digits write a greater number

grows : (n : ℕ) (ds : List ℕ) → n ≤ number_after n ds
grows n [] = omega arith
grows n (d ∷ ds) = let more = grows (n * 10 + (d - 48)) ds in omega (arith, more)

after_both : (n : ℕ) (ds es : List ℕ) → number_after n (ds ++ es) ≡ number_after (number_after n ds) es
after_both n [] es = refl
after_both n (d ∷ ds) es = after_both (n * 10 + (d - 48)) ds es

all_parts : (ds es : List ℕ) → list_all is_ascii_digit (ds ++ es) ≡ true → list_all is_ascii_digit es ≡ true
all_parts [] es all = all
all_parts (d ∷ ds) es all = all_parts ds es (and_parts (is_ascii_digit d) (list_all is_ascii_digit (ds ++ es)) all).1

isnt_zero : (b : ℕ) → not (b == 48) ≡ true → b ≡ 48 → ⊥
isnt_zero b isnt is = let wrong : false ≡ true = sym (ap (λ (x : ℕ). not (x == 48)) is) ∙ isnt in absurd cc

-- the same number by some digits and by a plain front and as many digits
shorter : (ds prefix rest : List ℕ) → length ds ≡ length rest → 0 < length prefix → is_plain (prefix ++ rest) ≡ true → list_all is_ascii_digit ds ≡ true
    → decimal_value ds ≡ decimal_value (prefix ++ rest) → ⊥
shorter ds [] rest long some plain ds-are is = omega (arith, some)
shorter ds (f ∷ prefix) rest long some plain ds-are is =
    let parts = and_parts (list_all is_ascii_digit (f ∷ (prefix ++ rest))) (begins_plain (f ∷ (prefix ++ rest))) plain in
    let range = digit_range f (and_parts (is_ascii_digit f) (list_all is_ascii_digit (prefix ++ rest)) parts.0).0 in
    let none = same_ends 0 (number_after 0 (f ∷ prefix)) ds rest long ds-are (all_parts (f ∷ prefix) rest parts.0) (is ∙ after_both 0 (f ∷ prefix) rest) in
    let zero_is : 0 ≡ number_after (0 * 10 + (f - 48)) prefix = none.0 in
    let more = grows (0 * 10 + (f - 48)) prefix in
    let low : f ≡ 48 = omega (arith, zero_is, more, range.0) in
    isnt_zero f parts.1 low

longer : (ds es : List ℕ) → length ds < length es → list_all is_ascii_digit ds ≡ true → is_plain es ≡ true → decimal_value ds ≡ decimal_value es → ⊥
longer ds es long ds-are plain is =
    let n = length es - length ds in
    let whole = take-append-drop n es in
    let left = length-drop n es in
    let taken = length-take n es in
    shorter ds (take n es) (drop n es) (omega (arith, left, long)) (omega (arith, taken, long)) (ap is_plain whole ∙ plain) ds-are (is ∙ sym (ap decimal_value whole))

by_length : (x y : ℕ) → (x < y) ⊎ ((x ≡ y) ⊎ (y < x))
by_length zero zero = inr (inl refl)
by_length zero (suc y) = inl (omega arith)
by_length (suc x) zero = inr (inr (omega arith))
by_length (suc x) (suc y) = go (by_length x y)
  where
    go : (x < y) ⊎ ((x ≡ y) ⊎ (y < x)) → (suc x < suc y) ⊎ ((suc x ≡ suc y) ⊎ (suc y < suc x))
    go (inl low) = inl (omega (arith, low))
    go (inr (inl is)) = inr (inl (ap suc is))
    go (inr (inr low)) = inr (inr (omega (arith, low)))

pub same_digits : (ds es : List ℕ) → is_plain ds ≡ true → is_plain es ≡ true → decimal_value ds ≡ decimal_value es → ds ≡ es
same_digits ds es ds-plain es-plain is = go (by_length (length ds) (length es))
  where
    ds-are : list_all is_ascii_digit ds ≡ true
    ds-are = (and_parts (list_all is_ascii_digit ds) (begins_plain ds) ds-plain).0

    es-are : list_all is_ascii_digit es ≡ true
    es-are = (and_parts (list_all is_ascii_digit es) (begins_plain es) es-plain).0

    go : (length ds < length es) ⊎ ((length ds ≡ length es) ⊎ (length es < length ds)) → ds ≡ es
    go (inl low) = absurd (longer ds es low ds-are es-plain is)
    go (inr (inl long)) = (same_ends 0 0 ds es long ds-are es-are is).1
    go (inr (inr low)) = absurd (longer es ds low es-are ds-plain (sym is))

pub digits_by_value : (ds es : List ℕ) → is_plain ds ≡ true → is_plain es ≡ true → bytes_eq ds es ≡ nat_eq (decimal_value ds) (decimal_value es)
digits_by_value ds es ds-plain es-plain =
    same_from_decides (bytes_eq ds es) (nat_eq (decimal_value ds) (decimal_value es)) (bytes_eq-Decides ds es)
    (Decides-like (nat_eq (decimal_value ds) (decimal_value es)) (same_digits ds es ds-plain es-plain) (ap decimal_value) (Decides-eqb (decimal_value ds) (decimal_value es)))

-- ---- what fields say

pub agreed_not : (ds es : List ℕ) → is_plain ds ≡ true → is_plain es ≡ true → bytes_eq ds es ≡ false → malformed ≡ agreed (number (decimal_value ds)) (number (decimal_value es))
agreed_not ds es ds-plain es-plain is =
    sym (ap (λ (t : Bool). if t then number (decimal_value ds) else malformed) (sym (digits_by_value ds es ds-plain es-plain) ∙ is))

both : (a b : Bool) → a ≡ true → b ≡ true → a && b ≡ true
both true b x y = y
both false b x y = absurd cc

zero_first : (b : ℕ) (ds : List ℕ) → (b == 48) ≡ true → decimal_value ds ≡ decimal_value (b ∷ ds)
zero_first b ds is = let same = eqb-true b 48 is in ap (λ (n : ℕ). number_after n ds) (omega (arith, same))

pub zeros : (ds : List ℕ) → decimal_value (without_zeros ds) ≡ decimal_value ds
zeros [] = refl
zeros (b ∷ ds) = go (zeros ds) (b == 48) refl
  where
    go : decimal_value (without_zeros ds) ≡ decimal_value ds → (t : Bool) → (b == 48) ≡ t → decimal_value (if t then without_zeros ds else b ∷ ds) ≡ decimal_value (b ∷ ds)
    go later true is = later ∙ zero_first b ds is
    go later false is = refl

plain_digits : (ds : List ℕ) → list_all is_ascii_digit ds ≡ true → is_plain (without_zeros ds) ≡ true
plain_digits [] are = refl
plain_digits (b ∷ ds) are = go (plain_digits ds (and_parts (is_ascii_digit b) (list_all is_ascii_digit ds) are).1) (b == 48) refl
  where
    go : is_plain (without_zeros ds) ≡ true → (t : Bool) → (b == 48) ≡ t → is_plain (if t then without_zeros ds else b ∷ ds) ≡ true
    go later true is = later
    go later false is = both (list_all is_ascii_digit (b ∷ ds)) (not (b == 48)) are (ap not is)

pub plain : (ds : List ℕ) → is_length ds ≡ true → is_plain (without_zeros ds) ≡ true
plain [] is = absurd cc
plain (b ∷ ds) is = plain_digits (b ∷ ds) is

pub said : (ds : List ℕ) → is_length ds ≡ true → number (decimal_value (without_zeros ds)) ≡ length_said (length_in ds)
said ds is = ap (λ (n : ℕ). number n) (zeros ds) ∙ sym (ap length_said (length_is ds is))

pub unsaid : (ds : List ℕ) → is_length ds ≡ false → malformed ≡ length_said (length_in ds)
unsaid ds isnt = sym (ap length_said (length_isnt ds isnt))
