-- The bytes of a text.
use Rattle.std.proofs.Common.{◌≡◌, ◌<◌, ◌≤◌, ◌+◌, ◌/◌, ◌%◌, ℕ, Bool, true, false, cond, inl, inr, List, [], ◌∷◌, refl, subst, arith}
use Rattle.std.specs.Prelude.{IsUtf8, nat_lt, ◌⊎◌}
use Rattle.std.specs.List.{All}
use Rattle.std.specs.Str.{encode_utf8_all, all_scalars}
use Rattle.std.specs.Char.{encode_utf8}
use Rattle.std.proofs.lemmas.Bool.{and_parts, ltb-true}
use Rattle.std.proofs.lemmas.List.Elements.{All-append, All-cons, All-nil}
use lib.Utf8.{scalar, scalar_cases}

abbrev AreBytes : List ℕ → Type 0
AreBytes bs = All (λ b. b < 256) bs

none : AreBytes []
none = All-nil (λ b. b < 256)

more : (a : ℕ) (rest : List ℕ) → a < 256 → AreBytes rest → AreBytes (a ∷ rest)
more a rest low all = All-cons (λ b. b < 256) a rest low all

two : (a b : ℕ) → a < 256 → b < 256 → AreBytes (a ∷ b ∷ [])
two a b la lb = more a (b ∷ []) la (more b [] lb none)

three : (a b c : ℕ) → a < 256 → b < 256 → c < 256 → AreBytes (a ∷ b ∷ c ∷ [])
three a b c la lb lc = more a (b ∷ c ∷ []) la (two b c lb lc)

next_low : (c : ℕ) → 128 + c % 64 < 256
next_low c = omega arith

encoded : (c : ℕ) (b1 b2 b3 : Bool) → nat_lt c 128 ≡ b1 → nat_lt c 2048 ≡ b2 → nat_lt c 65536 ≡ b3 → c < 1114112
    → AreBytes (cond b1 (c ∷ []) (cond b2 ((192 + c / 64) ∷ (128 + c % 64) ∷ []) (cond b3 ((224 + c / 4096) ∷ (128 + c / 64 % 64) ∷ (128 + c % 64) ∷ []) ((240 + c / 262144) ∷ (128 + c / 4096 % 64) ∷ (128 + c / 64 % 64) ∷ (128 + c % 64) ∷ []))))
encoded c true b2 b3 is1 is2 is3 low = let lt : c < 128 = ltb-true c 128 is1 in more c [] (omega (arith, lt)) none
encoded c false true b3 is1 is2 is3 low = let lt : c < 2048 = ltb-true c 2048 is2 in two (192 + c / 64) (128 + c % 64) (omega (arith, lt)) (next_low c)
encoded c false false true is1 is2 is3 low =
    let lt : c < 65536 = ltb-true c 65536 is3 in three (224 + c / 4096) (128 + c / 64 % 64) (128 + c % 64) (omega (arith, lt)) (next_low (c / 64)) (next_low c)
encoded c false false false is1 is2 is3 low =
    more (240 + c / 262144) ((128 + c / 4096 % 64) ∷ (128 + c / 64 % 64) ∷ (128 + c % 64) ∷ []) (omega (arith, low))
    (three (128 + c / 4096 % 64) (128 + c / 64 % 64) (128 + c % 64) (next_low (c / 4096)) (next_low (c / 64)) (next_low c))

one_encoded : (c : ℕ) → c < 1114112 → AreBytes (encode_utf8 c)
unfolding encode_utf8
one_encoded c low = encoded c (nat_lt c 128) (nat_lt c 2048) (nat_lt c 65536) refl refl refl low

low_by : (c : ℕ) → (c < 55296) ⊎ ((57344 ≤ c) × (c < 1114112)) → c < 1114112
low_by c (inl h) = omega (arith, h)
low_by c (inr h) = h.1

all_encoded : (cs : List ℕ) → all_scalars cs ≡ true → AreBytes (encode_utf8_all cs)
all_encoded [] is = none
all_encoded (c ∷ cs) is =
    let parts = and_parts (scalar c) (all_scalars cs) is in
    All-append (λ b. b < 256) (encode_utf8 c) (encode_utf8_all cs) (one_encoded c (low_by c (scalar_cases c parts.0))) (all_encoded cs parts.1)

-- the bytes of a text are bytes
pub text_bytes : (bs : List ℕ) → IsUtf8 bs → AreBytes bs
text_bytes bs (cs, (is, same)) = subst AreBytes same (all_encoded cs is)
