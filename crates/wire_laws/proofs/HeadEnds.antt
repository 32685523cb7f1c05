-- The places of a head's bytes say whether they end in an empty line.
use Rattle.std.proofs.Common.{◌≡◌, ◌∙◌, inl, inr, ◌<◌, ◌≤◌, ◌+◌, ℕ, zero, suc, Bool, true, false, cond, ◌&&◌, ◌||◌, List, [], ◌∷◌, ◌++◌, length, reverse, take, Option, Some, None, refl, sym, ap, ap₂, subst, arith, append_assoc, eqb-true, true≢false}
use Rattle.std.specs.Prelude.{◌==◌, if◌then◌else◌}
use Rattle.std.proofs.lemmas.List.{reverse-append, reverse-reverse}
use Rattle.wire.specs.declared.place.ScanState.{ScanState}
use Rattle.wire.specs.declared.place.ScanState.TheVariants.{Leading, Inside, Fed, FedCr}
use Rattle.wire.specs.Heads.{end_from, end_or, head_end, place_after}
use Rattle.wire_laws.specs.HeadEnds.{EndsHead, EndsInEmptyLine, IsHeadEnd, from_first_line, is_line_end}

-- ---- bytes from the first line on, the last one first

abbrev is_fed : List ℕ → Bool
is_fed [] = false
is_fed (a ∷ back) = a == 10

abbrev follows : List ℕ → Bool
follows [] = false
follows (a ∷ back) = a == 10 || (a == 13 && is_fed back)

-- they end in an empty line
abbrev ends : List ℕ → Bool
ends [] = false
ends (a ∷ back) = a == 10 && follows back

abbrev place_by : List ℕ → ScanState
place_by [] = Leading
place_by (a ∷ back) = if a == 10 then Fed else if a == 13 && is_fed back then FedCr else Inside

-- with one byte more
abbrev onto : List ℕ → ℕ → List ℕ
onto [] b = if is_line_end b then [] else b ∷ []
onto (a ∷ back) b = b ∷ a ∷ back

abbrev onto_all : List ℕ → List ℕ → List ℕ
onto_all back [] = back
onto_all back (b ∷ bytes) = onto_all (onto back b) bytes

-- none where it has ended
abbrev well_typed : List ℕ → Option ScanState
well_typed back = if ends back then None else Some (place_by back)

-- ---- one byte

-- by whether it is an LF, and whether a CR
abbrev after : ScanState → Bool → Bool → Option ScanState
after Leading feeds returns = if returns then Some Leading else if feeds then Some Leading else Some Inside
after Inside feeds returns = if feeds then Some Fed else Some Inside
after Fed feeds returns = if feeds then None else if returns then Some FedCr else Some Inside
after FedCr feeds returns = if feeds then None else Some Inside

after_is : (p : ScanState) (b : ℕ) → place_after p b ≡ after p (b == 10) (b == 13)
after_is Leading b = refl
after_is Inside b = refl
after_is Fed b = refl
after_is FedCr b = refl

-- a line end leads on, and any other byte begins a line
first_step : (b : ℕ) (feeds returns : Bool) → (b == 10) ≡ feeds → (b == 13) ≡ returns → after Leading feeds returns ≡ well_typed (if returns || feeds then [] else b ∷ [])
first_step b feeds true f r = refl
first_step b true false f r = refl
first_step b false false f r =
    sym (ap₂ (λ (t u : Bool). cond (t && false) None (Some (cond t Fed (cond (u && false) FedCr Inside)))) f r)

later_step : (fed fed_cr feeds returns : Bool)
    → after (if fed then Fed else if fed_cr then FedCr else Inside) feeds returns ≡ (if feeds && (fed || fed_cr) then None else Some (if feeds then Fed else if returns && fed then FedCr else Inside))
later_step true b true u = refl
later_step true b false true = refl
later_step true b false false = refl
later_step false true true u = refl
later_step false true false true = refl
later_step false true false false = refl
later_step false false true u = refl
later_step false false false true = refl
later_step false false false false = refl

step_is : (back : List ℕ) (b : ℕ) → place_after (place_by back) b ≡ well_typed (onto back b)
step_is [] b = after_is Leading b ∙ first_step b (b == 10) (b == 13) refl refl
step_is (a ∷ back) b = after_is (place_by (a ∷ back)) b ∙ later_step (a == 10) (a == 13 && is_fed back) (b == 10) (b == 13)

-- ---- all bytes

-- with how many bytes they end, of which n came before these
abbrev least : List ℕ → ℕ → List ℕ → Option ℕ
least back n [] = None
least back n (b ∷ bytes) = if ends (onto back b) then Some (n + 1) else least (onto back b) (n + 1) bytes

walked : (bytes back : List ℕ) (n : ℕ) → end_from (place_by back) n bytes ≡ least back n bytes
walked [] back n = refl
walked (b ∷ bytes) back n = ap (λ o. end_or (n + 1) o (λ q. end_from q (n + 1) bytes)) (step_is back b) ∙ go (ends (onto back b)) (walked bytes (onto back b) (n + 1))
  where
    go : (t : Bool) → end_from (place_by (onto back b)) (n + 1) bytes ≡ least (onto back b) (n + 1) bytes
        → end_or (n + 1) (if t then None else Some (place_by (onto back b))) (λ q. end_from q (n + 1) bytes) ≡ (if t then Some (n + 1) else least (onto back b) (n + 1) bytes)
    go true rest = refl
    go false rest = rest

-- they end with one of these bytes first, and that many are they
record IsFirst (back : List ℕ) (m : ℕ) (bytes : List ℕ) (n : ℕ) : Type 0 where
  count : ℕ
  many : n ≡ m + count
  within : count ≤ length bytes
  ended : ends (onto_all back (take count bytes)) ≡ true
  not_before : (k : ℕ) → k < count → ends (onto_all back (take k bytes)) ≡ false

none_before : (back bytes : List ℕ) (b count : ℕ) → ends back ≡ false → ((k : ℕ) → k < count → ends (onto_all (onto back b) (take k bytes)) ≡ false) → (k : ℕ) → k < suc count → ends (onto_all back (take k (b ∷ bytes))) ≡ false
none_before back bytes b count open_yet none zero low = open_yet
none_before back bytes b count open_yet none (suc k) low = none k (omega (arith, low))

least_first : (bytes back : List ℕ) (m n : ℕ) → ends back ≡ false → least back m bytes ≡ Some n → IsFirst back m bytes n
least_first [] back m n open_yet is = absurd cc
least_first (b ∷ bytes) back m n open_yet is = go (ends (onto back b)) refl (λ f t. least_first bytes (onto back b) (m + 1) n f t) is
  where
    go : (t : Bool) → ends (onto back b) ≡ t → (ends (onto back b) ≡ false → least (onto back b) (m + 1) bytes ≡ Some n → IsFirst (onto back b) (m + 1) bytes n)
        → (if t then Some (m + 1) else least (onto back b) (m + 1) bytes) ≡ Some n → IsFirst back m (b ∷ bytes) n
    go true now rest is =
        let same : m + 1 ≡ n = cc in
        record { count = suc zero; many = omega (arith, same); within = omega arith; ended = now; not_before = none_before back bytes b zero open_yet (λ k low. absurd (omega (arith, low))) }
    go false now rest is =
        let later = rest now is in
        let more = later.many in
        let fits = later.within in
        record { count = suc later.count; many = omega (arith, more); within = omega (arith, fits); ended = later.ended; not_before = none_before back bytes b later.count open_yet later.not_before }

least_none : (bytes back : List ℕ) (m : ℕ) → ends back ≡ false → least back m bytes ≡ None → (k : ℕ) → ends (onto_all back (take k bytes)) ≡ false
least_none bytes back m open_yet is zero = open_yet
least_none [] back m open_yet is (suc k) = open_yet
least_none (b ∷ bytes) back m open_yet is (suc k) = go (ends (onto back b)) refl (λ f t. least_none bytes (onto back b) (m + 1) f t k) is
  where
    go : (t : Bool) → ends (onto back b) ≡ t → (ends (onto back b) ≡ false → least (onto back b) (m + 1) bytes ≡ None → ends (onto_all (onto back b) (take k bytes)) ≡ false)
        → (if t then Some (m + 1) else least (onto back b) (m + 1) bytes) ≡ None → ends (onto_all (onto back b) (take k bytes)) ≡ false
    go true now rest is = absurd cc
    go false now rest is = rest now is

-- ---- in the words of the definition

all_onto : (bytes : List ℕ) (a : ℕ) (back : List ℕ) → onto_all (a ∷ back) bytes ≡ reverse bytes ++ (a ∷ back)
all_onto [] a back = refl
all_onto (b ∷ bytes) a back = all_onto bytes b (a ∷ back) ∙ sym (ap (λ xs. xs ++ (a ∷ back)) (reverse-append (b ∷ []) bytes) ∙ append_assoc (reverse bytes) (b ∷ []) (a ∷ back))

from_first : (bytes : List ℕ) → reverse (onto_all [] bytes) ≡ from_first_line bytes
from_first [] = refl
from_first (b ∷ bytes) = go (is_line_end b) (from_first bytes)
  where
    go : (t : Bool) → reverse (onto_all [] bytes) ≡ from_first_line bytes → reverse (onto_all (if t then [] else b ∷ []) bytes) ≡ (if t then from_first_line bytes else b ∷ bytes)
    go true rest = rest
    go false rest = ap reverse (all_onto bytes b []) ∙ reverse-append (reverse bytes) (b ∷ []) ∙ ap (λ xs. b ∷ xs) (reverse-reverse bytes)

back_of : (bytes : List ℕ) → onto_all [] bytes ≡ reverse (from_first_line bytes)
back_of bytes = sym (reverse-reverse (onto_all [] bytes)) ∙ ap reverse (from_first bytes)

empty_ends : (xs : List ℕ) → EndsInEmptyLine xs → ends (reverse xs) ≡ true
empty_ends xs (lines, inl is) = ap (λ ys. ends (reverse ys)) is ∙ ap ends (reverse-append lines (10 ∷ 10 ∷ []))
empty_ends xs (lines, inr is) = ap (λ ys. ends (reverse ys)) is ∙ ap ends (reverse-append lines (10 ∷ 13 ∷ 10 ∷ []))

both : (a b : Bool) → (a && b) ≡ true → (a ≡ true) × (b ≡ true)
both true b is = (refl, is)
both false b is = absurd (true≢false (sym is))

ends_empty : (back : List ℕ) → ends back ≡ true → EndsInEmptyLine (reverse back)
ends_empty [] is = absurd (true≢false (sym is))
ends_empty (a ∷ []) is = absurd (true≢false (sym (both (a == 10) false is).1))
ends_empty (a ∷ b ∷ back) is =
    let parts = both (a == 10) (follows (b ∷ back)) is in
    subst (λ x. EndsInEmptyLine (reverse (x ∷ b ∷ back))) (sym (eqb-true a 10 parts.0)) (fed (b == 10) refl parts.1)
  where
    returned : (rest : List ℕ) → is_fed rest ≡ true → (b == 13) ≡ true → EndsInEmptyLine (reverse (10 ∷ b ∷ rest))
    returned [] fed_before cr = absurd (true≢false (sym fed_before))
    returned (c ∷ rest) fed_before cr = (
      reverse rest,
      inr (ap₂ (λ x y. reverse (10 ∷ x ∷ y ∷ rest)) (eqb-true b 13 cr) (eqb-true c 10 fed_before) ∙ reverse-append (10 ∷ 13 ∷ 10 ∷ []) rest),
    )

    fed : (t : Bool) → (b == 10) ≡ t → (t || (b == 13 && is_fed back)) ≡ true → EndsInEmptyLine (reverse (10 ∷ b ∷ back))
    fed true now rest = (reverse back, inl (ap (λ x. reverse (10 ∷ x ∷ back)) (eqb-true b 10 now) ∙ reverse-append (10 ∷ 10 ∷ []) back))
    fed false now rest = let cr = both (b == 13) (is_fed back) rest in returned back cr.1 cr.0

head_ends : (bytes : List ℕ) → ends (onto_all [] bytes) ≡ true → EndsHead bytes
head_ends bytes is = subst EndsInEmptyLine (from_first bytes) (ends_empty (onto_all [] bytes) is)

head_open : (bytes : List ℕ) → ends (onto_all [] bytes) ≡ false → ¬ EndsHead bytes
head_open bytes isnt ends_so = true≢false (sym (ap ends (back_of bytes) ∙ empty_ends (from_first_line bytes) ends_so) ∙ isnt)

pub one_end : (bytes : List ℕ) (n : ℕ) → head_end bytes ≡ Some n → IsHeadEnd bytes n
one_end bytes n is =
    let all = least_first bytes [] 0 n refl (sym (walked bytes [] 0) ∙ is) in
    let many = all.many in
    let same : all.count ≡ n = omega (arith, many) in
    subst (IsHeadEnd bytes) same
    (record { within = all.within; ends = head_ends (take all.count bytes) all.ended; first = λ k low. head_open (take k bytes) (all.not_before k low) })

pub no_end : (bytes : List ℕ) → head_end bytes ≡ None → (k : ℕ) → ¬ EndsHead (take k bytes)
no_end bytes is k = head_open (take k bytes) (least_none bytes [] 0 refl (sym (walked bytes [] 0) ∙ is) k)
