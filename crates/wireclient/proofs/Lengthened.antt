-- Bytes that only lengthen what is kept, and of which nothing is emitted.
use Rattle.std.proofs.Common.{arith, ◌≡◌, ℕ, ◌+◌, ◌-◌, ◌<◌, ◌≤◌, min, Bool, true, false, cond, leb, List, [], ◌∷◌, ◌++◌, length, Option, Some, None, suc, unwrap_or, take, drop, refl, sym, ap, ap₂, subst, ◌∙◌, append_assoc, append-nil, take-append-drop}
use Rattle.std.proofs.lemmas.Bool.{lt-leb, ne_eqb}
use Rattle.std.proofs.lemmas.List.{length-append, length-take, take-append-le, take_all}
use Rattle.std.proofs.lemmas.List.Sums.{prefix_len-le-length, position_or_len_is}
use Rattle.std.specs.Prelude.{◌||◌, ◌==◌, not}
use Rattle.std.specs.List.{list_any, position_or_len}
use Rattle.memchr.specs.Find.{IsFirstByte, is_byte}
use Rattle.wireclient.specs.Reads.{CheckedAt, Reaches, TakesIn}
use Rattle.wireclient.specs.Reply.{whole, line, end, State, body, data_in, data_cr, ended, broken, max_line, Next, fails, goes_to, data_after, step}

pub none_first : (a b : Bool) → (a || b) ≡ false → a ≡ false
none_first true b is = absurd cc
none_first false b is = refl

pub none_rest : (a b : Bool) → (a || b) ≡ false → b ≡ false
none_rest true b is = absurd cc
none_rest false b is = is

-- a byte of which nothing is emitted
quiet : (s m t : State) (b : ℕ) (bytes : List ℕ) → step None s b ≡ goes_to m → CheckedAt s b None → Reaches m bytes t [] → Reaches s (b ∷ bytes) t []
quiet s m t b bytes next checked rest = (
  None,
  [],
  checked,
  subst (λ (n : Next). Reaches n.0 bytes t []) (sym next) rest,
  sym (ap (λ (n : Next). n.1 ++ []) next),
)

-- ---- a body

pub more_of_body : (t : Bool) (bytes : List ℕ) (left : ℕ) → t ≡ false → cond t (ended, whole bytes ∷ end ∷ []) (goes_to (body left bytes)) ≡ goes_to (body left bytes)
more_of_body true bytes left is = absurd cc
more_of_body false bytes left is = refl

body_longer : (left : ℕ) (seen bytes : List ℕ) → length bytes ≤ left - 1 → Reaches (body left seen) bytes (body (left - length bytes) (seen ++ bytes)) []
body_longer left seen [] fits = (ap₂ (λ (n : ℕ) (xs : List ℕ). body n xs) (omega arith) (append-nil seen), refl)
body_longer left seen (b ∷ bytes) fits =
    let next : step None (body left seen) b ≡ goes_to (body (left - 1) (seen ++ b ∷ [])) = more_of_body (leb left 1) (seen ++ b ∷ []) (left - 1) (lt-leb _ _ (omega (arith, fits))) in
    let rest = body_longer (left - 1) (seen ++ b ∷ []) bytes (omega (arith, fits)) in
    let counted : left - 1 - length bytes ≡ left - length (b ∷ bytes) = omega arith in
    let same = subst (λ (n : ℕ). Reaches (body (left - 1) (seen ++ b ∷ [])) bytes (body n ((seen ++ b ∷ []) ++ bytes)) []) counted rest in
    quiet (body left seen) (body (left - 1) (seen ++ b ∷ [])) (body (left - length (b ∷ bytes)) (seen ++ b ∷ bytes)) b bytes next tt
    (subst (λ (xs : List ℕ). Reaches (body (left - 1) (seen ++ b ∷ [])) bytes (body (left - length (b ∷ bytes)) xs) []) (append_assoc seen (b ∷ []) bytes) same)

-- ---- a line

pub data_next : (s t : Bool) (left : ℕ) (text : List ℕ) (b : ℕ) → s ≡ false
    → ◌≡◌ {A = Next} (cond s fails (cond t (data_after left [], line text ∷ []) (goes_to (data_after left (text ++ b ∷ []))))) (data_after left (cond t [] (text ++ b ∷ [])), cond t (line text ∷ []) [])
data_next true t left text b is = absurd cc
data_next false true left text b is = refl
data_next false false left text b is = refl

pub after_more : (left : ℕ) (text : List ℕ) → 0 < left → data_after left text ≡ data_in left text
after_more left text some = go (left == 0) (ne_eqb left 0 (λ e. absurd (omega (arith, e, some))))
  where
    go : (t : Bool) → t ≡ false → cond t (data_cr text) (data_in left text) ≡ data_in left text
    go true is = absurd cc
    go false is = refl

text_next : (s t : Bool) (left : ℕ) (text : List ℕ) (b : ℕ) → s ≡ false → t ≡ false
    → ◌≡◌ {A = Next} (cond s fails (cond t (data_after left [], line text ∷ []) (goes_to (data_after left (text ++ b ∷ []))))) (goes_to (data_after left (text ++ b ∷ [])))
text_next true t left text b s-is t-is = absurd cc
text_next false true left text b s-is t-is = absurd cc
text_next false false left text b s-is t-is = refl

line_longer : (left : ℕ) (text bytes : List ℕ) → length bytes ≤ left - 1 → length bytes ≤ max_line - length text → list_any (λ b. b == 10) bytes ≡ false
    → Reaches (data_in left text) bytes (data_in (left - length bytes) (text ++ bytes)) []
line_longer left text [] fits room one = (ap₂ (λ (n : ℕ) (xs : List ℕ). data_in n xs) (omega arith) (append-nil text), refl)
line_longer left text (b ∷ bytes) fits room one =
    let next : step None (data_in left text) b ≡ goes_to (data_in (left - 1) (text ++ b ∷ [])) =
    text_next (leb max_line (length text)) (b == 10) (left - 1) text b (lt-leb _ _ (omega (arith, room))) (none_first (b == 10) (list_any (λ c. c == 10) bytes) one)
    ∙ ap (λ (s : State). goes_to s) (after_more (left - 1) (text ++ b ∷ []) (omega (arith, fits))) in
    let long : length (text ++ b ∷ []) ≡ length text + 1 = length-append text (b ∷ []) in
    let rest = line_longer (left - 1) (text ++ b ∷ []) bytes (omega (arith, fits)) (omega (arith, long, room)) (none_rest (b == 10) (list_any (λ c. c == 10) bytes) one) in
    let counted : left - 1 - length bytes ≡ left - length (b ∷ bytes) = omega arith in
    let same = subst (λ (n : ℕ). Reaches (data_in (left - 1) (text ++ b ∷ [])) bytes (data_in n ((text ++ b ∷ []) ++ bytes)) []) counted rest in
    quiet (data_in left text) (data_in (left - 1) (text ++ b ∷ [])) (data_in (left - length (b ∷ bytes)) (text ++ b ∷ bytes)) b bytes next tt
    (subst (λ (xs : List ℕ). Reaches (data_in (left - 1) (text ++ b ∷ [])) bytes (data_in (left - length (b ∷ bytes)) xs) []) (append_assoc text (b ∷ []) bytes) same)

not_true : (b : Bool) → ¬ (b ≡ true) → b ≡ false
not_true true isnt = absurd (isnt refl)
not_true false isnt = refl

pub first_feed : (bytes : List ℕ) (r : Option ℕ) → IsFirstByte (is_byte 10) bytes r → unwrap_or r (length bytes) ≡ position_or_len (λ b. b == 10) bytes
first_feed bytes None none =
    sym (position_or_len_is (λ b. b == 10) bytes (length bytes) 0 (omega arith) (λ k lt. not_true _ (none k (omega arith) lt)) (λ lt. absurd (omega (arith, lt))))
first_feed bytes (Some k) first =
    sym (position_or_len_is (λ b. b == 10) bytes k 0 (omega (arith, first.0.high)) (λ j lt. not_true _ (first.0.before j (omega arith) lt)) (λ lt. first.1))

-- before its first line feed a text has none
pub before_first_none : (bytes : List ℕ) → list_any (λ b. b == 10) (take (position_or_len (λ b. b == 10) bytes) bytes) ≡ false
before_first_none [] = refl
before_first_none (b ∷ bytes) = go (position_or_len (λ b. b == 10) bytes) (before_first_none bytes) (b == 10) refl
  where
    go : (n : ℕ) → list_any (λ b. b == 10) (take n bytes) ≡ false → (t : Bool) → (b == 10) ≡ t → list_any (λ b. b == 10) (take (cond (not t) (1 + n) 0) (b ∷ bytes)) ≡ false
    go n rest true is = refl
    go n rest false is =
        let next : 1 + n ≡ suc n = omega arith in
        rw next (ap (λ (a : Bool). a || list_any (λ b. b == 10) (take n bytes)) is ∙ rest)

-- ---- the end, and after a bad byte

pub after_end : (bytes : List ℕ) → Reaches ended bytes ended []
after_end [] = (refl, refl)
after_end (b ∷ bytes) = (None, [], tt, after_end bytes, refl)

pub after_broken : (bytes : List ℕ) → Reaches broken bytes broken []
after_broken [] = (refl, refl)
after_broken (b ∷ bytes) = (None, [], tt, after_broken bytes, refl)

-- ---- the first bytes of a piece

pub takes_none : (s : State) (bytes : List ℕ) → TakesIn s bytes 0 s
takes_none s bytes = (omega arith, (refl, refl))

pub takes_all : (s : State) (bytes : List ℕ) → Reaches s bytes s [] → TakesIn s bytes (length bytes) s
takes_all s bytes reaches = (omega arith, subst (λ (xs : List ℕ). Reaches s xs s []) (sym (take_all (length bytes) bytes (omega arith))) reaches)

pub takes_body : (left n : ℕ) (seen bytes news : List ℕ) → n ≡ min (left - 1) (length bytes) → news ≡ seen ++ take n bytes → TakesIn (body left seen) bytes n (body (left - n) news)
takes_body left n seen bytes news is new =
    let within : n ≤ length bytes = omega (arith, is) in
    let long : length (take n bytes) ≡ n = length-take n bytes ∙ omega (arith, is) in
    let reaches = body_longer left seen (take n bytes) (omega (arith, is, long)) in
    (within, subst (λ (xs : List ℕ). Reaches (body left seen) (take n bytes) (body (left - n) xs) []) (sym new) (subst (λ (m : ℕ). Reaches (body left seen) (take n bytes) (body (left - m) (seen ++ take n bytes)) []) long reaches))

-- how many are taken of a line: no more than there is room for
pub counted : (room n : ℕ) (bytes : List ℕ) → room ≤ length bytes → n ≡ position_or_len (λ b. b == 10) (take room bytes) → n ≤ room
counted room n bytes within is =
    let long : length (take room bytes) ≡ room = length-take room bytes ∙ omega (arith, within) in
    let less = prefix_len-le-length (λ (b : ℕ). not (b == 10)) (take room bytes) in
    omega (arith, is, less, long)

take_within : (n m : ℕ) (bytes : List ℕ) → n ≤ m → m ≤ length bytes → take n (take m bytes) ≡ take n bytes
take_within n m bytes less within =
    let long : length (take m bytes) ≡ m = length-take m bytes ∙ omega (arith, within) in
    sym (take-append-le n (take m bytes) (drop m bytes) (omega (arith, long, less))) ∙ ap (take n) (take-append-drop m bytes)

pub takes_line : (left room n : ℕ) (text bytes news : List ℕ) → room ≡ min (min (left - 1) (length bytes)) (max_line - length text) → n ≡ position_or_len (λ b. b == 10) (take room bytes) → news ≡ text ++ take n bytes
    → TakesIn (data_in left text) bytes n (data_in (left - n) news)
takes_line left room n text bytes news is first new =
    let less : n ≤ room = counted room n bytes (omega (arith, is)) first in
    let long : length (take n bytes) ≡ n = length-take n bytes ∙ omega (arith, is, less) in
    let one : list_any (λ b. b == 10) (take n bytes) ≡ false =
    subst (λ (xs : List ℕ). list_any (λ b. b == 10) xs ≡ false) (take_within n room bytes less (omega (arith, is)))
    (subst (λ (m : ℕ). list_any (λ b. b == 10) (take m (take room bytes)) ≡ false) (sym first) (before_first_none (take room bytes))) in
    let reaches = line_longer left text (take n bytes) (omega (arith, is, less, long)) (omega (arith, is, less, long)) one in
    (omega (arith, is, less), subst (λ (xs : List ℕ). Reaches (data_in left text) (take n bytes) (data_in (left - n) xs) []) (sym new) (subst (λ (m : ℕ). Reaches (data_in left text) (take n bytes) (data_in (left - m) (text ++ take n bytes)) []) long reaches))
