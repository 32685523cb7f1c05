-- The last digits of numbers: how many they are, and which numbers have the same.
use Rattle.std.proofs.Common.{◌≡◌, ◌∙◌, ℕ, zero, suc, ◌+◌, ◌-◌, ◌*◌, ◌/◌, ◌%◌, ◌<◌, ◌==◌, ◌&&◌, not, Bool, true, false, inl, inr, List, [], ◌∷◌, ◌++◌, length, get_or, take, drop, refl, sym, ap, ap₂, arith, take_at, drop_at, append_assoc, length-append, div-one, div-add-mod', mod-lt}
use Rattle.std.proofs.Math.Nat.{div-div-eq-div-mul}
use Rattle.std.specs.Char.{is_ascii}
use Rattle.std.specs.List.{list_any, list_all}
use Rattle.std.proofs.lemmas.Bool.{and_parts, both_ways, cases_Bool, eq-eqb, ltb-true, not-true}
use Rattle.std.proofs.lemmas.List.Folds.{list_all_at, list_any_at}
use Rattle.system_metadata.specs.Digits.{last_digits}

pub no_digits : (letters : List ℕ) (n : ℕ) → last_digits letters 0 n ≡ []
unfolding last_digits
no_digits letters n = refl

pub more_digits : (letters : List ℕ) (count n : ℕ) → last_digits letters (suc count) n ≡ last_digits letters count (n / length letters) ++ get_or letters (n % length letters) 0 ∷ []
unfolding last_digits
more_digits letters count n = refl

pub length-last_digits : (letters : List ℕ) (count n : ℕ) → length (last_digits letters count n) ≡ count
length-last_digits letters zero n = ap length (no_digits letters n)
length-last_digits letters (suc count) n =
    let shorter = length-last_digits letters count (n / length letters) in
    let whole = length-append (last_digits letters count (n / length letters)) (get_or letters (n % length letters) 0 ∷ []) in
    ap length (more_digits letters count n) ∙ omega (arith, shorter, whole)

-- a digit behind the others
pub one_more_digit : (letters start old : List ℕ) (count n digit : ℕ) → 0 < count → old ≡ start ++ last_digits letters (count - 1) (n / length letters) → digit ≡ get_or letters (n % length letters) 0 → old ++ digit ∷ [] ≡ start ++ last_digits letters count n
one_more_digit letters start old zero n digit some is e = absurd (omega (arith, some))
one_more_digit letters start old (suc count) n digit some is e =
    let back : suc count - 1 ≡ count = omega arith in
    let others = last_digits letters count (n / length letters) in
    ap (λ o. o ++ digit ∷ []) (is ∙ ap (λ k. start ++ last_digits letters k (n / length letters)) back)
    ∙ append_assoc start others (digit ∷ [])
    ∙ ap (λ d. start ++ (others ++ d ∷ [])) e
    ∙ ap (λ ds. start ++ ds) (sym (more_digits letters count n))

-- letters of ASCII alone
pub ascii_at : (letters : List ℕ) (i : ℕ) → list_all is_ascii letters ≡ true → i < length letters → get_or letters i 0 < 128
ascii_at letters i all lt =
    elim (cases_Bool (is_ascii (get_or letters i 0))) [
      | inl is ↦ ltb-true _ _ is
      | inr other ↦ absurd (both_ways (list_all is_ascii letters) (list_all_at is_ascii letters i 0 lt other) all)
    ]

-- ---- letters that differ

abbrev pub Differ : List ℕ → Type 0
Differ letters = (i j : ℕ) → i < length letters → j < length letters → get_or letters i 0 ≡ get_or letters j 0 → i ≡ j

abbrev pub all_differ : List ℕ → Bool
all_differ [] = true
all_differ (x ∷ xs) = not (list_any (λ y. x == y) xs) && all_differ xs

apart : (x : ℕ) (xs : List ℕ) (j : ℕ) → all_differ (x ∷ xs) ≡ true → j < length xs → x ≡ get_or xs j 0 → ⊥
apart x xs j e lt same =
    let without : list_any (λ y. x == y) xs ≡ false = not-true _ (and_parts (not (list_any (λ y. x == y) xs)) (all_differ xs) e).0 in
    both_ways (list_any (λ y. x == y) xs) without (list_any_at (λ y. x == y) xs j 0 lt (eq-eqb _ _ same))

pub differ : (letters : List ℕ) → all_differ letters ≡ true → Differ letters
differ [] e i j hi hj same = absurd (omega (arith, hi))
differ (x ∷ xs) e zero zero hi hj same = refl
differ (x ∷ xs) e zero (suc j) hi hj same = absurd (apart x xs j e (omega (arith, hj)) same)
differ (x ∷ xs) e (suc i) zero hi hj same = absurd (apart x xs i e (omega (arith, hi)) (sym same))
differ (x ∷ xs) e (suc i) (suc j) hi hj same =
    ap suc (differ xs (and_parts (not (list_any (λ y. x == y) xs)) (all_differ xs) e).1 i j (omega (arith, hi)) (omega (arith, hj)) same)

-- ---- numbers

pub split_end : (xs ys us vs : List ℕ) → length us ≡ length vs → xs ++ us ≡ ys ++ vs → (xs ≡ ys) × (us ≡ vs)
split_end xs ys us vs same e =
    let both : length xs + length us ≡ length ys + length vs = sym (length-append xs us) ∙ ap length e ∙ length-append ys vs in
    let n : length ys ≡ length xs = omega (arith, both, same) in (
      sym (take_at xs us (length xs) refl) ∙ ap (take (length xs)) e ∙ take_at ys vs (length xs) n,
      sym (drop_at xs us (length xs) refl) ∙ ap (drop (length xs)) e ∙ drop_at ys vs (length xs) n,
    )

abbrev pub power : ℕ → ℕ → ℕ
power base zero = 1
power base (suc count) = base * power base count

-- numbers that are alike above their last digits, and in these, are one
pub same_number : (letters : List ℕ) → Differ letters → 0 < length letters → (count a b : ℕ) → a / power (length letters) count ≡ b / power (length letters) count → last_digits letters count a ≡ last_digits letters count b → a ≡ b
same_number letters apart some zero a b high e = sym (div-one a) ∙ high ∙ div-one b
same_number letters apart some (suc count) a b high e =
    let base = length letters in
    let ends = split_end (last_digits letters count (a / base)) (last_digits letters count (b / base)) (get_or letters (a % base) 0 ∷ []) (get_or letters (b % base) 0 ∷ []) refl (sym (more_digits letters count a) ∙ e ∙ more_digits letters count b) in
    let front : a / base ≡ b / base = same_number letters apart some count (a / base) (b / base) (div-div-eq-div-mul a base (power base count) ∙ high ∙ sym (div-div-eq-div-mul b base (power base count))) ends.0 in
    let last : a % base ≡ b % base = apart (a % base) (b % base) (mod-lt a some) (mod-lt b some) (ap (λ l. get_or l 0 0) ends.1) in
    sym (div-add-mod' a base) ∙ ap₂ (λ q r. q * base + r) front last ∙ div-add-mod' b base
