-- Blanks round a media type, and the parameters behind it.
use Rattle.std.proofs.Common.{◌≡◌, ℕ, zero, suc, ◌-◌, ◌≤◌, Bool, true, false, cond, List, [], ◌∷◌, take, length, Option, Some, None, refl, sym, ap, arith, ltb, ltb-false}
use Rattle.std.specs.Prelude.{slice_index}
use Rattle.std.specs.List.{position_or_len, before_first}
use Rattle.api_request.specs.Admit.{is_blank, unless_last_blank, without_trailing}

take_past : (n : ℕ) (xs : List ℕ) → length xs ≤ n → xs ≡ take n xs
take_past zero [] h = refl
take_past zero (x ∷ xs) h = absurd (omega arith)
take_past (suc n) [] h = refl
take_past (suc n) (x ∷ xs) h = ap (λ ys. x ∷ ys) (take_past n xs (omega arith))

abbrev number_or_zero : Option ℕ → ℕ
number_or_zero None = 0
number_or_zero (Some n) = n

some_at : (b : Bool) (n place : ℕ) → Some place ≡ cond b (Some n) None → place ≡ n
some_at true n place h = ap number_or_zero h
some_at false n place h = absurd cc

none_at : (b : Bool) (n : ℕ) → None ≡ cond b (Some n) None → b ≡ false
none_at true n h = absurd cc
none_at false n h = refl

abbrev pub Found : (ℕ → Bool) → List ℕ → Option ℕ → Type 0
Found p xs r = r ≡ cond (ltb (position_or_len p xs) (length xs)) (Some (position_or_len p xs)) None

pub cut_at : (p : ℕ → Bool) (xs : List ℕ) (place : ℕ) → Found p xs (Some place) → take place xs ≡ before_first p xs
cut_at p xs place h = ap (λ n. take n xs) (some_at (ltb (position_or_len p xs) (length xs)) (position_or_len p xs) place h)

pub uncut : (p : ℕ → Bool) (xs : List ℕ) → Found p xs None → xs ≡ before_first p xs
uncut p xs h = take_past (position_or_len p xs) xs (ltb-false _ _ (none_at (ltb (position_or_len p xs) (length xs)) (position_or_len p xs) h))

last_blank_at : (xs : List ℕ) (n : ℕ) → suc n ≡ length xs → is_blank (slice_index xs n) ≡ true → without_trailing (take n xs) ≡ without_trailing xs
last_blank_at [] n e h = absurd (omega arith)
last_blank_at (x ∷ []) zero e h = sym (ap (λ b. cond b [] (x ∷ [])) h)
last_blank_at (x ∷ []) (suc n) e h = absurd (omega arith)
last_blank_at (x ∷ y ∷ ys) zero e h = absurd (omega arith)
last_blank_at (x ∷ y ∷ ys) (suc n) e h = ap (unless_last_blank x) (last_blank_at (y ∷ ys) n (omega arith) h)

last_kept_at : (xs : List ℕ) (n : ℕ) → suc n ≡ length xs → is_blank (slice_index xs n) ≡ false → xs ≡ without_trailing xs
last_kept_at [] n e h = absurd (omega arith)
last_kept_at (x ∷ []) zero e h = sym (ap (λ b. cond b [] (x ∷ [])) h)
last_kept_at (x ∷ []) (suc n) e h = absurd (omega arith)
last_kept_at (x ∷ y ∷ ys) zero e h = absurd (omega arith)
last_kept_at (x ∷ y ∷ ys) (suc n) e h = ap (unless_last_blank x) (last_kept_at (y ∷ ys) n (omega arith) h)

pub last_blank : (xs : List ℕ) → 1 ≤ length xs → is_blank (slice_index xs (length xs - 1)) ≡ true → without_trailing (take (length xs - 1) xs) ≡ without_trailing xs
last_blank xs lt h = last_blank_at xs (length xs - 1) (omega arith) h

pub last_kept : (xs : List ℕ) → 1 ≤ length xs → is_blank (slice_index xs (length xs - 1)) ≡ false → xs ≡ without_trailing xs
last_kept xs lt h = last_kept_at xs (length xs - 1) (omega arith) h
