-- Where a prefix is cut, and what stands before a '-' at its end.
use Rattle.std.proofs.Common.{◌≡◌, ◌∙◌, ℕ, zero, suc, ◌-◌, ◌<◌, ◌≤◌, ◌==◌, Bool, true, false, cond, inl, inr, List, [], ◌∷◌, ◌++◌, length, take, get_or, Option, Some, None, refl, sym, ap, arith, take_at, length-append}
use Rattle.std.specs.Prelude.{IsCharBoundary, MatchOption, unwrap_or, slice_index, nat_le, ◌≢◌}
use Rattle.std.specs.Fmt.{is_char_start}
use Rattle.std.proofs.lemmas.Bool.{and_parts, and_from, both_ways, cases_eq, cases_lt, eqb-true, le-leb, leb-true}
use Rattle.std.proofs.lemmas.Bool.Decides.{nat_tests}
use Rattle.std.proofs.lemmas.List.{get_or_at}
use denote.Ref.{Bor}
use Rattle.system_metadata.specs.GeneratedNames.{is_border, border, without_dash}

starts : (b : ℕ) → (128 ≤ b → 192 ≤ b) → is_char_start b ≡ true
starts b h =
    elim (cases_lt b 128) [
      | inl low ↦ grind (arith, nat_tests)
      | inr high ↦ let top : 192 ≤ b = h high in grind (arith, nat_tests)
    ]

tells : (b : ℕ) → is_char_start b ≡ true → 128 ≤ b → 192 ≤ b
tells b e high = grind (arith, nat_tests)

past : (text : List ℕ) (i : ℕ) → length text ≤ i → slice_index text i ≡ 0
past [] i h = refl
past (b ∷ bs) zero h = absurd (omega (arith, h))
past (b ∷ bs) (suc i) h = past bs i (omega (arith, h))

pub is_border-from : (text : List ℕ) (i : ℕ) → IsCharBoundary text i → is_border text i ≡ true
is_border-from text i h =
    and_from (nat_le i (length text)) (is_char_start (slice_index text i)) (le-leb _ _ h.0)
    (elim (cases_lt i (length text)) [
      | inl lt ↦ starts (slice_index text i) (h.1 lt)
      | inr ge ↦ rw (past text i ge) refl
    ])

pub is_border-true : (text : List ℕ) (i : ℕ) → is_border text i ≡ true → IsCharBoundary text i
is_border-true text i e =
    let both = and_parts (nat_le i (length text)) (is_char_start (slice_index text i)) e in
    (leb-true _ _ both.0, λ _ high. tells (slice_index text i) both.1 high)

-- ---- the last border up to a place

no_place : (text : List ℕ) → border text 0 ≡ 0
unfolding border
no_place text = refl

next_place : (text : List ℕ) (place : ℕ) → border text (suc place) ≡ cond (is_border text (suc place)) (suc place) (border text place)
unfolding border
next_place text place = refl

abbrev IsLastBorder : List ℕ → ℕ → ℕ → Type 0
IsLastBorder text place k = (k ≤ place) × IsCharBoundary text k × ((i : ℕ) → k < i → i ≤ place → IsCharBoundary text i → ⊥)

by_test : (t : Bool) (text : List ℕ) (place k : ℕ) → is_border text (suc place) ≡ t → IsLastBorder text (suc place) k → (k ≤ place → border text place ≡ k) → cond t (suc place) (border text place) ≡ k
by_test true text place k e last smaller =
    elim (cases_lt k (suc place)) [
      | inl lt ↦ absurd (last.2 (suc place) lt (omega arith) (is_border-true text (suc place) e))
      | inr ge ↦ omega (arith, last.0, ge)
    ]
by_test false text place k e last smaller =
    elim (cases_eq k (suc place)) [
      | inl is ↦ absurd (both_ways (is_border text (suc place)) e (ap (is_border text) (sym is) ∙ is_border-from text k last.1))
      | inr other ↦ smaller (omega (arith, last.0, other))
    ]

pub border_is : (text : List ℕ) (place k : ℕ) → k ≤ place → IsCharBoundary text k → ((i : ℕ) → k < i → i ≤ place → IsCharBoundary text i → ⊥) → border text place ≡ k
border_is text zero k le at next = no_place text ∙ omega (arith, le)
border_is text (suc place) k le at next =
    next_place text place ∙ by_test (is_border text (suc place)) text place k refl (le, at, next) (λ below. border_is text place k below at (λ i lt most. next i lt (omega (arith, most))))

-- ---- a '-' at the end

before_dash : (front : List ℕ) → without_dash (front ++ 45 ∷ []) ≡ front
before_dash front =
    let long : length (front ++ 45 ∷ []) - 1 ≡ length front = omega (arith, length-append front (45 ∷ [])) in
    rw (long, get_or_at front 45 [] 0 (length front) refl) (take_at front (45 ∷ []) (length front) refl)

ends_with : (n : ℕ) (text : List ℕ) → length text ≡ suc n → text ≡ take n text ++ get_or text n 0 ∷ []
ends_with n [] e = absurd (omega (arith, e))
ends_with zero (b ∷ []) e = refl
ends_with zero (b ∷ c ∷ cs) e = absurd (omega (arith, e))
ends_with (suc n) (b ∷ bs) e = ap (λ l. b ∷ l) (ends_with n bs (omega (arith, e)))

no_dash : (text : List ℕ) → ((front : List ℕ) → text ≢ front ++ 45 ∷ []) → without_dash text ≡ text
no_dash [] h = refl
no_dash (b ∷ bs) h = go (slice_index (b ∷ bs) (length (b ∷ bs) - 1) == 45) refl
  where
    go : (t : Bool) → (slice_index (b ∷ bs) (length (b ∷ bs) - 1) == 45) ≡ t → cond t (take (length (b ∷ bs) - 1) (b ∷ bs)) (b ∷ bs) ≡ b ∷ bs
    go true e =
        let last : get_or (b ∷ bs) (length (b ∷ bs) - 1) 0 ≡ 45 = eqb-true _ _ e in
        absurd (h (take (length (b ∷ bs) - 1) (b ∷ bs)) (ends_with (length (b ∷ bs) - 1) (b ∷ bs) (omega arith) ∙ ap (λ c. take (length (b ∷ bs) - 1) (b ∷ bs) ++ c ∷ []) last))
    go false e = refl

pub left_by_strip : (text : List ℕ) (r : Option (Bor (List ℕ))) (d : Bor (List ℕ)) → d.now ≡ text → MatchOption r ((front : List ℕ) → text ≢ front ++ (45 ∷ [])) (λ x. text ≡ x.now ++ (45 ∷ [])) → (unwrap_or r d).now ≡ without_dash text
left_by_strip text None d same h = same ∙ sym (no_dash text h)
left_by_strip text (Some x) d same e = sym (ap without_dash e ∙ before_dash x.now)
