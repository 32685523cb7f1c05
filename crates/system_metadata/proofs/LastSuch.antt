-- The last number up to a bound that satisfies a test.
use Rattle.std.proofs.Common.{◌≡◌, ◌<◌, ◌≤◌, inl, inr, ℕ, zero, suc, Bool, true, false, cond, refl, subst, sym, arith}
use Rattle.std.proofs.lemmas.Bool.{cases_order}
use Rattle.system_metadata.specs.Moments.{last_such}

pub such_fits : (p : ℕ → Bool) (n : ℕ) → last_such p n ≤ n
unfolding last_such
such_fits p zero = omega arith
such_fits p (suc n) = by_test (p (suc n)) (such_fits p n)
  where
    by_test : (b : Bool) → last_such p n ≤ n → cond b (suc n) (last_such p n) ≤ suc n
    by_test true fits = omega arith
    by_test false fits = omega (arith, fits)

pub such_holds : (p : ℕ → Bool) (n : ℕ) → p 0 ≡ true → p (last_such p n) ≡ true
unfolding last_such
such_holds p zero first = first
such_holds p (suc n) first = by_test (p (suc n)) refl (such_holds p n first)
  where
    by_test : (b : Bool) → p (suc n) ≡ b → p (last_such p n) ≡ true → p (cond b (suc n) (last_such p n)) ≡ true
    by_test true is before = is
    by_test false is before = before

-- none behind it does
pub such_last : (p : ℕ → Bool) (n k : ℕ) → last_such p n < k → k ≤ n → p k ≡ false
unfolding last_such
such_last p zero k behind fits = absurd (omega (arith, behind, fits))
such_last p (suc n) k behind fits = by_test (p (suc n)) refl behind (such_last p n k)
  where
    by_place : p (suc n) ≡ false → (k ≤ n → p k ≡ false) → p k ≡ false
    by_place is before = elim (cases_order k (suc n)) [
      | inl same ↦ subst (λ m. p m ≡ false) (sym same) is
      | inr (inl lt) ↦ before (omega (arith, lt))
      | inr (inr gt) ↦ absurd (omega (arith, gt, fits))
    ]

    by_test : (b : Bool) → p (suc n) ≡ b → cond b (suc n) (last_such p n) < k → (last_such p n < k → k ≤ n → p k ≡ false) → p k ≡ false
    by_test true is above before = absurd (omega (arith, above, fits))
    by_test false is above before = by_place is (before above)
