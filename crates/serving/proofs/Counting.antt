-- Connections that are left to serve.
use Rattle.std.proofs.Common.{◌≡◌, ◌≤◌, ℕ, zero, suc, ◌+◌, ◌-◌, refl, sym, ap, subst, ◌∙◌, add-zero, arith}
use Rattle.std.proofs.Math.Nat.{sub-zero}

pub one_less : (left count now mid last all : ℕ) → now + left ≡ all → mid ≡ now + count → last ≡ mid → count ≤ 1 → (left ≡ 0 → ⊥) → last + (left - count) ≡ all
one_less zero count now mid last all before served same few some = absurd (some refl)
one_less (suc left) zero now mid last all before served same few some =
    subst (λ n. last + n ≡ all) (sym (sub-zero (suc left))) (ap (λ n. n + suc left) (same ∙ served ∙ add-zero now) ∙ before)
one_less (suc left) (suc zero) now mid last all before served same few some = omega arith
one_less (suc left) (suc (suc count)) now mid last all before served same few some = omega arith
