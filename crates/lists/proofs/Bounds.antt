-- The revision of a list that is not refused lies between the two numbers.
use Rattle.std.proofs.Common.{◌≡◌, ℕ, ◌≤◌, Bool, true, false, cond, refl, sym, ap, subst, leb-true, ltb-false, arith}
use Rattle.std.specs.Prelude.{nat_le, nat_lt}
use Rattle.std.specs.declared.result.Result.{Result}
use Rattle.std.specs.declared.result.Result.TheVariants.{Ok, Err}
use Rattle.params.specs.Values.{Values}
use Rattle.lists.specs.declared.refusal.Refusal.{Refusal}
use Rattle.lists.specs.declared.refusal.Refusal.TheVariants.{Expired, TooLarge}
use Rattle.history.specs.History.{Objects}
use Rattle.lists.specs.Body.{Collection, list_text}
use Rattle.lists.specs.Lists.{list_of, page_of, text_at}
use Rattle.lists.specs.Revision.{WantedRevision, exactly, not_older_than, revision_by, revision_of, wanted_by}

abbrev pub IsBetween : ℕ → ℕ → ℕ → Type 0
IsBetween low high r = (low ≤ r) × (r ≤ high)

abbrev IsOkOf : (ℕ → Type 0) → Result ℕ Refusal → Type 0
IsOkOf P (Ok r) = P r
IsOkOf P (Err e) = Unit {0}

module _ (current compacted : ℕ) (low : compacted ≤ current) where
  between : (w : WantedRevision) → IsOkOf (IsBetween compacted current) (revision_by current compacted w)
  between (not_older_than v) = go (nat_le v current)
    where
      go : (b : Bool) → IsOkOf (IsBetween compacted current) (cond b (Ok current) (Err (TooLarge v current)))
      go true = (low, omega arith)
      go false = tt
  between (exactly v) = go (nat_lt v compacted) refl (nat_le v current) refl
    where
      go : (a : Bool) → nat_lt v compacted ≡ a → (b : Bool) → nat_le v current ≡ b
          → IsOkOf (IsBetween compacted current) (cond a (Err (Expired v compacted)) (cond b (Ok v) (Err (TooLarge v current))))
      go true s b t = tt
      go false s true t = (ltb-false v compacted s, leb-true v current t)
      go false s false t = tt

  pub revision_between : (values : Values) (r : ℕ) → (let answer : Result ℕ Refusal = Ok r in answer) ≡ revision_of current compacted values → IsBetween compacted current r
  revision_between values r is = subst (IsOkOf (IsBetween compacted current)) (sym is) (between (wanted_by values.token values))

  -- only the objects between the two numbers are looked at
  pub list_same : (of : Collection) (values : Values) (at other : ℕ → Objects) → ((r : ℕ) → compacted ≤ r → at r ≡ other r) → list_of of values current compacted at ≡ list_of of values current compacted other
  list_same of values at other same = go (revision_of current compacted values) (between (wanted_by values.token values))
    where
      go : (answer : Result ℕ Refusal) → IsOkOf (IsBetween compacted current) answer → text_at of values at answer ≡ text_at of values other answer
      go (Ok r) h = ap (λ s. Ok (list_text of r (page_of of values s))) (same r h.0)
      go (Err refusal) h = refl
