-- Whether writes change anything, and which of their changes is the only one.
use Rattle.std.proofs.Common.{◌≡◌, ◌≤◌, ℕ, suc, true, false, true≢false, List, [], ◌∷◌, length, map, None, refl, sym, arith, ◌∙◌}
use Rattle.std.specs.Prelude.{◌==◌}
use Rattle.std.proofs.lemmas.Bool.Decides.{nat_tests}
use Rattle.history.specs.Read.{write_of}
use Rattle.history.specs.Writes.{changes_by}
use Rattle.history.specs.declared.write.Write.{Write}
use Rattle.api_request.specs.Calls.{only_change}

full : (n : ℕ) → (suc n == 0) ≡ false
full n = grind (arith, nat_tests)

pub none_made : (r : ℕ) (ws : List Write) → (length ws == 0) ≡ true → changes_by r (map write_of ws) ≡ []
none_made r [] is = refl
none_made r (w ∷ ws) is = absurd (true≢false (sym is ∙ full (length ws)))

pub none_written : (r : ℕ) (ws : List Write) → changes_by r (map write_of ws) ≡ [] → (length ws == 0) ≡ true
none_written r [] is = refl
none_written r (w ∷ ws) is = absurd cc

pub several_made : (r : ℕ) (ws : List Write) → 2 ≤ length ws → only_change (changes_by r (map write_of ws)) ≡ None
several_made r [] many = let none : 2 ≤ 0 = many in absurd (omega arith)
several_made r (w ∷ []) many = let one : 2 ≤ 1 = many in absurd (omega arith)
several_made r (v ∷ w ∷ ws) many = refl
