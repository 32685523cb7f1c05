-- A text that doesn't begin with another.
use Rattle.std.proofs.Common.{◌≡◌, ℕ, Bool, true, false, List, ◌++◌, take, drop, length, take-append-drop, refl, sym, ap, ◌∙◌}
use Rattle.std.specs.Str.Pattern.{LacksTextAt}
use Rattle.std.proofs.lemmas.Slice.Eq.{bytes_eq-Decides}
use Rattle.selector.specs.Grammar.{begins_with}

pub lacks : (n s : List ℕ) → LacksTextAt n s 0 → begins_with n s ≡ false
lacks n s h = go (begins_with n s) refl
  where
    go : (b : Bool) → begins_with n s ≡ b → b ≡ false
    go false is = refl
    go true is = absurd (h (drop (length n) s) (sym (take-append-drop (length n) s) ∙ ap (λ l. l ++ drop (length n) s) ((bytes_eq-Decides (take (length n) s) n).0 is)))
