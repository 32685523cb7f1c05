-- Parts with brackets.
use Rattle.std.proofs.Common.{◌≡◌, ℕ, ◌<◌, eqb, List, [], ◌∷◌, length, Err, refl, sym, ap, ◌∙◌, arith}
use Rattle.std.specs.List.{position_or_len, before_first, after_first}
use Rattle.selector.specs.declared.fault.Fault.TheVariants.{Bracket}
use Rattle.selector.specs.Grammar.{without_trailing_blanks, closed, set_of}
use Rattle.selector.proofs.Found.{list_any-none, list_any-some}

pub set_closed : (head inner values after : List ℕ) → position_or_len (λ b. eqb b 41) inner < length inner → values ≡ before_first (λ b. eqb b 41) inner → after ≡ after_first (λ b. eqb b 41) inner
    → set_of head inner ≡ closed (without_trailing_blanks head) values after
set_closed head inner values after lt before rest =
    rw (list_any-some (λ b. eqb b 41) inner lt)
    (ap (λ vs. closed (without_trailing_blanks head) vs (after_first (λ b. eqb b 41) inner)) (sym before) ∙ ap (closed (without_trailing_blanks head) values) (sym rest))

pub set_open : (head inner : List ℕ) → position_or_len (λ b. eqb b 41) inner ≡ length inner → set_of head inner ≡ Err Bracket
set_open head inner none = rw (list_any-none (λ b. eqb b 41) inner none) refl

pub goes_on : (head values after : List ℕ) → 0 < length after → closed head values after ≡ Err Bracket
goes_on head values [] lt = absurd (omega arith)
goes_on head values (b ∷ after) lt = refl
