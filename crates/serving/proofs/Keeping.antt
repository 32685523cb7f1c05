-- The streams after one more was pushed, or wasn't.
use Rattle.std.proofs.Common.{◌≡◌, ℕ, map, true, false, List, [], ◌∷◌, ◌++◌, Result, Ok, Err, ap, ◌∙◌}
use Rattle.std.specs.Prelude.{if◌then◌else◌}
use Rattle.std.specs.Result.{is_err, is_ok}
use Rattle.std.proofs.lemmas.List.{map-append}

pub kept_one : {A E W : Type 0} (r : Result A E) (old new : List (ℕ × W)) (w : ℕ × W) → is_err r ≡ false → new ≡ (if is_ok r then old ++ w ∷ [] else old)
    → map (λ v. v.0) new ≡ map (λ v. v.0) old ++ w.0 ∷ []
kept_one (Ok a) old new w well is = ap (map (λ v. v.0)) is ∙ map-append (λ v. v.0) old (w ∷ [])
kept_one (Err e) old new w well is = absurd cc

pub kept_none : {A E W : Type 0} (r : Result A E) (old new : List (ℕ × W)) (w : ℕ × W) → is_err r ≡ true → new ≡ (if is_ok r then old ++ w ∷ [] else old)
    → map (λ v. v.0) new ≡ map (λ v. v.0) old
kept_none (Ok a) old new w badly is = absurd cc
kept_none (Err e) old new w badly is = ap (map (λ v. v.0)) is

pub no_watches : {W : Type 0} (ws : List (ℕ × W)) → ws ≡ [] → map (λ w. w.0) ws ≡ []
no_watches ws none = ap (map (λ w. w.0)) none
