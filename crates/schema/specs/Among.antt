-- Whether a name is among others.
use Rattle.std.specs.Prelude.{ℕ, Bool, List}
use Rattle.std.specs.List.{list_any}
use Rattle.std.specs.Str.{bytes_eq}

-- whether one of the names is this one
abbrev pub is_in : List (List ℕ) → List ℕ → Bool
is_in names k = list_any (λ n. bytes_eq n k) names
