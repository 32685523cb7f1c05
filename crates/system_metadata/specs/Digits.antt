-- The last digits of a number.
use Rattle.std.specs.Prelude.{ℕ, zero, suc, ◌/◌, ◌%◌, List, [], ◌∷◌, ◌++◌, length, get_or}

-- so many of them, most significant first, written with these letters, to the base of how many letters there are
unfoldable pub last_digits : List ℕ → ℕ → ℕ → List ℕ
last_digits letters zero n = []
last_digits letters (suc count) n = last_digits letters count (n / length letters) ++ get_or letters (n % length letters) 0 ∷ []
