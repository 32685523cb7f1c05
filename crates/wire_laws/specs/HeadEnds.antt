-- Where a head ends, in the words of RFC 9112 (sections 2.1 and 2.2): at the first empty line, behind the CRs and LFs that may lead it.
use Rattle.std.specs.Prelude.{◌≡◌, ◌⊎◌, ℕ, ◌<◌, ◌≤◌, ◌==◌, ◌||◌, Bool, if◌then◌else◌, List, [], ◌∷◌, ◌++◌, length, take}

-- a CR or an LF
abbrev pub is_line_end : ℕ → Bool
is_line_end b = b == 13 || b == 10

-- the bytes from the first line on: without the CRs and LFs that lead them
abbrev pub from_first_line : List ℕ → List ℕ
from_first_line [] = []
from_first_line (b ∷ bytes) = if is_line_end b then from_first_line bytes else b ∷ bytes

-- an empty line ends with these bytes: an LF, and behind it LF or CR LF, are the last
abbrev pub EndsInEmptyLine : List ℕ → Type 0
EndsInEmptyLine bytes = (lines : List ℕ) × ((bytes ≡ lines ++ 10 ∷ 10 ∷ []) ⊎ (bytes ≡ lines ++ 10 ∷ 13 ∷ 10 ∷ []))

-- a first line and then an empty line end with these bytes
abbrev pub EndsHead : List ℕ → Type 0
EndsHead bytes = EndsInEmptyLine (from_first_line bytes)

-- the head of the bytes are the first n: a head ends with them, and with no fewer
pub record IsHeadEnd (bytes : List ℕ) (n : ℕ) : Type 0 where
  pub within : n ≤ length bytes
  pub ends : EndsHead (take n bytes)
  pub first : (k : ℕ) → k < n → ¬ EndsHead (take k bytes)
