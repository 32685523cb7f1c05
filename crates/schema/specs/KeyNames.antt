-- The names of a map list's key fields: in byte order, in whatever order they are given.
use Rattle.std.specs.Prelude.{ℕ, List, [], ◌∷◌, map, if◌then◌else◌, String, string_bytes}
use Rattle.std.specs.declared.alloc.Global.{Global}
use Rattle.std.specs.Cmp.Lexicographic.{slice_cmp}
use Rattle.std.specs.Ordering.{nat_cmp, is_lt}

-- a name more, among names in order
abbrev pub put_name : List ℕ → List (List ℕ) → List (List ℕ)
put_name n [] = n ∷ []
put_name n (m ∷ ms) = if is_lt (slice_cmp nat_cmp m n) then m ∷ put_name n ms else n ∷ m ∷ ms

-- equal names stay beside each other
abbrev pub sorted : List (List ℕ) → List (List ℕ)
sorted [] = []
sorted (n ∷ ns) = put_name n (sorted ns)

abbrev pub names_in : List (String Global) → List (List ℕ)
names_in ns = sorted (map string_bytes ns)
