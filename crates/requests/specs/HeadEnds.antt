-- How far a head was searched for its end, and that it is searched on from there when more bytes come. Words of private clauses.
use Rattle.std.specs.Prelude.{◌≡◌, ◌≤◌, ℕ, List, ◌++◌, drop, take, length, Option}
use Rattle.wire.specs.Heads.{end_from, head_end, max_head}
use Rattle.requests.specs.declared.head_end.Searched.{Searched}

-- so many bytes came
abbrev pub IsWithin : List ℕ → Searched → Type 0
IsWithin bytes s = s.count ≤ length bytes

-- how many bytes the head has, by those after the ones that were searched
abbrev pub end_after : Searched → List ℕ → Option ℕ
end_after s bytes = end_from s.place s.count (drop s.count bytes)

-- whatever bytes follow these, the same end is found after either
abbrev pub FindsAlike : List ℕ → Searched → Searched → Type 0
FindsAlike bytes s t = (more : List ℕ) → end_after s (bytes ++ more) ≡ end_after t (bytes ++ more)

-- whatever bytes follow these, the head's end is found after those that were searched
abbrev pub IsSearchedTo : List ℕ → Searched → Type 0
IsSearchedTo bytes s = (more : List ℕ) → head_end (take max_head (bytes ++ more)) ≡ end_after s (take max_head (bytes ++ more))
