-- Children less the paths of a set.
use Rattle.std.specs.Prelude.{ℕ, ◌+◌, List, [], ◌∷◌, if◌then◌else◌, Option, Some, None}
use Rattle.std.specs.Str.{bytes_eq}
use Rattle.pathmap.specs.Beside.{without}
use Rattle.pathmap.specs.Contents.{Content, dom}
use Rattle.pathmap.specs.Levels.{has_path}

-- where the one of this name stands, counted from k
abbrev pub index_from : ℕ → List ℕ → List (List ℕ × Content) → Option ℕ
index_from k f [] = None
index_from k f (c ∷ cs) = if bytes_eq c.0 f then Some k else index_from (k + 1) f cs

-- the one of this name less the paths of s
abbrev pub cut_at : List ℕ → Content → List (List ℕ × Content) → List (List ℕ × Content)
cut_at f s [] = []
cut_at f s (c ∷ cs) = if bytes_eq c.0 f then (c.0, without c.1 (dom s)) ∷ cs else c ∷ cut_at f s cs

-- each less the paths of the one that has its name
abbrev pub cut_each : List (List ℕ × Content) → List (List ℕ × Content) → List (List ℕ × Content)
cut_each [] cs = cs
cut_each (s ∷ ss) cs = cut_each ss (cut_at s.0 s.1 cs)

-- those that have a path
abbrev pub full_in : List (List ℕ × Content) → List (List ℕ × Content)
full_in [] = []
full_in (c ∷ cs) = if has_path c.1 then c ∷ full_in cs else full_in cs
