-- Two lists of named contents, walked side by side.
use Rattle.std.specs.Prelude.{ℕ, List, [], ◌∷◌, ◌++◌, if◌then◌else◌, Option, Some, None}
use Rattle.std.specs.Ordering.{is_lt, nat_cmp}
use Rattle.std.specs.Str.{bytes_eq}
use Rattle.std.specs.Cmp.Lexicographic.{slice_cmp}
use Rattle.pathmap.specs.Contents.{Content}

-- those at the front whose names are below this one, and those from there on
abbrev pub prefix_of : List ℕ → List (List ℕ × Content) → List (List ℕ × Content)
prefix_of f [] = []
prefix_of f (c ∷ cs) = if is_lt (slice_cmp nat_cmp c.0 f) then c ∷ prefix_of f cs else []

abbrev pub back_of : List ℕ → List (List ℕ × Content) → List (List ℕ × Content)
back_of f [] = []
back_of f (c ∷ cs) = if is_lt (slice_cmp nat_cmp c.0 f) then back_of f cs else c ∷ cs

-- the one at the front, if it has that name
abbrev pub first_of : List ℕ → List (List ℕ × Content) → Option Content
first_of f [] = None
first_of f (m ∷ ms) = if bytes_eq m.0 f then Some m.1 else None

-- what is left without the one of that name at the front
abbrev pub left_of : List ℕ → List (List ℕ × Content) → List (List ℕ × Content)
left_of f [] = []
left_of f (m ∷ ms) = if bytes_eq m.0 f then ms else m ∷ ms

-- a content joined with the one at the front, if that has its name
abbrev pub join_on : (Content → Content → Content) → List ℕ → Content → List (List ℕ × Content) → Content
join_on j f c [] = c
join_on j f c (m ∷ ms) = if bytes_eq m.0 f then j c m.1 else c

abbrev pub merged : (Content → Content → Content) → List (List ℕ × Content) → List (List ℕ × Content) → List (List ℕ × Content)
merged j [] ms = ms
merged j (t ∷ ts) ms = prefix_of t.0 ms ++ ((t.0, join_on j t.0 t.1 (back_of t.0 ms)) ∷ merged j ts (left_of t.0 (back_of t.0 ms)))
