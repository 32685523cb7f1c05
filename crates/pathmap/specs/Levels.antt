-- One level of a map: what stands at the empty path, and the contents below the first elements.
use Rattle.std.specs.Prelude.{◌≡◌, if◌then◌else◌, ℕ, zero, suc, Bool, true, false, List, [], ◌∷◌, length, map, max, Option, Some, None, String, string_bytes}
use Rattle.std.specs.declared.alloc.Global.{Global}
use Rattle.std.specs.Ordering.{nat_cmp}
use Rattle.std.specs.Cmp.Lexicographic.{slice_cmp}
use Rattle.std.specs.Str.{bytes_eq}
use Rattle.std.specs.List.Sorted.{IsStrictlySortedBy}
use Rattle.std.specs.FinMap as fin
use Rattle.fieldpath.specs.Paths.{PathTexts}
use Rattle.pathmap.specs.Contents.{LeafValue, text, whole, truth, plain, mark, Content, nothing, here}
use Rattle.pathmap.specs.declared.held.PathValue.{PathValue}
use Rattle.pathmap.specs.declared.held.PathValue.TheVariants as held

abbrev pub leaf_value : PathValue → LeafValue
leaf_value (held.Text s) = text (string_bytes s)
leaf_value (held.Whole n) = whole n
leaf_value (held.Truth b) = truth b
leaf_value (held.Plain s) = plain (string_bytes s)
leaf_value held.Mark = mark

abbrev pub at_top : Option PathValue → Content
at_top None = nothing
at_top (Some h) = here (leaf_value h)

abbrev pub named : List (String Global × Content) → List (List ℕ × Content)
named = map (λ m. (string_bytes m.0, m.1))

-- whether a content has a path
abbrev pub is_more : ℕ → Bool
is_more zero = false
is_more (suc n) = true

abbrev pub has_path : Content → Bool
has_path c = is_more (fin.len c)

-- the names ascend by their bytes
abbrev pub IsRising : List (List ℕ × Content) → Type 0
IsRising cs = IsStrictlySortedBy (slice_cmp nat_cmp) (map (λ c. c.0) cs)

-- each has a path
abbrev pub AreFull : List (List ℕ × Content) → Type 0
AreFull [] = Unit {0}
AreFull (c ∷ cs) = (has_path c.1 ≡ true) × AreFull cs

-- children that a map may have: they ascend, and each has a path
abbrev pub AreChildren : List (List ℕ × Content) → Type 0
AreChildren cs = IsRising cs × AreFull cs

-- the content that has this name
abbrev pub child_of : List ℕ → List (List ℕ × Content) → Option Content
child_of f [] = None
child_of f (c ∷ cs) = if bytes_eq c.0 f then Some c.1 else child_of f cs

-- how many elements the longest path has, and one more; of no path 0
abbrev pub longest : List (PathTexts × LeafValue) → ℕ
longest [] = 0
longest (e ∷ es) = max (suc (length e.0)) (longest es)

abbrev pub height : Content → ℕ
height c = longest (fin.entries c)

pub no_children : AreChildren []
unfolding IsStrictlySortedBy
no_children = (tt, tt)
