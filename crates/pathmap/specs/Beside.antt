-- Contents and sets of paths side by side.
use Rattle.std.specs.Prelude.{Bool, true, false, not, ◌&&◌, ◌==◌, [], ◌∷◌, Option, Some, None}
use Rattle.std.specs.FinMap as fin
use Rattle.std.specs.FinSet as set
use Rattle.std.specs.List.{list_any}
use Rattle.std.specs.Str.{bytes_eq}
use Rattle.std.specs.Ordering.{int_cmp, is_eq}
use Rattle.fieldpath.specs.Paths.{PathTexts}
use Rattle.pathmap.specs.Contents.{LeafValue, text, whole, truth, plain, mark, Content, PathSet, dom}

abbrev pub bool_eq : Bool → Bool → Bool
bool_eq true b = b
bool_eq false b = not b

-- whether two values are one
abbrev pub same_leaf_value : LeafValue → LeafValue → Bool
same_leaf_value (text s) (text t) = bytes_eq s t
same_leaf_value (whole n) (whole m) = is_eq (int_cmp n m)
same_leaf_value (truth a) (truth b) = bool_eq a b
same_leaf_value (plain s) (plain t) = bytes_eq s t
same_leaf_value mark mark = true
same_leaf_value _ _ = false

-- whether both are absent, or both there and one
abbrev pub same_value : Option LeafValue → Option LeafValue → Bool
same_value None None = true
same_value None (Some w) = false
same_value (Some v) None = false
same_value (Some v) (Some w) = same_leaf_value v w

-- the paths of c that d lacks or has another value at
unfoldable pub changed : Content → Content → PathSet
changed c d = set.retain (dom c) (λ p. not (same_value (fin.get c p) (fin.get d p)))

abbrev pub is_empty : PathSet → Bool
is_empty s = set.len s == 0

-- whether the second set has all paths of the first
abbrev pub is_within : PathSet → PathSet → Bool
is_within s t = is_empty (set.difference s t)

-- whether d has the same value at each path of c
abbrev pub is_unchanged : Content → Content → Bool
is_unchanged c d = is_empty (changed c d)

-- whether the first path is a prefix of the second, or the second itself
abbrev pub is_prefix : PathTexts → PathTexts → Bool
is_prefix [] q = true
is_prefix (f ∷ p) [] = false
is_prefix (f ∷ p) (g ∷ q) = bytes_eq f g && is_prefix p q

-- whether the set has a path at or below this one
unfoldable pub has_at_or_below : PathSet → PathTexts → Bool
has_at_or_below s p = list_any (is_prefix p) (set.items s)

-- whether the set has this path or one above it
unfoldable pub has_at_or_above : PathSet → PathTexts → Bool
has_at_or_above s q = list_any (λ p. is_prefix p q) (set.items s)

-- the content less every path at or below one of the set
unfoldable pub without : Content → PathSet → Content
without c s = fin.retain_keys c (λ q. not (has_at_or_above s q))

-- the paths of the first set at or below which the second has none
unfoldable pub clear_of : PathSet → PathSet → PathSet
clear_of s t = set.retain s (λ p. not (has_at_or_below t p))
