-- Two lists of objects in the order of places, as the cache is replaced.
use Rattle.std.specs.Prelude.{List, [], ◌∷◌, ◌++◌, drop, Option, Some, None}
use Rattle.std.specs.declared.cmp.Ordering.{Ordering}
use Rattle.std.specs.declared.cmp.Ordering.TheVariants.{Less, Greater}
use Rattle.std.specs.List.{flat_map}
use Rattle.std.specs.FinMap as fin
use Rattle.std.specs.FinMap.Entries.{by_order, find}
use Rattle.indexer.specs.Objects.{Place, place_cmp, Stored}
use Rattle.reflector.specs.Client.{Notice, notice_of}

-- one notice for each place whose text differs, in the order of places
abbrev pub between : List (Place × Stored) → List (Place × Stored) → List Notice
between before after = flat_map (λ p. notice_of (find place_cmp p before) (find place_cmp p after)) (fin.keys (fin.from_entries {R = place_cmp} (before ++ after)))

-- how the first places of both are ordered; where one has no more, the other's is the first
abbrev pub first_order : List (Place × Stored) → List (Place × Stored) → Option Ordering
first_order [] [] = None
first_order [] (y ∷ ys) = Some Greater
first_order (x ∷ xs) [] = Some Less
first_order (x ∷ xs) (y ∷ ys) = Some (place_cmp x.0 y.0)

abbrev pub first_object : List (Place × Stored) → Option Stored
first_object [] = None
first_object (x ∷ xs) = Some x.1

-- the notices of the first place of both, by that order
abbrev pub first_notices : Ordering → List (Place × Stored) → List (Place × Stored) → List Notice
first_notices order before after =
    by_order order (notice_of (first_object before) None) (notice_of (first_object before) (first_object after)) (notice_of None (first_object after))

-- what is left of each behind that place
abbrev pub old_left : Ordering → List (Place × Stored) → List (Place × Stored)
old_left order before = by_order order (drop 1 before) (drop 1 before) before

abbrev pub new_left : Ordering → List (Place × Stored) → List (Place × Stored)
new_left order after = by_order order after (drop 1 after) (drop 1 after)
