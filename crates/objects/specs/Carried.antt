-- Who owns what once new paths stand in the place of what was below them.
-- Server-Side Apply, "Compatibility across topology changes".
use Rattle.std.specs.Prelude.{not, List, filter, map}
use Rattle.std.specs.FinMap as fin
use Rattle.std.specs.FinSet as set
use Rattle.pathmap.specs.Beside.{clear_of, is_empty}
use Rattle.pathmap.specs.Contents.{PathSet}
use Rattle.objects.specs.Owners.{Manager, Owners}

-- what a manager owns then: those of its paths that still stand, and each new one at or below which it owned one
abbrev pub carried_paths : PathSet → PathSet → PathSet → PathSet
carried_paths present new owned = set.union (set.intersection owned present) (set.difference new (clear_of new owned))

-- each entry so; what is empty then vanishes
abbrev pub carried_entries : PathSet → PathSet → List (Manager × PathSet) → List (Manager × PathSet)
carried_entries present new es = filter (λ e. not (is_empty e.1)) (map (λ e. (e.0, carried_paths present new e.1)) es)

unfoldable pub carried_owners : PathSet → PathSet → Owners → Owners
carried_owners present new w = fin.from_entries (carried_entries present new (fin.entries w))
