-- Objects put one after the other.
use Rattle.std.specs.Prelude.{ℕ, List, [], ◌∷◌}
use Rattle.std.specs.FinMap.{insert}
use Rattle.indexer.specs.Kept.{IndexedObjects}
use Rattle.indexer.specs.Objects.{Stored}

-- each with its keys by ks
abbrev pub put_all : (Stored → List (List (List ℕ))) → List Stored → IndexedObjects → IndexedObjects
put_all ks [] held = held
put_all ks (o ∷ os) held = put_all ks os (insert held (o.namespace, o.name) (o, ks o))
