use Rattle.std.proofs.Common.{◌≡◌, map, take, string_bytes}
use Rattle.std.specs.List.{All}
use Rattle.indexer.specs.Indexer.{indexed_objects_of, names_of}
use Rattle.world.specs.Shots.{ShowsIndex}
use Rattle.world.proofs.indexes.shots.Given as goal

abbrev pub invariant-loop-name : goal.invariant-loop-name
invariant-loop-name g l = (map (λ s. string_bytes s.name) l.all.items ≡ map string_bytes (take l.name-index l.names)) × All (ShowsIndex (indexed_objects_of l.indexer) (names_of l.indexer)) l.all.items
