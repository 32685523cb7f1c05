use Rattle.std.proofs.Common.{◌≡◌, ◌++◌, map}
use Rattle.indexer.specs.Objects.{place_of}
use Rattle.world.proofs.indexes.copies.Given as goal

abbrev pub invariant-loop-key : goal.invariant-loop-key
invariant-loop-key l = map place_of l.all.items ++ map place_of l.key-iterator ≡ map place_of l.keys.keys
