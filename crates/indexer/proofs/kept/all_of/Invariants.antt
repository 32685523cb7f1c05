use Rattle.std.proofs.Common.{◌≡◌, ◌++◌, map}
use Rattle.indexer.specs.Objects.{place_of, shared_of}
use Rattle.indexer.proofs.IndexedObjects.{without_keys}
use Rattle.indexer.proofs.kept.all_of.Given as goal

abbrev pub invariant-loop-key : goal.invariant-loop-key
invariant-loop-key l = map (λ e. (place_of e.0.now, shared_of e.1.now)) l.all.items ++ map without_keys l.key-iterator ≡ map without_keys l.objects.entries
