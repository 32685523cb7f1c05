use Rattle.std.proofs.Common.{◌≡◌, map, take, string_bytes}
use Rattle.indexer.specs.Objects.{shared_of}
use Rattle.indexer.proofs.index_by.keys_by_each.Given as goal

abbrev pub invariant-loop-index : goal.invariant-loop-index
invariant-loop-index g l =
    map (λ w. map string_bytes w.items) l.all.items ≡ map (λ b. g.I.IndexBy.keys b (shared_of l.object)) (take l.index-index l.indexes)
