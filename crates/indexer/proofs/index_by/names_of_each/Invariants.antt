use Rattle.std.proofs.Common.{◌≡◌, map, take, string_bytes}
use Rattle.indexer.proofs.index_by.names_of_each.Given as goal

abbrev pub invariant-loop-index : goal.invariant-loop-index
invariant-loop-index g l = map string_bytes l.names.items ≡ map (λ b. g.I.IndexBy.title b) (take l.index-index l.indexes)
