use Rattle.std.proofs.Common.{◌≡◌, map, drop, string_bytes}
use Rattle.indexer.specs.Names.{are_distinct}
use Rattle.indexer.proofs.index_by.are_distinct.Given as goal

abbrev pub invariant-loop-i : goal.invariant-loop-i
invariant-loop-i l = are_distinct (map string_bytes (drop l.i l.names)) ≡ are_distinct (map string_bytes l.names)
