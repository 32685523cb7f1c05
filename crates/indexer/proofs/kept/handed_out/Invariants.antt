use Rattle.std.proofs.Common.{◌≡◌, ◌+◌, ◌≤◌, ◌++◌, length, map, vec_capacity, vec_len}
use Rattle.indexer.proofs.IndexedObjects.{without_keys}
use Rattle.indexer.proofs.HandedOut.{under_key}
use Rattle.indexer.proofs.kept.handed_out.Given as goal

-- what is handed out, with what is left, are all; and for what is left there is room
abbrev pub invariant-loop-key : goal.invariant-loop-key
invariant-loop-key l =
    (map under_key l.all.items ++ map without_keys l.key-iterator ≡ map without_keys l.fn.objects.entries) × (vec_len l.all + length l.key-iterator ≤ vec_capacity l.all)
