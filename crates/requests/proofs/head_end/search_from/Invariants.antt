use Rattle.std.proofs.Common.{◌≡◌, ℕ, List, ◌++◌, drop}
use Rattle.wire.specs.Heads.{end_from}
use Rattle.requests.proofs.head_end.search_from.Given as goal

abbrev pub invariant-loop-i : goal.invariant-loop-i
invariant-loop-i l = (more : List ℕ) → end_from l.fn.begin l.fn.from (drop l.fn.from (l.bytes ++ more)) ≡ end_from l.place l.i (drop l.i (l.bytes ++ more))
