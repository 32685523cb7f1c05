use Rattle.std.proofs.Common.{◌≡◌, map, take}
use Rattle.history.specs.Read.{write_of}
use Rattle.revstore.specs.Waiting.{write_in}
use Rattle.revstore.proofs.window.writes_by.Given as goal

-- the writes of those so far
abbrev pub invariant-loop-latest : goal.invariant-loop-latest
invariant-loop-latest l = map write_of l.writes.items ≡ map write_in (take l.latest-index l.all)
