use Rattle.std.proofs.Common.{◌≡◌, map, take}
use Rattle.revtable.specs.Decoded.{change_shown}
use Rattle.history.specs.Read.{change_of}
use Rattle.revtable.proofs.reading.read_changes.Given as goal

-- the rows so far are read
abbrev pub invariant-loop-row : goal.invariant-loop-row
invariant-loop-row l = map change_of l.all.items ≡ map change_shown (take l.row-index l.rows)
