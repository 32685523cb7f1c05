use Rattle.std.proofs.Common.{◌≡◌, ◌+◌, ◌≤◌, length}
use Rattle.sqlite.specs.Held.{state}
use Rattle.history.specs.History.{History, IsRising}
use Rattle.revtable.specs.Rows.{Amid}
use Rattle.revtable.specs.Spans.{Stored, stored_of}
use Rattle.revtable.proofs.Several.{rows_so_far}
use Rattle.revtable.proofs.writing.write_changes.Given as goal

-- the rows of as many are written as the loop has turned
abbrev pub invariant-loop-write : goal.invariant-loop-write
invariant-loop-write g l =
    (l.writing.conn.ghost_name ≡ l.fn.writing.conn.ghost_name) × (l.current ≡ l.fn.marks.current + l.write-index) × (l.current ≤ l.fn.marks.current + length l.writes)
    × ((start : Stored) (h : History) → IsRising 0 h.changes h.current → h.current ≡ l.fn.marks.current → h.compacted ≡ l.fn.marks.compacted → Amid start (stored_of h) (state g.S.Store l.fn.writing.conn.now)
    → Amid start (rows_so_far h l.writes l.write-index) (state g.S.Store l.writing.conn.now))
