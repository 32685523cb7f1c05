use Rattle.std.proofs.Common.{◌≡◌, ◌≤◌, List, length, map}
use Rattle.sqlite.specs.Given.{HasGiven}
use Rattle.sqlite.specs.Held.{state}
use Rattle.sqlite.specs.Order.{Row}
use Rattle.sqlite.specs.Values.{bound}
use Rattle.history.specs.Read.{entry_of}
use Rattle.revtable.specs.Rows.{Keeps}
use Rattle.revtable.specs.Spans.{Stored}
use Rattle.revtable.proofs.FirstKept.{found_in}
use Rattle.revtable.proofs.first_kept.read.Given as goal

-- of the rows so far, those that are kept are found
abbrev pub invariant-rows : goal.invariant-rows
invariant-rows g l =
    (l.rows.conn.ghost_name ≡ l.initial.rows.conn.ghost_name)
    × ((st : Stored) → Keeps st (state g.S.Store l.fn.base) → (given : List Row) × HasGiven g.S.Store l.sql (bound l.params) l.rows.conn.now given × Keeps st (state g.S.Store l.rows.conn.now)
    × (length given ≡ l.counter) × (map entry_of l.found.items ≡ found_in (g.K.Keep.kept l.keep) given))
    × (length l.found.items ≤ l.max)
