use Rattle.std.proofs.Common.{◌≡◌, ◌++◌, map}
use Rattle.std.specs.Vec.Iter.{into_iter_items}
use Rattle.history.specs.Read.{entry_of}
use Rattle.lists.specs.Rows.{matching}
use Rattle.lists.proofs.rows.matching.Given as goal

abbrev pub invariant-loop-row : goal.invariant-loop-row
invariant-loop-row l =
    (goal.iterator-loop-row).can_next l.row-iterator × (goal.iterator-loop-row).is_finite l.row-iterator
    × (map entry_of l.found.items ++ matching l.selector (map entry_of (into_iter_items l.row-iterator)) ≡ matching l.selector (map entry_of l.fn.rows.items))
