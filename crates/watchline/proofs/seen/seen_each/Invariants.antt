use Rattle.std.proofs.Common.{◌≡◌, ◌++◌, map}
use Rattle.std.specs.Vec.Iter.{into_iter_items}
use Rattle.history.specs.Read.{change_of}
use Rattle.watchline.specs.BatchViews.{AreBetween, seen_each}
use Rattle.watchline.specs.Views.{seen_change_of}
use Rattle.watchline.proofs.seen.seen_each.Given as goal

abbrev pub invariant-loop-change : goal.invariant-loop-change
invariant-loop-change l =
    (goal.iterator-loop-change).can_next l.change-iterator × (goal.iterator-loop-change).is_finite l.change-iterator
    × (map seen_change_of l.found.items ++ seen_each l.selector l.fn.store (map change_of (into_iter_items l.change-iterator)) ≡ seen_each l.selector l.fn.store (map change_of l.fn.changes.items))
    × (l.store ≡ l.fn.store) × AreBetween l.fn.store.compacted l.fn.store.current (map change_of (into_iter_items l.change-iterator))
