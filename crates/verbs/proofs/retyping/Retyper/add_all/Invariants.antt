use Rattle.std.proofs.Common.{◌≡◌, ◌++◌, ◌+◌, length, map}
use Rattle.std.specs.Vec.Iter.{into_iter_items}
use Rattle.history.specs.Read.{entry_of, write_of}
use Rattle.verbs.specs.GatheredViews.{AreReadable, AreWritable, gathered, new_types, old_types}
use Rattle.verbs.proofs.retyping.Retyper.add_all.Given as goal

-- what is gathered of the objects so far, joined with what is gathered of those that are left
abbrev pub invariant-loop-entry : goal.invariant-loop-entry
invariant-loop-entry l =
    let ws = map write_of l.writes.items in
    let first = map write_of l.fn.writes.items in
    let left = map entry_of (into_iter_items l.entry-iterator) in
    record {
      can : (goal.iterator-loop-entry).can_next l.entry-iterator;
      finite : (goal.iterator-loop-entry).is_finite l.entry-iterator;
      writable : AreWritable l.self.current ws;
      reported : ws ++ gathered (old_types l.self) (new_types l.self) (l.self.current + length ws) left ≡ first ++ gathered (old_types l.self) (new_types l.self) (l.self.current + length first) (map entry_of l.fn.entries.items);
      readable : AreReadable (old_types l.self) (map entry_of l.fn.entries.items) → AreReadable (old_types l.self) left;
    }
