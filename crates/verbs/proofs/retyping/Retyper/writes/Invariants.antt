use Rattle.std.proofs.Common.{◌≡◌, map}
use Rattle.history.specs.Read.{write_of}
use Rattle.verbs.specs.GatheredViews.{AreWritable, gathered, new_types, old_types}
use Rattle.verbs.specs.Views.{objects_in}
use Rattle.verbs.proofs.ByTypes.{of_types_before}
use Rattle.verbs.proofs.retyping.Retyper.writes.Given as goal

-- what is gathered of the types before this number
abbrev pub invariant-loop-kind : goal.invariant-loop-kind
invariant-loop-kind l = record {
  writable : AreWritable l.self.current (map write_of l.writes.items);
  reported : map write_of l.writes.items ≡ gathered (old_types l.self) (new_types l.self) l.self.current (of_types_before l.kind (objects_in l.fn.store));
  same : l.store ≡ l.fn.store;
}
