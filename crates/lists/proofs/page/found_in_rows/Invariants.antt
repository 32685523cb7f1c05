use Rattle.std.proofs.Common.{◌≡◌, ◌<◌, map}
use Rattle.std.specs.Option.{option_map}
use Rattle.history.specs.Page.{listed}
use Rattle.history.specs.View.{state_in}
use Rattle.history.specs.Read.{entry_of}
use Rattle.lists.specs.Rows.{rows_left, to_read}
use Rattle.lists.specs.Views.{collection_of, start_of}
use Rattle.lists.proofs.Reading.{IsFoundSoFar}
use Rattle.lists.proofs.page.found_in_rows.Given as goal

abbrev pub invariant-loop-left : goal.invariant-loop-left
invariant-loop-left l =
    IsFoundSoFar l.selected.selector.now (listed (collection_of l.selected.collection).kind (collection_of l.selected.collection).namespace (start_of l.fn.start) (state_in l.fn.store l.selected.revision))
    (map entry_of l.found.items) (rows_left (collection_of l.selected.collection).kind (collection_of l.selected.collection).namespace (state_in l.fn.store l.selected.revision) (option_map start_of l.left))
    × (l.store ≡ l.fn.store) × (0 < l.max)

abbrev pub decreases-loop-left : goal.decreases-loop-left
decreases-loop-left l = to_read (collection_of l.selected.collection).kind (collection_of l.selected.collection).namespace (state_in l.store l.selected.revision) (option_map start_of l.left)
