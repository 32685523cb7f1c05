use Rattle.std.proofs.Common.{◌≡◌, ◌<◌, map, string_bytes, Some}
use Rattle.std.specs.Option.{option_map}
use Rattle.watchline.specs.BatchViews.{IsNotBelow, changes_past, to_read}
use Rattle.watchline.specs.Views.{seen_change_of}
use Rattle.watchline.proofs.Batched.{IsSeenSoFar}
use Rattle.watchline.proofs.batches.seen_after.Given as goal

abbrev pub invariant-loop-left : goal.invariant-loop-left
invariant-loop-left l =
    IsSeenSoFar l.scope.selector l.fn.store (changes_past l.scope.kind (option_map string_bytes l.scope.namespace) l.fn.store (Some l.fn.after)) (map seen_change_of l.found.items) (changes_past l.scope.kind (option_map string_bytes l.scope.namespace) l.fn.store l.left)
    × (l.store ≡ l.fn.store) × IsNotBelow l.fn.store.compacted l.left × (0 < l.batch)

abbrev pub decreases-loop-left : goal.decreases-loop-left
decreases-loop-left l = to_read l.scope.kind (option_map string_bytes l.scope.namespace) l.store l.left
