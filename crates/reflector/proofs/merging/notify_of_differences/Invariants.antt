use Rattle.std.proofs.Common.{◌≡◌, ◌+◌, ◌++◌, ◌≤◌, true, length, map, vec_capacity, vec_len}
use Rattle.std.specs.FinMap as fin
use Rattle.indexer.specs.Objects.{place_cmp, shared_of}
use Rattle.reflector.specs.BetweenViews.{between}
use Rattle.reflector.specs.Client.{by_place}
use Rattle.reflector.specs.Views.{held_seen, notice_seen}
use Rattle.reflector.proofs.merging.notify_of_differences.Given as goal

-- what is told, with what is left to tell, is all; and for what is left there is room
abbrev pub invariant-loop-order : goal.invariant-loop-order
invariant-loop-order l = record {
  emitted : map notice_seen l.emitted.items ++ between (map held_seen l.held.items) (by_place (map shared_of l.listed.items))
      ≡ map notice_seen l.fn.emitted.items ++ between (map held_seen l.fn.old.items) (by_place (map shared_of l.fn.new.items));
  old : fin.is_sorted place_cmp (map held_seen l.held.items) ≡ true;
  new : fin.is_sorted place_cmp (by_place (map shared_of l.listed.items)) ≡ true;
  room : vec_len l.emitted + (length l.held.items + length l.listed.items) ≤ vec_capacity l.emitted;
}

abbrev pub decreases-loop-order : goal.decreases-loop-order
decreases-loop-order l = length l.held.items + length l.listed.items
