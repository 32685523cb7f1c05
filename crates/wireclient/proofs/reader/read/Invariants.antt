use Rattle.std.proofs.Common.{◌≤◌, ◌-◌, length, map, take}
use Rattle.wireclient.specs.Reads.{Reaches}
use Rattle.wireclient.specs.Views.{state_of, reply_item_of}
use Rattle.wireclient.proofs.reader.read.Given as goal

abbrev pub invariant-loop-at : goal.invariant-loop-at
invariant-loop-at l = record {
  within : l.at ≤ length l.piece;
  reaches : Reaches (state_of l.fn.from) (take l.at l.piece) (state_of l.state) (map reply_item_of l.emitted.items);
}

abbrev pub decreases-loop-at : goal.decreases-loop-at
decreases-loop-at l = length l.piece - l.at
