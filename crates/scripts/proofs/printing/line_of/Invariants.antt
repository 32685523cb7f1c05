use Rattle.std.proofs.Common.{◌≡◌, ◌++◌, map, drop}
use Rattle.std.specs.List.{flat_map}
use Rattle.wireclient.specs.Views.{reply_item_of}
use Rattle.scripts.specs.Output.{words_of}
use Rattle.scripts.proofs.printing.line_of.Given as goal

abbrev pub invariant-loop-item : goal.invariant-loop-item
invariant-loop-item l = l.line.items ++ flat_map words_of (map reply_item_of (drop l.item-index l.items)) ≡ flat_map words_of (map reply_item_of l.items)
