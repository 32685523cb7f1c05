use Rattle.std.proofs.Common.{◌≡◌, map}
use Rattle.serde_json.specs.View.{items_view}
use Rattle.json_patch.specs.Forms.{operations_in}
use Rattle.json_patch.specs.Represented.{operation_of}
use Rattle.json_patch.proofs.Several.{and_more}
use Rattle.json_patch.proofs.reading_patches.read_operations.Given as goal

-- what is read and what is left give the whole
abbrev pub invariant-loop-item : goal.invariant-loop-item
invariant-loop-item l = and_more (map operation_of l.operations.items) (operations_in (items_view l.item-iterator.rest.items)) ≡ operations_in (items_view l.fn.items.items)
