use Rattle.std.proofs.Common.{map, [], ◌∷◌, option_map, sym, ap, ◌∙◌}
use Rattle.std.proofs.lemmas.List.{map-append}
use Rattle.serde_json.specs.View.{items_view}
use Rattle.json_patch.specs.Forms.{operations_in}
use Rattle.json_patch.specs.Represented.{operation_of}
use Rattle.json_patch.proofs.Several.{not_read, read_so_far}
use Rattle.json_patch.proofs.reading_patches.read_operations.Goals as goal

pub returns-in_default : goal.returns-in_default
returns-in_default c =
    not_read (operations_in (items_view c.args.items.items)) (map operation_of c.loop-item.operations.items) c.loop-item.item-iterator.rest.items c.in-Some.item c.next.new.self.rest.items c.in-Some.ensures.steps.0
    c.loop-item.invariant (ap (option_map operation_of) (sym c.in_default.is) ∙ c.in_ok-read.ensures)

pub loop-item-preserved : goal.loop-item-preserved
loop-item-preserved c =
    read_so_far (operations_in (items_view c.args.items.items)) (map operation_of c.loop-item.operations.items) c.loop-item.item-iterator.rest.items c.in-Some.item c.next.new.self.rest.items c.in-Some.ensures.steps.0
    c.loop-item.invariant (operation_of c.in-Some-read.operation) (map operation_of c.push.new.self.items) (ap (option_map operation_of) (sym c.in-Some-read.is) ∙ c.in_ok-read.ensures) (ap (map operation_of) c.in_ok-push.ensures.items ∙ map-append operation_of c.loop-item.operations.items (c.in-Some-read.operation ∷ []))
