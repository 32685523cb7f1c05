use Rattle.std.proofs.Common.{drop}
use Rattle.json.specs.Value.{items_view}
use Rattle.json_texts.specs.InOrder.{items_data}
use Rattle.schema.specs.Shape.{shape}
use Rattle.objects.specs.Parts.{entries_in}
use Rattle.objects.proofs.Listed.{AreReadTo}
use Rattle.objects.proofs.managed_fields.read_entries.Given as goal

abbrev pub invariant-loop-value : goal.invariant-loop-value
invariant-loop-value l = AreReadTo (shape l.schema) (entries_in (shape l.schema) (items_data (items_view l.values))) l.entries.items (drop l.value-index l.values)
