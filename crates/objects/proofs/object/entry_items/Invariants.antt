use Rattle.std.proofs.Common.{◌≡◌, map, take}
use Rattle.serde_json.specs.View.{view}
use Rattle.schema.specs.Shape.{shape}
use Rattle.objects.specs.Managers.{pairs}
use Rattle.objects.proofs.Objects.{value_of}
use Rattle.objects.proofs.object.entry_items.Given as goal

abbrev pub invariant-loop-entry : goal.invariant-loop-entry
invariant-loop-entry l = map view l.items.items ≡ map (value_of (shape l.schema) l.api_version) (pairs (take l.entry-index l.entries))
