use Rattle.std.proofs.Common.{◌≡◌, map, length, drop}
use Rattle.std.specs.List.{All}
use Rattle.serde_json.specs.View.{items_view}
use Rattle.schema.specs.ObjectShape.{IsObjectShape}
use Rattle.schema.specs.Shape.{shape}
use Rattle.api_types.specs.Served.{served}
use Rattle.api_types.specs.TypesFile.{types_of}
use Rattle.api_types.proofs.TypeByType.{after}
use Rattle.api_types.proofs.file.read_types.Given as goal

abbrev pub invariant-loop-value : goal.invariant-loop-value
invariant-loop-value l =
    (types_of l.profile (items_view l.values) ≡ after (map served l.types.items) (types_of l.profile (items_view (drop l.value-index l.values)))) × (length l.types.items ≡ l.value-index)
    × All (λ t. IsObjectShape (shape t.schema)) l.types.items
