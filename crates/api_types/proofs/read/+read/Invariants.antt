use Rattle.std.proofs.Common.{◌≡◌}
use Rattle.serde_json.specs.View.{view, members_view}
use Rattle.api_types.specs.Depths.{KeepAt}
use Rattle.schema.specs.Shape.{fields_in}
use Rattle.api_types.specs.TypesFile.{fields_at, fields_of}
use Rattle.api_types.proofs.Depths.{IsInOrder}
use Rattle.api_types.proofs.Reading.{after}
use Rattle.api_types.proofs.read.+read.Given as goal

-- the fields so far, with those that are left, are all
abbrev pub invariant-read_fields-loop-name : goal.invariant-read_fields-loop-name
invariant-read_fields-loop-name l =
    KeepAt l.depth (fields_in l.fields.items) × (fields_at l.depth (view l.value) ≡ after (fields_in l.fields.items) (fields_of l.depth (members_view l.name-iterator))) × IsInOrder (view l.value)
