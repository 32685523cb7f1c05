use Rattle.std.proofs.Common.{◌≡◌, string_cmp}
use Rattle.std.specs.List.Sorted.{IsStrictlySortedBy}
use Rattle.std.specs.Map.{keys_of}
use Rattle.serde_json.specs.View.{members_view}
use Rattle.api_types.specs.Depths.{KeepAt}
use Rattle.schema.specs.Shape.{fields_in}
use Rattle.api_types.specs.TypesFile.{fields_of, own_properties}
use Rattle.api_types.proofs.Reading.{after}
use Rattle.api_types.proofs.file.own_fields.Given as goal

abbrev pub invariant-loop-name : goal.invariant-loop-name
invariant-loop-name l =
    KeepAt 1 (fields_in l.fields.items)
    × (fields_of 1 (own_properties (members_view l.properties.entries)) ≡ after (fields_in l.fields.items) (fields_of 1 (own_properties (members_view l.name-iterator))))
    × IsStrictlySortedBy string_cmp (keys_of l.properties.entries)
