use Rattle.std.proofs.Common.{◌≡◌, []}
use Rattle.std.specs.List.{All}
use Rattle.serde_json.specs.Data.{object}
use Rattle.serde_json.specs.View.{members_view}
use Rattle.api_types.specs.FaultPlaces.{EndsReading, IsBroken}
use Rattle.api_types.specs.Keywords.{has_only, keywords}
use Rattle.api_types.proofs.locate.unknown_keywords.Given as goal

-- each was unknown, and where none was found, none is among those that were looked at
abbrev pub invariant-loop-name : goal.invariant-loop-name
invariant-loop-name l =
    All (IsBroken EndsReading l.depth (object (members_view l.schema.entries))) l.found.items
    × (l.found.items ≡ [] → has_only keywords (members_view l.name-iterator) ≡ has_only keywords (members_view l.schema.entries))
