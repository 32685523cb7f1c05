use Rattle.std.proofs.Common.{◌≡◌, ◌+◌, ◌-◌, ◌*◌, Some, codes}
use Rattle.json_values.specs.Members.{members_at}
use Rattle.serde_json.specs.Data.{Members, object}
use Rattle.serde_json.specs.View.{members_view}
use Rattle.api_types.specs.FaultPlaces.{AreBroken}
use Rattle.api_types.proofs.locate.+find.Given as goal

-- each step leads one deeper, and a schema is no deeper than 17

abbrev pub decreases-find : goal.decreases-find
decreases-find l = 5 * (17 - l.depth) + 4

abbrev pub decreases-find_in_parts : goal.decreases-find_in_parts
decreases-find_in_parts l = 5 * (17 - l.depth) + 3

abbrev pub decreases-find_in_object : goal.decreases-find_in_object
decreases-find_in_object l = 5 * (17 - l.depth) + 2

abbrev pub decreases-find_in_properties : goal.decreases-find_in_properties
decreases-find_in_properties l = 5 * (17 - l.depth) + 1

abbrev pub decreases-find_behind : goal.decreases-find_behind
decreases-find_behind l = 5 * (17 - l.depth)

-- so far, each part that was found breaks its rule

abbrev pub invariant-find_in_properties-loop-name : goal.invariant-find_in_properties-loop-name
invariant-find_in_properties-loop-name l =
    (ms : Members) → members_at (codes "properties") ms ≡ Some (members_view l.properties.entries) → AreBroken l.depth (object ms) l.found.items
