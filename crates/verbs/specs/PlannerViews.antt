-- What a plan is made from: a type, a call, and the revision at which the store stands.
use Rattle.std.specs.Prelude.{◌≤◌}
use Rattle.schema.specs.ObjectShape.{IsObjectShape}
use Rattle.api_types.specs.Served.{served}
use Rattle.api_types.specs.TypesFile.{ServedShape}
use Rattle.history.specs.History.{last_revision}
use Rattle.verbs.specs.declared.planner.Planner.{Planner}
use Rattle.api_request.specs.Calls.{Call}
use Rattle.api_request.specs.Views.{call_of}

abbrev pub type_of : Planner → ServedShape
type_of p = served p.served.now

abbrev pub call_of_entry : Planner → Call
call_of_entry p = call_of p.call.now

-- the revision is at most the last, and the type's shape is an object's shape
abbrev pub IsSoundPlanner : Planner → Type 0
IsSoundPlanner p = (p.current ≤ last_revision) × IsObjectShape (type_of p).shape
