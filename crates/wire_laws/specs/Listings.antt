-- A call that lists (Kubernetes API Concepts, "Retrieving large results sets in chunks"), one that watches, and their plans.
use Rattle.std.specs.Prelude.{◌≡◌, ℕ, List, [], Option, None, Some, slice_get}
use Rattle.std.specs.declared.result.Result.TheVariants.{Ok}
use Rattle.api_types.specs.TypesFile.{ServedShape}
use Rattle.params.specs.Values.{Values, Watch}
use Rattle.params.specs.declared.params.Asked.TheVariants as asked
use Rattle.api_request.specs.declared.verb.Verb.TheVariants.{Get}
use Rattle.answers.specs.WatchFrom.{WatchFrom}
use Rattle.watchline.specs.Opening.{from_parts}
use Rattle.answers.specs.declared.watch_from.InitialEvents.TheVariants.{Changes}
use Rattle.api_request.specs.Calls.{Call, Plan, of_objects, collection_in}
use Rattle.api_validation.specs.Parameters.{parameters_validated}

-- a GET of the objects of the served type with a number, in a namespace or in all; its query says these values, and no watch
pub record IsListing (types : List ServedShape) (call : Call) (t : ServedShape) (kind : ℕ) (namespace : Option (List ℕ)) (values : Values) : Type 0 where
  pub served : slice_get types kind ≡ Some t
  pub gets : call.target ≡ of_objects kind (collection_in namespace) Get
  pub says : parameters_validated asked.List call.query ≡ Ok values
  pub unwatched : values.watch ≡ None

-- a GET of these whose query says these values, and a watch from this version on
pub record IsWatching (types : List ServedShape) (call : Call) (t : ServedShape) (kind : ℕ) (namespace : Option (List ℕ)) (values : Values) (watch : Watch) (revision : ℕ) : Type 0 where
  pub served : slice_get types kind ≡ Some t
  pub gets : call.target ≡ of_objects kind (collection_in namespace) Get
  pub says : parameters_validated asked.List call.query ≡ Ok values
  pub watches : values.watch ≡ Some watch
  pub after : values.version ≡ Some revision

-- the answer of such a text, and no change
abbrev pub page_plan : List ℕ → Plan
page_plan text = record { answer = record { status = 200; body = text; watch = None }; changes = [] }

-- it opens a watch, and changes nothing
abbrev pub watch_plan : WatchFrom → Plan
watch_plan from = record { answer = record { status = 200; body = []; watch = Some from }; changes = [] }

-- the watch that such a call opens from a version on: it tells changes alone
abbrev pub watch_after : ℕ → Option (List ℕ) → Values → Watch → ℕ → WatchFrom
watch_after kind namespace values watch revision = from_parts kind namespace values.selector watch revision Changes
