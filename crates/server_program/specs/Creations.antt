-- Objects that are created from the lines of a text: each by a POST of the value that its line is of.
use Rattle.std.specs.Prelude.{◌≡◌, ◌≢◌, ◌≤◌, ◌<◌, ◌+◌, ◌==◌, ℕ, Bool, not, List, [], ◌∷◌, ◌++◌, length, Option, Some, None, Ok, codes, option_and_then}
use Rattle.std.specs.List.{AllByRecursion, AllZip, filter, slice_split}
use Rattle.serde_json.specs.Data.{Data}
use Rattle.serde_json.specs.Find.{as_object}
use Rattle.serde_json.specs.Read.{read as read_json}
use Rattle.json_values.specs.Members.{members_at, text_at}
use Rattle.api_types.specs.TypesFile.{ServedShape}
use Rattle.history.specs.History.{History}
use Rattle.api_request.specs.Admit.{admitted}
use Rattle.api_request.specs.Calls.{Call}
use Rattle.api_request.specs.declared.method.Method.TheVariants.{Post}
use Rattle.api_request.specs.declared.admitting.AdmitFault.{AdmitFault}
use Rattle.api_request.specs.declared.admitting.AdmitFault.TheVariants as admit_fault
use Rattle.requests.specs.Bodies.{max_body}
use Rattle.verbs.specs.declared.fault.Fault.TheVariants.{Memory}
use Rattle.verbs.specs.Views.{ApiRepresents}
use Rattle.verbs.specs.Step.{step, steps}
use Rattle.verbs.specs.declared.api.Api.{Api}
use Rattle.server_program.specs.declared.object_fault.ObjectFault.{ObjectFault}
use Rattle.server_program.specs.declared.object_fault.ObjectFault.TheVariants as fault

-- ---- the creation of a line

-- the group and version that an object names
abbrev pub version_in : Data → Option (List ℕ)
version_in value = option_and_then (text_at (codes "apiVersion")) (as_object value)

-- the namespace that an object names
abbrev pub namespace_in : Data → Option (List ℕ)
namespace_in value = option_and_then (text_at (codes "namespace")) (option_and_then (members_at (codes "metadata")) (as_object value))

-- the path to objects of a plural, of the version and in the namespace that the object names (a POST is asked itself whether that is its kind)
pub record IsPathFor (value : Data) (path : List ℕ) : Type 0 where
  pub version : List ℕ
  pub namespace : List ℕ
  pub plural : List ℕ
  pub names_version : version_in value ≡ Some version
  pub names_namespace : namespace_in value ≡ Some namespace
  pub is : path ≡ codes "/apis/" ++ (version ++ (codes "/namespaces/" ++ (namespace ++ (codes "/" ++ plural))))

-- the call of a POST, without parameters, of the value that the line is of, which is no longer than a body may be; no client makes it, and it
-- comes before any tick
pub record IsCreation (types : List ServedShape) (line : List ℕ) (call : Call) : Type 0 where
  pub fits : length line ≤ max_body
  pub value : Data
  pub reads : read_json line ≡ Some value
  pub path : List ℕ
  pub leads : IsPathFor value path
  pub target : admitted types (Some Post) path None ≡ Ok call.target
  pub query : call.query ≡ []
  pub body : call.body ≡ Some value
  pub agent : call.agent ≡ None
  pub ticked : call.ticked ≡ 0

-- a creation of the line is answered as one, and the API is the one after it
pub record Creates (types : List ServedShape) (m : History) (line : List ℕ) (api : Api) : Type 0 where
  pub call : Call
  pub creation : IsCreation types line call
  pub created : (step types m call).0.status ≡ 201
  pub stands : ApiRepresents api types (step types m call).1

-- why the line's object isn't created: it is longer than a body may be, it is no JSON, or its POST is answered otherwise; no more is said of
-- other faults
abbrev pub IsRefused : List ServedShape → History → List ℕ → ObjectFault → Type 0
IsRefused types m line fault.TooLarge = max_body < length line
IsRefused types m line (fault.NotJson e) = read_json line ≡ None
IsRefused types m line (fault.Refused status message) = (call : Call) × IsCreation types line call × ((step types m call).0.status ≡ status) × (status ≢ 201)
IsRefused types m line why = Unit {0}

-- what is told of a POST that no path leads to
abbrev pub fault_of_admission : AdmitFault → ObjectFault
fault_of_admission (admit_fault.Denied denied) = fault.Denied denied.message
fault_of_admission admit_fault.Memory = fault.Failed Memory

-- ---- lines in turn

-- the lines of a text, which line feeds part
abbrev pub lines_of : List ℕ → List (List ℕ)
lines_of text = slice_split (λ b. b == 10) text

abbrev pub is_filled : List ℕ → Bool
is_filled line = not (length line == 0)

-- creations of the lines that aren't empty are made in turn, each is answered as one, and the API is the one after them
pub record CreatesAll (types : List ServedShape) (m : History) (lines : List (List ℕ)) (api : Api) : Type 0 where
  pub calls : List Call
  pub creations : AllZip (IsCreation types) (filter is_filled lines) calls
  pub created : AllByRecursion (λ a. a.status ≡ 201) (steps types m calls).0
  pub stands : ApiRepresents api types (steps types m calls).1

-- the API is the one after the lines before line n, counted from 1, whose object isn't created
pub record EndsAtLine (types : List ServedShape) (m : History) (lines : List (List ℕ)) (n : ℕ) (why : ObjectFault) (api : Api) : Type 0 where
  pub before : List (List ℕ)
  pub line : List ℕ
  pub after : List (List ℕ)
  pub split : lines ≡ before ++ line ∷ after
  pub place : n ≡ length before + 1
  pub filled : line ≢ []
  pub so_far : CreatesAll types m before api
  pub refused : IsRefused types (steps types m so_far.calls).1 line why
