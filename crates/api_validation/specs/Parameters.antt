-- The parameters of a call, or the refusal of the first that is at fault (Kubernetes API reference, "Common Parameters").
use Rattle.std.specs.Prelude.{◌≡◌, ℕ, false, List, ◌++◌, codes}
use Rattle.std.specs.declared.result.Result.{Result}
use Rattle.std.specs.declared.result.Result.TheVariants.{Ok, Err}
use Rattle.params.specs.declared.parameter.Parameter.{Parameter}
use Rattle.params.specs.declared.parameter.Parameter.TheVariants.{FieldManager}
use Rattle.params.specs.declared.params.Asked.{Asked}
use Rattle.api_types.specs.Profiles.{is_discovered}
use Rattle.api_types.specs.TypesFile.{ServedShape}
use Rattle.params.specs.Lenient.{values_read}
use Rattle.params.specs.Parameters.{name_of}
use Rattle.params.specs.Query.{pairs_in}
use Rattle.params.specs.Reading.{params_of}
use Rattle.params.specs.Values.{Values}
use Rattle.api_request.specs.declared.reason.Reason.TheVariants.{BadRequest, Invalid}
use Rattle.api_request.specs.Status.{CallRefusal}
use Rattle.api_request.specs.Validated.{Validated, call_refusal}

abbrev pub named_bad : Parameter → CallRefusal
named_bad p = call_refusal BadRequest (codes "bad parameter: " ++ name_of p)

-- a manager's name has a refusal of its own
abbrev pub bad_parameter : Parameter → CallRefusal
bad_parameter FieldManager = call_refusal Invalid (codes "fieldManager: 1 to 128 printable characters")
bad_parameter p = named_bad p

abbrev pub read_or_refused : {X : Type 0} → Result X Parameter → Validated X
read_or_refused (Ok x) = Ok x
read_or_refused (Err p) = Err (bad_parameter p)

abbrev pub parameters_validated : Asked → List ℕ → Validated Values
parameters_validated asked query = read_or_refused (params_of asked (pairs_in query))

-- on a type: of one that clients discover the query is read leniently
abbrev pub parameters_for : ServedShape → Asked → List ℕ → Validated Values
parameters_for t asked query = read_or_refused (values_read (is_discovered t.profile) asked (pairs_in query))

-- of a type that clients don't discover it is read word for word, ..
abbrev pub OthersAreReadByWords : Type 0
OthersAreReadByWords = (t : ServedShape) (asked : Asked) (query : List ℕ) → is_discovered t.profile ≡ false → parameters_for t asked query ≡ parameters_validated asked query

-- .. and what is said so is said on each type
abbrev pub WordsAreReadOnEach : Type 0
WordsAreReadOnEach = (t : ServedShape) (asked : Asked) (query : List ℕ) (values : Values) → parameters_validated asked query ≡ Ok values → parameters_for t asked query ≡ Ok values
