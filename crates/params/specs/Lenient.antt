-- What a query means of a type that clients discover, since they send more than is served (Kubernetes documentation, "Kubernetes API
-- Concepts", "Field validation", "Dry-run"; "Field Selectors").
use Rattle.std.specs.Prelude.{◌≡◌, ℕ, Bool, ◌||◌, if◌then◌else◌, List, [], ◌++◌, map, is_some, unwrap_or, codes}
use Rattle.std.specs.declared.result.Result.TheVariants.{Ok}
use Rattle.std.specs.Str.{bytes_eq}
use Rattle.selector.specs.Fields.{fields_of}
use Rattle.selector.specs.Requirement.{Requirement}
use Rattle.params.specs.declared.parameter.Parameter.TheVariants.{AllowWatchBookmarks, DryRun, FieldSelector, FieldValidation, Force, Watch}
use Rattle.params.specs.declared.params.Asked.{Asked}
use Rattle.params.specs.declared.params.Asked.TheVariants as asked
use Rattle.params.specs.Parameters.{name_of}
use Rattle.params.specs.Query.{Pairs, value_of}
use Rattle.params.specs.Reading.{Read, ◌>>=◌, params_of}
use Rattle.params.specs.Values.{Values}

-- a truth value may begin with a capital letter, as Python prints it
abbrev pub truth_meant : List ℕ → List ℕ
truth_meant value =
    if bytes_eq value (codes "True") then codes "true"
    else if bytes_eq value (codes "False") then codes "false"
    else value

-- whatever is to become of unknown fields, they are refused
abbrev pub validation_meant : List ℕ → List ℕ
validation_meant value = if bytes_eq value (codes "Ignore") || bytes_eq value (codes "Warn") then codes "Strict" else value

-- a dry run is read as the call itself
abbrev pub dry_run_meant : List ℕ → List ℕ
dry_run_meant value = if bytes_eq value (codes "All") then [] else value

-- what asks for a name is read beside the rest, which is read as if it weren't there
abbrev pub fields_meant : List ℕ → List ℕ
fields_meant value = if is_some (fields_of value) then [] else value

abbrev pub is_truth : List ℕ → Bool
is_truth name = bytes_eq name (name_of AllowWatchBookmarks) || bytes_eq name (name_of Force) || bytes_eq name (name_of Watch)

-- the value that is meant under a name
abbrev pub value_meant : List ℕ → List ℕ → List ℕ
value_meant name value =
    if is_truth name then truth_meant value
    else if bytes_eq name (name_of FieldValidation) then validation_meant value
    else if bytes_eq name (name_of DryRun) then dry_run_meant value
    else if bytes_eq name (name_of FieldSelector) then fields_meant value
    else value

abbrev pub pair_meant : List ℕ × List ℕ → List ℕ × List ℕ
pair_meant pair = (pair.0, value_meant pair.0 pair.1)

-- the query that is meant
abbrev pub lenient : Pairs → Pairs
lenient pairs = map pair_meant pairs

-- what a list or a watch asks of the names of objects
abbrev pub fields_asked : Asked → Pairs → List Requirement
fields_asked asked.List pairs = unwrap_or (fields_of (value_of FieldSelector pairs)) []
fields_asked other pairs = []

-- objects have to meet these requirements, too
abbrev pub asking : List Requirement → Values → Values
asking requirements values = record values { selector = values.selector ++ requirements }

-- what the query says that is meant
abbrev pub values_meant : Asked → Pairs → Read Values
values_meant asked pairs = params_of asked (lenient pairs) >>= λ values. Ok (asking (fields_asked asked pairs) values)

-- what a query says as it is read: leniently or word for word
abbrev pub values_read : Bool → Asked → Pairs → Read Values
values_read is_lenient asked pairs = if is_lenient then values_meant asked pairs else params_of asked pairs

-- what is planned is to be answered, and not to be stored
abbrev pub is_dry_run : Pairs → Bool
is_dry_run pairs = bytes_eq (value_of DryRun pairs) (codes "All")

-- ---- laws

-- what a query says word for word, it says leniently too
abbrev pub LenientReadsAll : Type 0
LenientReadsAll = (asked : Asked) (pairs : Pairs) (values : Values) → params_of asked pairs ≡ Ok values → values_meant asked pairs ≡ Ok values
