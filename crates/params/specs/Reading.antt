-- What the parameters of a call say, or the first at fault: single ones in byte order of their names, then
-- those that don't go together (Kubernetes documentation, "Kubernetes API Concepts").
use Rattle.std.specs.Prelude.{ℕ, Bool, true, false, not, ◌&&◌, ◌==◌, if◌then◌else◌, is_some, is_none, List, [], ◌∷◌, Option, Some, None, option_map, codes, ⊤}
use Rattle.std.specs.declared.result.Result.{Result}
use Rattle.std.specs.declared.result.Result.TheVariants.{Ok, Err}
use Rattle.std.specs.Str.{bytes_eq}
use Rattle.names.specs.Decimals.{decimal_up_to, version_of}
use Rattle.selector.specs.declared.fault.Fault.{Fault}
use Rattle.selector.specs.Grammar.{parse_selector}
use Rattle.selector.specs.Requirement.{Requirement}
use Rattle.params.specs.declared.parameter.Parameter.{Parameter}
use Rattle.params.specs.declared.parameter.Parameter.TheVariants as parameter
use Rattle.params.specs.declared.params.Asked.{Asked}
use Rattle.params.specs.declared.params.Asked.TheVariants as asked
use Rattle.params.specs.declared.params.VersionMatch.{VersionMatch}
use Rattle.params.specs.declared.params.VersionMatch.TheVariants.{Exact, NotOlderThan}
use Rattle.params.specs.Query.{Pairs, value_of}
use Rattle.params.specs.Texts.{truth_of, match_of, manager_of, token_of}
use Rattle.params.specs.Values.{Token, Values, no_values}

-- the parameter that is at fault, or what was read
abbrev pub Read : Type 0 → Type 0
Read A = Result A Parameter

infixl 10 ◌>>=◌
abbrev pub ◌>>=◌ : {A B : Type 0} → Read A → (A → Read B) → Read B
(Ok x) >>= f = f x
(Err p) >>= f = Err p

-- ---- single parameters

abbrev pub or_bad : {A : Type 0} → Parameter → Option A → Read A
or_bad p (Some x) = Ok x
or_bad p None = Err p

-- an empty text is absence, any other has to read
abbrev pub text_or : {A : Type 0} → A → (List ℕ → Option A) → Parameter → List ℕ → Read A
text_or absent read p [] = Ok absent
text_or absent read p (b ∷ bs) = or_bad p (read (b ∷ bs))

-- it isn't served, so it may only be absent
abbrev pub absent_in : Parameter → Pairs → Read ⊤
absent_in p pairs = text_or tt (λ text. None) p (value_of p pairs)

abbrev pub truth_in : Parameter → Pairs → Read Bool
truth_in p pairs = text_or false truth_of p (value_of p pairs)

abbrev pub number_in : Parameter → ℕ → Pairs → Read ℕ
number_in p max pairs = text_or 0 (decimal_up_to max) p (value_of p pairs)

abbrev pub version_in : Pairs → Read (Option ℕ)
version_in pairs = text_or None (λ text. option_map Some (version_of text)) parameter.ResourceVersion (value_of parameter.ResourceVersion pairs)

abbrev pub match_in : Pairs → Read (Option VersionMatch)
match_in pairs = text_or None (λ text. option_map Some (match_of text)) parameter.ResourceVersionMatch (value_of parameter.ResourceVersionMatch pairs)

abbrev pub token_in : Pairs → Read (Option Token)
token_in pairs = text_or None (λ text. option_map Some (token_of text)) parameter.Continue (value_of parameter.Continue pairs)

abbrev pub selected : Result (List Requirement) Fault → Read (List Requirement)
selected (Ok s) = Ok s
selected (Err f) = Err parameter.LabelSelector

-- the empty selector selects all
abbrev pub selector_in : Pairs → Read (List Requirement)
selector_in pairs = selected (parse_selector (value_of parameter.LabelSelector pairs))

-- fields are validated strictly and not otherwise ("Field validation")
abbrev pub strict_in : Pairs → Read ⊤
strict_in pairs = text_or tt (λ text. if bytes_eq text (codes "Strict") then Some tt else None) parameter.FieldValidation (value_of parameter.FieldValidation pairs)

-- the manager's name where it has to be given, and where another stands for it
abbrev pub manager_in : Pairs → Read (List ℕ)
manager_in pairs = or_bad parameter.FieldManager (manager_of (value_of parameter.FieldManager pairs))

abbrev pub manager_or : List ℕ → Pairs → Read (List ℕ)
manager_or absent pairs = text_or absent manager_of parameter.FieldManager (value_of parameter.FieldManager pairs)

-- ---- what goes together ("Resource versions", "Retrieving large results sets in chunks")

-- no version is asked for, or any
abbrev pub is_any : Option ℕ → Bool
is_any None = true
is_any (Some v) = v == 0

-- a match is of a version, an exact one of a version above 0
abbrev pub match_fits : Option VersionMatch → Option ℕ → Bool
match_fits None version = true
match_fits (Some Exact) version = not (is_any version)
match_fits (Some NotOlderThan) version = is_some version

-- a list that goes on is of its token's revision
abbrev pub token_fits : Option Token → Option VersionMatch → Option ℕ → Bool
token_fits None match version = true
token_fits (Some token) match version = is_none match && is_any version

abbrev pub together : Values → Read Values
together values =
    if match_fits values.version_match values.version
    then (if token_fits values.token values.version_match values.version then Ok values else Err parameter.Continue)
    else Err parameter.ResourceVersionMatch

-- ---- calls

abbrev pub got : Pairs → Read Values
got pairs = version_in pairs >>= λ v. Ok (record no_values { version = v })

abbrev pub listed : Pairs → Read Values
listed pairs =
    token_in pairs
    >>= λ token. absent_in parameter.FieldSelector pairs
    >>= λ _. selector_in pairs
    >>= λ selector. number_in parameter.Limit 9223372036854775807 pairs
    >>= λ limit. version_in pairs
    >>= λ version. match_in pairs
    >>= λ match. absent_in parameter.SendInitialEvents pairs
    >>= λ _. together (record no_values { token = token; selector = selector; limit = limit; version = version; version_match = match })

abbrev pub watched : Pairs → Read Values
watched pairs =
    truth_in parameter.AllowWatchBookmarks pairs
    >>= λ bookmarks. absent_in parameter.FieldSelector pairs
    >>= λ _. selector_in pairs
    >>= λ selector. version_in pairs
    >>= λ version. absent_in parameter.ResourceVersionMatch pairs
    >>= λ _. absent_in parameter.SendInitialEvents pairs
    >>= λ _. number_in parameter.TimeoutSeconds 2147483647 pairs
    >>= λ timeout. Ok (record no_values { selector = selector; version = version; watch = Some (record { has_bookmarks = bookmarks; timeout = timeout }) })

-- a list that is to be watched is a watch, and `watch` is read before all else
abbrev pub listed_or_watched : Pairs → Read Values
listed_or_watched pairs = truth_in parameter.Watch pairs >>= λ is_watch. if is_watch then watched pairs else listed pairs

abbrev pub written : Pairs → Read Values
written pairs =
    absent_in parameter.DryRun pairs
    >>= λ _. manager_or (codes "unknown") pairs
    >>= λ manager. strict_in pairs
    >>= λ _. Ok (record no_values { manager = manager })

abbrev pub applied : Pairs → Read Values
applied pairs =
    absent_in parameter.DryRun pairs
    >>= λ _. manager_in pairs
    >>= λ manager. strict_in pairs
    >>= λ _. truth_in parameter.Force pairs
    >>= λ is_forced. Ok (record no_values { manager = manager; is_forced = is_forced })

abbrev pub deleted : Pairs → Read Values
deleted pairs = absent_in parameter.DryRun pairs >>= λ _. Ok no_values

abbrev pub params_of : Asked → Pairs → Read Values
params_of asked.Get pairs = got pairs
params_of asked.List pairs = listed_or_watched pairs
params_of asked.Post pairs = written pairs
params_of asked.Put pairs = written pairs
params_of asked.Apply pairs = applied pairs
params_of asked.Delete pairs = deleted pairs
