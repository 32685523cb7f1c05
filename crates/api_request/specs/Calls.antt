-- Calls and their answers (Kubernetes docs, "Kubernetes API Concepts", "Resource URIs", "API Verbs").
use Rattle.std.specs.Prelude.{ℕ, List, [], ◌∷◌, Option, Some, None, option_map, option_and_then, slice_get}
use Rattle.serde_json.specs.Data.{Data}
use Rattle.history.specs.History.{Change, Key}
use Rattle.api_types.specs.TypesFile.{ServedShape}
use Rattle.discovery.specs.declared.document.Document.{Document}
use Rattle.objects.specs.declared.manager.Subresource.{Subresource}
use Rattle.objects.specs.declared.manager.Subresource.TheVariants.{Main}
use Rattle.answers.specs.WatchFrom.{WatchFrom}
use Rattle.api_request.specs.declared.reason.Reason.{Reason}
use Rattle.api_request.specs.declared.verb.Verb.{Verb}
use Rattle.api_request.specs.declared.verb.Verb.TheVariants.{Get}

-- which objects of its type a call is of: all, those of a namespace, or one, by its namespace and its name, and by a subresource
-- ("Custom Resources", "Status subresource")
pub data Scope : Type 0 where
  of_all : Scope
  of_namespace : List ℕ → Scope
  of_object : List ℕ → List ℕ → Subresource → Scope

-- what a call is of: objects of the type with a number, of which something is asked, or a document of discovery, which is got
pub data Target : Type 0 where
  of_objects : ℕ → Scope → Verb → Target
  of_document : Document → Target

-- ---- what is said of it

abbrev pub verb_of : Target → Verb
verb_of (of_objects kind scope verb) = verb
verb_of (of_document document) = Get

-- the number of the type whose objects it is of
abbrev pub kind_of : Target → Option ℕ
kind_of (of_objects kind scope verb) = Some kind
kind_of (of_document document) = None

-- that type
abbrev pub type_at : List ServedShape → Target → Option ServedShape
type_at types target = option_and_then (slice_get types) (kind_of target)

-- which objects; a document is no object
abbrev pub scope_of : Target → Option Scope
scope_of (of_objects kind scope verb) = Some scope
scope_of (of_document document) = None

abbrev pub namespace_in : Scope → Option (List ℕ)
namespace_in of_all = None
namespace_in (of_namespace namespace) = Some namespace
namespace_in (of_object namespace name subresource) = Some namespace

abbrev pub namespace_of : Target → Option (List ℕ)
namespace_of target = option_and_then namespace_in (scope_of target)

-- the name of the object that it is of, where it is of one
abbrev pub name_in : Scope → Option (List ℕ)
name_in of_all = None
name_in (of_namespace namespace) = None
name_in (of_object namespace name subresource) = Some name

abbrev pub object_name : Target → Option (List ℕ)
object_name target = option_and_then name_in (scope_of target)

-- what is no status is of the object
abbrev pub subresource_in : Scope → Subresource
subresource_in of_all = Main
subresource_in (of_namespace namespace) = Main
subresource_in (of_object namespace name subresource) = subresource

abbrev pub subresource_of : Target → Subresource
subresource_of (of_objects kind scope verb) = subresource_in scope
subresource_of (of_document document) = Main

-- all objects of a namespace, or of all
abbrev pub collection_in : Option (List ℕ) → Scope
collection_in None = of_all
collection_in (Some namespace) = of_namespace namespace

-- ---- calls

-- the query as it stands in the request's target; what the client calls itself (RFC 9110, section 10.1.5); and the time of the last tick before
-- the call, in milliseconds
pub record Call : Type 0 where
  pub target : Target
  pub query : List ℕ
  pub body : Option Data
  pub agent : Option (List ℕ)
  pub ticked : ℕ

-- the same after this tick
abbrev pub at_tick : ℕ → Call → Call
at_tick ms call = record call { ticked = ms }

-- the body is a text; where a watch is opened it is empty, and the watch's lines come after it
pub record Answer : Type 0 where
  pub status : ℕ
  pub body : List ℕ
  pub watch : Option WatchFrom

-- what a call comes to: its answer, and the changes that it makes, one after the other
pub record Plan : Type 0 where
  pub answer : Answer
  pub changes : List Change

-- the change that is the only one
abbrev pub only_change : List Change → Option Change
only_change [] = None
only_change (c ∷ []) = Some c
only_change (c ∷ d ∷ cs) = None

-- .. and its key
abbrev pub only_key : List Change → Option Key
only_key cs = option_map (λ c. c.key) (only_change cs)

-- why a request is refused before a call is made of it, as by its route, method or media type; `allow` is the value of the `Allow` field (RFC 9110, section 10.2.1)
pub record Denied : Type 0 where
  pub reason : Reason
  pub message : List ℕ
  pub allow : Option (List ℕ)
