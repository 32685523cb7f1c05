-- What calls on types of every profile are checked for, in parts: version, ownership, what a write intends, whether an object is there; and the
-- plans of what changes nothing, gets, lists and watches (Kubernetes docs, "Server-Side Apply"; "Kubernetes API Concepts").
use Rattle.std.specs.Prelude.{ℕ, Bool, ◌==◌, nat_le, nat_lt, List, [], ◌∷◌, ◌++◌, length, Option, Some, None, if◌then◌else◌, codes, decimal}
use Rattle.std.specs.declared.result.Result.{Result}
use Rattle.std.specs.declared.result.Result.TheVariants.{Ok, Err}
use Rattle.std.specs.FinMap as fin
use Rattle.serde_json.specs.Data.{Data, string, object, Items, no_items, item, no_members, put}
use Rattle.fieldpath.specs.Elements.{shown}
use Rattle.pathmap.specs.Contents.{Content}
use Rattle.api_types.specs.Subresources.{is_apart}
use Rattle.api_types.specs.TypesFile.{ServedShape}
use Rattle.typed.specs.Reading.{content_of}
use Rattle.objects.specs.declared.manager.Operation.{Operation}
use Rattle.objects.specs.declared.manager.Subresource.{Subresource}
use Rattle.objects.specs.declared.manager.Subresource.TheVariants.{Main, Status}
use Rattle.objects.specs.Owners.{Manager, manager_by, update_operation}
use Rattle.history.specs.History.{Key, Object, last_revision}
use Rattle.objects.specs.State.{State}
use Rattle.ownership.specs.Apply.{Conflict, conflicts, applied, is_refused}
use Rattle.ownership.specs.Update.{updated}
use Rattle.ownership.specs.Sides.{beside_others}
use Rattle.lists.specs.Body.{Collection}
use Rattle.lists.specs.Lists.{list_of}
use Rattle.lists.specs.declared.refusal.Refusal.{Refusal}
use Rattle.lists.specs.declared.refusal.Refusal.TheVariants.{Expired, TooLarge}
use Rattle.params.specs.Values.{Values, Watch}
use Rattle.params.specs.declared.params.Asked.{Asked}
use Rattle.params.specs.declared.params.Asked.TheVariants as asked
use Rattle.watchline.specs.Lines.{expired_message}
use Rattle.answers.specs.WatchFrom.{WatchFrom}
use Rattle.watchline.specs.Opening.{started}
use Rattle.watchline.specs.Watches.{HistoryWindow}
use Rattle.api_request.specs.declared.reason.Reason.TheVariants.{BadRequest, NotFound, MethodNotAllowed, AlreadyExists, ServiceUnavailable, Timeout}
use Rattle.api_request.specs.declared.reason.Reason.TheVariants as reason
use Rattle.api_request.specs.declared.verb.Verb.{Verb}
use Rattle.api_request.specs.Status.{CallRefusal}
use Rattle.api_request.specs.Validated.{Validated, and_then, call_refusal, refused_for, require}
use Rattle.api_request.specs.Calls.{Answer, Plan}
use Rattle.api_validation.specs.Envelope.{Expected, api_version_of, envelope_of}
use Rattle.api_validation.specs.Parameters.{parameters_for, parameters_validated}
use Rattle.api_validation.specs.Shapes.{shape_validated}

-- ---- version

abbrev pub no_object_message : ℕ → List ℕ
no_object_message given = codes "version " ++ (decimal given ++ codes " was given and there is no object")

abbrev pub other_version_message : ℕ → ℕ → List ℕ
other_version_message given stored = codes "version " ++ (decimal given ++ (codes " is not the stored one, " ++ decimal stored))

-- the version that a body names is that of the object that stands
abbrev pub version_checked : Option ℕ → Option Object → Validated (Unit {0})
version_checked None existing = Ok tt
version_checked (Some given) None = refused_for reason.Conflict (no_object_message given)
version_checked (Some given) (Some o) = require (given == o.revision) reason.Conflict (other_version_message given o.revision)

-- ---- ownership (Server-Side Apply, "Conflicts")

abbrev pub conflict_message : List ℕ → Manager → List ℕ
conflict_message api_version m = codes "conflict with \"" ++ (m.name ++ (codes "\" using " ++ api_version))

abbrev pub cause_of : List ℕ → Conflict → Data
cause_of api_version c =
    object (put (codes "field") (string (shown c.0)) (put (codes "message") (string (conflict_message api_version c.1))
    (put (codes "reason") (string (codes "FieldManagerConflict")) no_members)))

abbrev pub causes_of : List ℕ → List Conflict → Items
causes_of api_version [] = no_items
causes_of api_version (c ∷ cs) = item (cause_of api_version c) (causes_of api_version cs)

abbrev pub count_message : ℕ → List ℕ
count_message n = codes "Apply failed with " ++ (decimal n ++ codes " conflict(s)")

abbrev pub conflict_refusal : List ℕ → List Conflict → CallRefusal
conflict_refusal api_version cs = record {
  reason = reason.Conflict;
  message = count_message (length cs);
  at = None;
  about = None;
  causes = causes_of api_version cs;
}

abbrev pub ownership_validated : List ℕ → State → Content → Manager → Bool → Validated State
ownership_validated api_version existing config m is_forced =
    if is_refused (conflicts existing config m) is_forced then Err (conflict_refusal api_version (conflicts existing config m)) else Ok (applied existing config m)

-- ---- what a write intends

-- as its body and its parameters say: of the content only what the subresource writes counts; rest is the body less its envelope, whose
-- labels and annotations are checked next
pub record Intent : Type 0 where
  pub version : Option ℕ
  pub content : Content
  pub manager : List ℕ
  pub subresource : Subresource
  pub is_forced : Bool
  pub rest : Data

-- who intends it
abbrev pub manager_for : Operation → Intent → Manager
manager_for operation intent = manager_by intent.manager operation intent.subresource

-- envelope, shape, parameters
abbrev pub intent_of : Expected → Asked → List ℕ → Data → Validated Intent
intent_of of asked query body =
    and_then (envelope_of of body) (λ e.
    and_then (shape_validated (content_of of.served.shape e.rest)) (λ content.
    and_then (parameters_for of.served asked query) (λ values.
    Ok (record { version = e.version; content = content; manager = values.manager; subresource = of.subresource; is_forced = values.is_forced; rest = e.rest }))))

-- the parameters of a call on a type; without one they are read word for word
abbrev pub parameters_at : Option ServedShape → Asked → List ℕ → Validated Values
parameters_at None asked query = parameters_validated asked query
parameters_at (Some t) asked query = parameters_for t asked query

-- a write to the path of an object names that object
abbrev pub at_path : ServedShape → Key → Verb → Subresource → Expected
at_path t k verb subresource = record { served = t; namespace = k.namespace; name = Some k.name; verb = verb; subresource = subresource }

-- ---- what is stored

abbrev pub revisions_left : ℕ → Validated (Unit {0})
revisions_left current = require (nat_lt current last_revision) ServiceUnavailable (codes "revisions are used up")

-- the object as it stands
abbrev pub plan_without_change : Object → Plan
plan_without_change o = record { answer = record { status = 200; body = o.body; watch = None }; changes = [] }

-- what stands after an update ("Server-Side Apply", "Comparison with Client-Side Apply": its manager owns what it changes)
abbrev pub updated_by : ServedShape → Intent → State → State
updated_by t intent s = updated s (beside_others (is_apart t) intent.subresource intent.content s.content) (manager_for update_operation intent)

-- ---- objects that are there, and that are not

-- `<plural>.<group> "<name>"`, and what is said of it
abbrev pub said_of_object : ServedShape → List ℕ → List ℕ → List ℕ
said_of_object t name what = t.plural ++ (codes "." ++ (t.group ++ (codes " \"" ++ (name ++ (codes "\"" ++ what)))))

abbrev pub require_found : {X : Type 0} → ServedShape → List ℕ → Option X → Validated X
require_found t name None = refused_for NotFound (said_of_object t name (codes " not found"))
require_found t name (Some o) = Ok o

abbrev pub require_absent : ServedShape → List ℕ → Option Object → Validated (Unit {0})
require_absent t name None = Ok tt
require_absent t name (Some o) = refused_for AlreadyExists (said_of_object t name (codes " already exists"))

-- a status is written of an object that is there
abbrev pub require_object_of_status : Subresource → ServedShape → List ℕ → Option Object → Validated (Unit {0})
require_object_of_status Main t name existing = Ok tt
require_object_of_status Status t name existing = and_then (require_found t name existing) (λ o. Ok tt)

-- ---- get

abbrev pub too_large_message : ℕ → ℕ → List ℕ
too_large_message n current = codes "Too large resource version: " ++ (decimal n ++ (codes ", current: " ++ decimal current))

-- the version that is asked for has come
abbrev pub version_reached : Option ℕ → ℕ → Validated (Unit {0})
version_reached None current = Ok tt
version_reached (Some n) current = require (nat_le n current) Timeout (too_large_message n current)

-- parameters, whether the object is there, version
abbrev pub get_plan : ServedShape → ℕ → Option Object → Key → List ℕ → Validated Plan
get_plan t current existing k query =
    and_then (parameters_for t asked.Get query) (λ values.
    and_then (require_found t k.name existing) (λ o.
    and_then (version_reached values.version current) (λ u.
    Ok (plan_without_change o))))

-- ---- lists ("Retrieving large results sets in chunks") and watches ("Efficient detection of changes")

abbrev pub collection_of : ServedShape → ℕ → Option (List ℕ) → Collection
collection_of t kind namespace = record { kind = kind; namespace = namespace; api_version = api_version_of t; item_kind = t.kind }

abbrev pub list_refusal : Refusal → CallRefusal
list_refusal (Expired n compacted) = call_refusal reason.Expired (expired_message n compacted)
list_refusal (TooLarge n current) = call_refusal Timeout (too_large_message n current)

abbrev pub list_answered : Result Answer Refusal → Validated Plan
list_answered (Ok answer) = Ok (record { answer = answer; changes = [] })
list_answered (Err refusal) = Err (list_refusal refusal)

-- the text of a page
abbrev pub page_shown : Result (List ℕ) Refusal → Result Answer Refusal
page_shown (Ok text) = Ok (record { status = 200; body = text; watch = None })
page_shown (Err refusal) = Err refusal

-- a watch's lines come after its answer, which has no body
abbrev pub watch_shown : Result WatchFrom Refusal → Result Answer Refusal
watch_shown (Ok from) = Ok (record { status = 200; body = []; watch = Some from })
watch_shown (Err refusal) = Err refusal

-- a watch where the parameters ask for one, and else a page
abbrev pub shown_by : HistoryWindow → Collection → Values → Option Watch → Result Answer Refusal
shown_by s of values None = page_shown (list_of of values s.current s.compacted s.at)
shown_by s of values (Some watch) = watch_shown (started s of.kind of.namespace values watch)

-- parameters, then the revision
abbrev pub list_plan : ServedShape → HistoryWindow → ℕ → Option (List ℕ) → List ℕ → Validated Plan
list_plan t s kind namespace query =
    and_then (parameters_for t asked.List query) (λ values. list_answered (shown_by s (collection_of t kind namespace) values values.watch))

-- ---- calls

-- the object that stands under a key
abbrev pub object_at : HistoryWindow → Key → Option Object
object_at s k = fin.get (s.at s.current) k

abbrev pub key_at : ℕ → List ℕ → List ℕ → Key
key_at kind namespace name = record { kind = kind; namespace = namespace; name = name }

-- a write has a body
abbrev pub body_of : Option Data → Validated Data
body_of None = refused_for BadRequest (codes "body is not JSON")
body_of (Some body) = Ok body

abbrev pub method_not_allowed : Validated Plan
method_not_allowed = refused_for MethodNotAllowed (codes "method not served here")
