-- The step: what a call answers at a machine, and the machine after it, with the checks in their order
-- (Kubernetes docs, "Server-Side Apply"; "Kubernetes API Concepts", "Resource versions"; "Custom Resources", "Status subresource").
use Rattle.std.specs.Prelude.{ℕ, suc, List, [], ◌∷◌, Option, Some, None, slice_get, if◌then◌else◌, codes}
use Rattle.std.specs.declared.result.Result.TheVariants.{Ok, Err}
use Rattle.serde_json.specs.Data.{Data}
use Rattle.serde_json.specs.Written.{compact_text}
use Rattle.api_types.specs.Profiles.{is_discovered}
use Rattle.api_types.specs.Subresources.{is_apart}
use Rattle.api_types.specs.TypesFile.{ServedShape}
use Rattle.discovery.specs.declared.document.Document.{Document}
use Rattle.discovery.specs.Paths.{text_in}
use Rattle.objects.specs.declared.manager.Subresource.{Subresource}
use Rattle.objects.specs.declared.manager.Subresource.TheVariants.{Main, Status}
use Rattle.objects.specs.Owners.{apply_operation}
use Rattle.history.specs.History.{Key, Object, History}
use Rattle.history.specs.View.{View}
use Rattle.objects.specs.State.{State}
use Rattle.objects.specs.SystemMetadata.{Stamp, plain_stamp}
use Rattle.ownership.specs.Sides.{own_part}
use Rattle.ownership.specs.Sameness.{same_state}
use Rattle.objects.specs.ObjectText.{object_value}
use Rattle.params.specs.declared.params.Asked.TheVariants as asked
use Rattle.watchline.specs.Watches.{HistoryWindow, from_history, from_view}
use Rattle.api_request.specs.declared.reason.Reason.TheVariants.{NotFound}
use Rattle.api_request.specs.declared.verb.Verb.{Verb}
use Rattle.api_request.specs.declared.verb.Verb.TheVariants.{Get, Create, Update, Apply, Delete}
use Rattle.api_request.specs.Reasons.{code_of}
use Rattle.api_request.specs.Status.{CallRefusal, call_refusal_value}
use Rattle.api_request.specs.Validated.{Validated, and_then, refused_for, detailed}
use Rattle.verbs.specs.declared.planner.ObjectWrite.{ObjectWrite}
use Rattle.verbs.specs.declared.planner.ObjectWrite.TheVariants as write
use Rattle.verbs.specs.DryRuns.{is_dry_run, run_by}
use Rattle.verbs.specs.Machine.{after, identity_of, no_state, state_of_existing, decoded_state}
use Rattle.api_request.specs.Calls.{Scope, of_all, of_namespace, of_object, Call, Answer, Plan, Target, of_objects, of_document, type_at}
use Rattle.api_validation.specs.Envelope.{api_version_of, name_in}
use Rattle.api_validation.specs.Parameters.{parameters_for}
use Rattle.api_validation.specs.Naming.{labels_and_annotations_validated_by, names_validated, required_name}
use Rattle.api_validation.specs.Options.{options_validated}
use Rattle.api_validation.specs.Size.{size_validated}
pub use Rattle.verbs.specs.Checks.{no_object_message, other_version_message, version_checked, conflict_message, cause_of, causes_of, count_message, conflict_refusal, ownership_validated, Intent, manager_for, intent_of, parameters_at, at_path, revisions_left, plan_without_change, updated_by, said_of_object, require_found, require_absent, require_object_of_status, too_large_message, version_reached, get_plan, collection_of, list_refusal, list_answered, page_shown, watch_shown, shown_by, list_plan, object_at, key_at, body_of, method_not_allowed}

-- ---- the object

-- the object's text, where the system says this of it
abbrev pub text_stamped : ServedShape → Key → Stamp → State → List ℕ
text_stamped t k stamp s = compact_text (object_value t.shape (identity_of t k) stamp s)

-- the object's value and its text, where it says nothing but the version
abbrev pub object_value_at : ServedShape → Key → ℕ → State → Data
object_value_at t k revision s = object_value t.shape (identity_of t k) (plain_stamp revision) s

abbrev pub text_at : ServedShape → Key → ℕ → State → List ℕ
text_at t k revision s = compact_text (object_value_at t k revision s)

-- ---- what is stored

-- the plan that stores the object of this value, unless it has too many labels, is too large, or revisions are used up
abbrev pub plan_put_text : Data → ℕ → Key → ℕ → Validated Plan
plan_put_text body current k status =
    and_then (size_validated body) (λ u.
    and_then (revisions_left current) (λ u.
    Ok (record {
      answer = record { status = status; body = compact_text body; watch = None };
      changes = record { revision = suc current; key = k; body = Some (compact_text body) } ∷ [];
    })))

-- the plan that stores a state, with the next revision
abbrev pub plan_put : ServedShape → ℕ → Key → ℕ → State → Validated Plan
plan_put t current k status s = plan_put_text (object_value_at t k (suc current) s) current k status

-- the plan of a creation, or of a change of what stands, unless it changes nothing of what that says
abbrev pub plan_put_unless_same : ServedShape → ℕ → Key → Option Object → State → Validated Plan
plan_put_unless_same t current k None s = plan_put t current k 201 s
plan_put_unless_same t current k (Some o) s = if same_state s (decoded_state t.shape o.body) then Ok (plan_without_change o) else plan_put t current k 200 s

-- ---- apply

-- whether the object of a status is there, version, conflicts, whether anything changes, number of labels and size, revisions left
abbrev pub applied_over : ServedShape → ℕ → Key → Option Object → Intent → Validated Plan
applied_over t current k existing intent =
    and_then (require_object_of_status intent.subresource t k.name existing) (λ u.
    and_then (version_checked intent.version existing) (λ u.
    and_then (ownership_validated (api_version_of t) (state_of_existing t existing) (own_part (is_apart t) intent.subresource intent.content) (manager_for apply_operation intent) intent.is_forced) (λ s.
    plan_put_unless_same t current k existing s)))

-- of a body of JSON (`dispatch_object`): envelope, shape, parameters (`intent_of`), names with labels and annotations, what `applied_over` checks
abbrev pub apply_plan : Subresource → ServedShape → ℕ → Option Object → Key → List ℕ → Data → Validated Plan
apply_plan subresource t current existing k query body =
    and_then (intent_of (at_path t k Apply subresource) asked.Apply query body) (λ intent.
    and_then (names_validated intent.subresource k.namespace k.name intent.rest) (λ u.
    applied_over t current k existing intent))

-- ---- creation and update ("Server-Side Apply", "Comparison with Client-Side Apply": they own what they change)

-- names with labels and annotations, that no object is there, number of labels and size, revisions left
abbrev pub created_as : ServedShape → ℕ → Option Object → Key → Intent → Validated Plan
created_as t current existing k intent =
    and_then (names_validated intent.subresource k.namespace k.name intent.rest) (λ u.
    and_then (require_absent t k.name existing) (λ u.
    plan_put t current k 201 (updated_by t intent no_state)))

-- the object that a creation is of, and what it intends
pub record Creation : Type 0 where
  pub key : Key
  pub intent : Intent

-- of a body of JSON: envelope, shape, parameters, that there is a name: the body names the object
abbrev pub creation_validated : ServedShape → ℕ → List ℕ → List ℕ → Data → Validated Creation
creation_validated t kind namespace query body =
    and_then (intent_of (record { served = t; namespace = namespace; name = None; verb = Create; subresource = Main }) asked.Post query body) (λ intent.
    and_then (required_name (name_in body)) (λ name.
    Ok (record { key = record { kind = kind; namespace = namespace; name = name }; intent = intent })))

-- of a body of JSON: what `creation_validated` checks, then what `created_as` checks
abbrev pub create_plan : ServedShape → HistoryWindow → ℕ → List ℕ → List ℕ → Data → Validated Plan
create_plan t s kind namespace query body =
    and_then (creation_validated t kind namespace query body) (λ c. created_as t s.current (object_at s c.key) c.key c.intent)

-- whether the object is there, version, whether anything changes, number of labels and size, revisions left
abbrev pub updated_over : ServedShape → ℕ → Key → Option Object → Intent → Validated Plan
updated_over t current k existing intent =
    and_then (require_found t k.name existing) (λ o.
    and_then (version_checked intent.version existing) (λ u.
    plan_put_unless_same t current k existing (updated_by t intent (decoded_state t.shape o.body))))

-- of a body of JSON (`dispatch_object`): envelope, shape, parameters, labels and annotations, what `updated_over` checks
abbrev pub update_plan : Subresource → ServedShape → ℕ → Option Object → Key → List ℕ → Data → Validated Plan
update_plan subresource t current existing k query body =
    and_then (intent_of (at_path t k Update subresource) asked.Put query body) (λ intent.
    and_then (labels_and_annotations_validated_by intent.subresource intent.rest) (λ u.
    updated_over t current k existing intent))

-- ---- deletion

-- the object's last state, with the deletion's revision
abbrev pub deleted : ServedShape → ℕ → Key → Object → Plan
deleted t current k o = record {
  answer = record { status = 200; body = text_at t k (suc current) (decoded_state t.shape o.body); watch = None };
  changes = record { revision = suc current; key = k; body = None } ∷ [];
}

-- whether the object is there, version, revisions left; nothing is stored, so no size is validated
abbrev pub deleted_over : ServedShape → ℕ → Key → Option Object → Option ℕ → Validated Plan
deleted_over t current k existing version =
    and_then (require_found t k.name existing) (λ o.
    and_then (version_checked version existing) (λ u.
    and_then (revisions_left current) (λ u.
    Ok (deleted t current k o))))

-- the body's options, parameters, what `deleted_over` checks
abbrev pub delete_plan : ServedShape → ℕ → Option Object → Key → List ℕ → Option Data → Validated Plan
delete_plan t current existing k query body =
    and_then (options_validated (is_discovered t.profile) body) (λ version.
    and_then (parameters_for t asked.Delete query) (λ values.
    deleted_over t current k existing version))

-- ---- calls

-- a write of an object; a status is deleted with its object alone
abbrev pub dispatch_write : ObjectWrite → Subresource → ServedShape → ℕ → Option Object → Key → List ℕ → Option Data → Validated Plan
dispatch_write write.Update subresource t current existing k query body = and_then (body_of body) (update_plan subresource t current existing k query)
dispatch_write write.Apply subresource t current existing k query body = and_then (body_of body) (apply_plan subresource t current existing k query)
dispatch_write write.Delete Main t current existing k query body = delete_plan t current existing k query body
dispatch_write write.Delete Status t current existing k query body = method_not_allowed

-- on an object, or its status, by what is asked
abbrev pub dispatch_object : Verb → Subresource → ServedShape → ℕ → Option Object → Key → List ℕ → Option Data → Validated Plan
dispatch_object Get subresource t current existing k query body = get_plan t current existing k query
dispatch_object Create subresource t current existing k query body = method_not_allowed
dispatch_object Update subresource t current existing k query body = dispatch_write write.Update subresource t current existing k query body
dispatch_object Apply subresource t current existing k query body = dispatch_write write.Apply subresource t current existing k query body
dispatch_object Delete subresource t current existing k query body = dispatch_write write.Delete subresource t current existing k query body

abbrev pub route_not_found : Validated Plan
route_not_found = refused_for NotFound (codes "no such path")

-- by the objects that the call is of, those of the type with a number, and what is asked of them; a refusal names the object of the path,
-- where the type's profile has it so
abbrev pub dispatch_scope : Scope → Verb → ServedShape → ℕ → HistoryWindow → Call → Validated Plan
dispatch_scope of_all Get t kind s call = list_plan t s kind None call.query
dispatch_scope (of_namespace namespace) Get t kind s call = list_plan t s kind (Some namespace) call.query
dispatch_scope (of_namespace namespace) Create t kind s call = and_then (body_of call.body) (create_plan t s kind namespace call.query)
dispatch_scope (of_object namespace name subresource) how t kind s call =
    detailed t (Some name) (dispatch_object how subresource t s.current (object_at s (key_at kind namespace name)) (key_at kind namespace name) call.query call.body)
dispatch_scope scope how t kind s call = method_not_allowed

-- where a type has the number. A target is `admit`'s, which gives one of `/status` for a type that has it alone; one that is made by hand of
-- another type is served as the object
abbrev pub dispatch_type : Option ServedShape → ℕ → Scope → Verb → HistoryWindow → Call → Validated Plan
dispatch_type None kind scope verb s call = route_not_found
dispatch_type (Some t) kind scope verb s call = dispatch_scope scope verb t kind s call

-- a document's text, if there is one
abbrev pub document_shown : Option (List ℕ) → Validated Plan
document_shown None = route_not_found
document_shown (Some text) = Ok (record { answer = record { status = 200; body = text; watch = None }; changes = [] })

-- a document of discovery, of the types as they are now
abbrev pub document_plan : List ServedShape → Document → Validated Plan
document_plan types document = document_shown (text_in types document)

-- objects, or a document
abbrev pub dispatch_target : List ServedShape → Target → HistoryWindow → Call → Validated Plan
dispatch_target types (of_objects kind scope verb) s call = dispatch_type (slice_get types kind) kind scope verb s call
dispatch_target types (of_document document) s call = document_plan types document

abbrev pub dispatch_call : List ServedShape → HistoryWindow → Call → Validated Plan
dispatch_call types s call = dispatch_target types call.target s call

-- a refusal is answered by its Status, and changes nothing
abbrev pub refused : CallRefusal → Plan
refused d = record { answer = record { status = code_of d.reason; body = compact_text (call_refusal_value d); watch = None }; changes = [] }

abbrev pub plan_for : Validated Plan → Plan
plan_for (Ok p) = p
plan_for (Err d) = refused d

-- the answer of a call, and the changes that it makes, unless it is a dry run
abbrev pub planned_over : List ServedShape → HistoryWindow → Call → Plan
planned_over types s call = run_by (is_dry_run (type_at types call.target) call) (s.at s.current) (plan_for (dispatch_call types s call))

-- at a machine
abbrev pub planned : List ServedShape → History → Call → Plan
planned types m call = planned_over types (from_history m) call

-- by what may be seen of it
abbrev pub planned_in : List ServedShape → View → Call → Plan
planned_in types v call = planned_over types (from_view v) call

-- the answer, and the machine after the call
abbrev pub step : List ServedShape → History → Call → Answer × History
step types m call = ((planned types m call).answer, after m (planned types m call).changes)

-- calls in turn: their answers, and the machine after them
abbrev pub steps : List ServedShape → History → List Call → List Answer × History
steps types m [] = ([], m)
steps types m (call ∷ calls) = ((step types m call).0 ∷ (steps types (step types m call).1 calls).0, (steps types (step types m call).1 calls).1)
