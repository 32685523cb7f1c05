-- What the crate's values stand for.
use Rattle.std.specs.Prelude.{◌≡◌, ℕ, List, [], ◌∷◌, map, option_map, string_bytes}
use Rattle.std.specs.declared.result.Result.{Result}
use Rattle.std.specs.declared.result.Result.TheVariants.{Ok, Err}
use Rattle.serde_json.specs.Data.{Data}
use Rattle.serde_json.specs.View.{view, items_view}
use Rattle.matchit.specs.Params.{walk}
use Rattle.matchit.specs.declared.params.Params.{Params}
use Rattle.history.specs.History.{Change}
use Rattle.history.specs.Read.{key_of, write_of}
use Rattle.history.specs.Writes.{changes_by}
use Rattle.answers.specs.Views.{watch_from}
use Rattle.api_request.specs.declared.calls.Target.{Target as TheTarget}
use Rattle.api_request.specs.declared.calls.Target.TheVariants as target
use Rattle.api_request.specs.declared.calls.Scope.{Scope as TheScope}
use Rattle.api_request.specs.declared.calls.Scope.TheVariants as scope
use Rattle.api_request.specs.declared.calls.Call.{Call as TheCall}
use Rattle.api_request.specs.declared.calls.Answer.{Answer as TheAnswer}
use Rattle.api_request.specs.declared.calls.Plan.{Plan as ThePlan}
use Rattle.api_request.specs.declared.change.Change.{Change as TheChange}
use Rattle.api_request.specs.declared.changes.Changes.{Changes}
use Rattle.api_request.specs.declared.changes.Changes.TheVariants as made
use Rattle.api_request.specs.declared.admitting.Denied.{Denied as TheDenied}
use Rattle.api_request.specs.declared.admitting.AdmitFault.{AdmitFault}
use Rattle.api_request.specs.declared.admitting.AdmitFault.TheVariants as refusal
use Rattle.api_request.specs.declared.body.Body.{Body}
use Rattle.api_request.specs.declared.call_refusal.CallRefusal.{CallRefusal as TheCallRefusal}
use Rattle.api_request.specs.declared.call_error.CallError.{CallError}
use Rattle.api_request.specs.declared.call_error.CallError.TheVariants as call_error
use Rattle.api_request.specs.declared.details.About.{About as TheAbout}
use Rattle.api_request.specs.declared.details.FieldFault.{FieldFault as TheFieldFault}
use Rattle.api_request.specs.declared.place.RequestInfo.{RequestInfo as ThePlace}
use Rattle.api_request.specs.declared.reason.Reason.{Reason}
use Rattle.api_request.specs.Admit.{Parts, RequestInfo}
use Rattle.api_request.specs.Calls.{Target, of_objects, of_document, Scope, of_all, of_namespace, of_object, Call, Answer, Plan, Denied}
use Rattle.api_request.specs.Details.{About, FieldFault}
use Rattle.api_request.specs.Status.{CallRefusal}
use Rattle.api_request.specs.Validated.{Validated, call_refusal}

-- ---- calls and answers

abbrev pub scope_seen : TheScope → Scope
scope_seen scope.All = of_all
scope_seen (scope.Namespace namespace) = of_namespace (string_bytes namespace)
scope_seen (scope.Object namespace name subresource) = of_object (string_bytes namespace) (string_bytes name) subresource

abbrev pub target_of : TheTarget → Target
target_of (target.Objects kind scope verb) = of_objects kind (scope_seen scope) verb
target_of (target.Document document) = of_document document

abbrev pub body_seen : Body → Data
body_seen b = view b.value

abbrev pub call_of : TheCall → Call
call_of c = record { target = target_of c.target; query = c.query.items; body = option_map body_seen c.body; agent = option_map (λ a. a.items) c.agent; ticked = c.ticked }

abbrev pub answer_of : TheAnswer → Answer
answer_of a = record { status = a.status; body = string_bytes a.body; watch = option_map watch_from a.watch }

abbrev pub change_of : TheChange → Change
change_of c = record { revision = c.revision; key = key_of c.key; body = option_map (λ s. string_bytes s.value) c.text }

abbrev pub changes_of : Changes → List Change
changes_of made.None = []
changes_of (made.Answered c) = change_of c ∷ []
changes_of (made.Each writes) = changes_by writes.after (map write_of writes.writes.items)

abbrev pub plan_of : ThePlan → Plan
plan_of p = record { answer = answer_of p.answer; changes = changes_of p.changes }

-- ---- refusals

abbrev pub field_fault_of : TheFieldFault → FieldFault
field_fault_of f = record { path = string_bytes f.path; cause = f.cause; what = string_bytes f.what }

abbrev pub about_of : TheAbout → About
about_of a = record { group = option_map (λ s. string_bytes s) a.group; kind = string_bytes a.kind; name = string_bytes a.name }

abbrev pub call_refusal_of : TheCallRefusal → CallRefusal
call_refusal_of d = record {
  reason = d.reason;
  message = string_bytes d.message;
  at = option_map field_fault_of d.at;
  about = option_map about_of d.about;
  causes = items_view d.causes.items;
}

abbrev pub Refuses : CallError → CallRefusal → Type 0
Refuses call_error.Memory d = Unit {0}
Refuses (call_error.Refused e) d = call_refusal_of e ≡ d

-- the refusal is of this reason and message, without causes, unless memory ran out
abbrev pub RefusesFor : CallError → Reason → List ℕ → Type 0
RefusesFor e r message = Refuses e (call_refusal r message)

-- what a check answered, seen by see, is what is validated, unless memory ran out
abbrev pub FailsWith : {Y : Type 0} → CallError → Validated Y → Type 0
FailsWith call_error.Memory validated = Unit {0}
FailsWith (call_error.Refused d) validated = validated ≡ Err (call_refusal_of d)

abbrev pub Returns : {X Y : Type 0} → (X → Y) → Result X CallError → Validated Y → Type 0
Returns see (Ok x) validated = validated ≡ Ok (see x)
Returns see (Err e) validated = FailsWith e validated

abbrev pub denied_of : TheDenied → Denied
denied_of d = record { reason = d.reason; message = d.message.now; allow = option_map (λ s. s.now) d.allow }

-- what `admit` answered is what is admitted, unless memory ran out
abbrev pub Admits : Result TheTarget AdmitFault → Result Target Denied → Type 0
Admits (Ok t) answer = answer ≡ Ok (target_of t)
Admits (Err (refusal.Denied d)) answer = answer ≡ Err (denied_of d)
Admits (Err refusal.Memory) answer = Unit {0}

-- ---- places

abbrev pub parts_of : Params → Parts
parts_of p = walk p.pattern.now p.text.now p.path.now p.names.now 0 0

abbrev pub place_seen : ThePlace → RequestInfo
place_seen p = record { resource = p.resource; kind = p.kind; namespace = option_map (λ s. s.now) p.namespace; name = option_map (λ s. s.now) p.name }
