-- Each reply that a hub writes is one that its client reads: its status, what it allows, and how long it is.
use Rattle.std.proofs.Common.{arith, ◌≡◌, ℕ, suc, ◌≤◌, Bool, true, false, List, [], ◌∷◌, length, take, drop, Option, None, Some, Result, Ok, Err, refl, sym, subst, inl, inr}
use Rattle.std.proofs.lemmas.Bool.{leb-true}
use Rattle.std.specs.Fmt.{digits}
use Rattle.std.specs.Prelude.{◌==◌, codes, if◌then◌else◌, nat_le, nat_lt, slice_get, ⊤}
use Rattle.http.specs.StatusCode.{IsStatusCode}
use Rattle.httparse.specs.Grammar.{RequestHead, is_value_byte}
use Rattle.serde_json.proofs.OnLiterals.{serde_json_on_literals}
use Rattle.serde_json.specs.Data.{Data}
use Rattle.serde_json.specs.Written.{compact_text}
use Rattle.objects.specs.State.{State}
use Rattle.objects.specs.declared.manager.Subresource.{Subresource}
use Rattle.objects.specs.declared.manager.Subresource.TheVariants as subresource
use Rattle.objects.specs.Owners.{apply_operation}
use Rattle.ownership.specs.Sides.{own_part}
use Rattle.ownership.specs.Sameness.{same_state}
use Rattle.api_types.specs.Profiles.{is_discovered}
use Rattle.api_types.specs.Subresources.{is_apart}
use Rattle.api_types.specs.TypesFile.{ServedShape}
use Rattle.api_request.specs.declared.method.Method.{Method}
use Rattle.api_request.specs.declared.method.Method.TheVariants as method
use Rattle.api_request.specs.declared.verb.Verb.{Verb}
use Rattle.api_request.specs.declared.verb.Verb.TheVariants as verb
use Rattle.api_request.specs.declared.reason.Reason.{Reason}
use Rattle.api_request.specs.declared.reason.Reason.TheVariants as reason
use Rattle.discovery.specs.declared.document.Document.{Document}
use Rattle.discovery.specs.Paths.{document_in, text_in}
use Rattle.api_request.specs.declared.resource.Resource.{Resource}
use Rattle.api_request.specs.declared.resource.Resource.TheVariants as resource
use Rattle.api_request.specs.Admit.{RequestInfo, admitted, allowed, document_admitted, method_admitted, method_named, method_served, path_admitted, place_of, target_at, document_got, verb_admitted, verb_asked}
use Rattle.api_request.specs.Calls.{Answer, Call, Denied, Plan, Scope, Target, of_all, of_namespace, of_object, only_key, of_objects, of_document, type_at}
use Rattle.lists.specs.declared.refusal.Refusal.{Refusal as ListRefusal}
use Rattle.lists.specs.Body.{Collection}
use Rattle.lists.specs.Lists.{list_of}
use Rattle.params.specs.Values.{Values, Watch}
use Rattle.answers.specs.WatchFrom.{WatchFrom}
use Rattle.watchline.specs.Opening.{started}
use Rattle.watchline.specs.Watches.{HistoryWindow, from_history}
use Rattle.params.specs.declared.params.Asked.TheVariants as asked
use Rattle.api_validation.specs.Envelope.{api_version_of}
use Rattle.api_request.specs.Validated as validated
use Rattle.api_request.specs.Validated.{Validated}
use Rattle.history.specs.History.{History, Key, Object, Objects, current_objects}
use Rattle.verbs.specs.Machine.{no_state, state_of_existing, decoded_state}
use Rattle.api_validation.specs.Naming.{labels_and_annotations_validated_by, names_validated}
use Rattle.api_validation.specs.Options.{options_validated}
use Rattle.api_validation.specs.Parameters.{parameters_for}
use Rattle.api_request.specs.Reasons.{code_of}
use Rattle.api_request.specs.Status.{CallRefusal, status_value}
use Rattle.api_validation.specs.Size.{size_validated}
use Rattle.verbs.specs.DryRuns.{answer_tried, is_dry_run, run_by}
use Rattle.verbs.specs.Step as step
use Rattle.requests.specs.Asks.{CallDecision, Asks, call_in, call_with}
use Rattle.wire.specs.Heads.{head_end, max_head}
use Rattle.requests.specs.Bodies.{body_in, checked_media, declared_body, declared_length, json_in, max_body, may_have_body, needed_length, needs_body, optional_length, path_of, sized, some_json}
use Rattle.requests.specs.Decision.{Decision, undecided, refused, accepted, and_then, decided_by}
use Rattle.requests.specs.Heads.{HeadDecision, Length, ReadsHeadAt, Request, number, malformed, missing, validated_head}
use Rattle.requests.specs.Refusals.{Refusal, as_denied, bad_head, bad_length, body_too_large, head_too_large, no_length, not_json, not_one_host, refuse, too_many_connections, transfer_encoding, wrong_version}
use Rattle.wireclient.specs.Reads as client
use Rattle.wire_laws.specs.Printed.{IsAllowed}
use Rattle.wire.proofs.Lines.{passes_each}

-- ---- refusals

-- the methods that it allows fit a field, and its Status fits a body
pub record IsReadable (d : Denied) : Type 0 where
  pub allow : IsAllowed d.allow
  pub short : length (compact_text (status_value d.reason d.message)) ≤ client.max_body

is_short : (r : Reason) (message : List ℕ) → nat_le (length (compact_text (status_value r message))) client.max_body ≡ true → length (compact_text (status_value r message)) ≤ client.max_body
is_short r message is = leb-true _ _ is

plain : (r : Reason) (message : List ℕ) → nat_le (length (compact_text (status_value r message))) client.max_body ≡ true → IsReadable (record { reason = r; message = message; allow = None })
plain r message is = record { allow = tt {0}; short = is_short r message is }

pub refusal_readable : (r : Refusal) → IsReadable (as_denied r)
unfolding serde_json_on_literals digits
refusal_readable head_too_large = plain reason.RequestHeaderFieldsTooLarge (codes "request head too large") refl
refusal_readable bad_head = plain reason.BadRequest (codes "bad request head") refl
refusal_readable wrong_version = plain reason.HttpVersionNotSupported (codes "HTTP/1.1 is needed") refl
refusal_readable not_one_host = plain reason.BadRequest (codes "one Host field is needed") refl
refusal_readable transfer_encoding = plain reason.NotImplemented (codes "Transfer-Encoding is not served") refl
refusal_readable no_length = plain reason.LengthRequired (codes "Content-Length is needed") refl
refusal_readable bad_length = plain reason.BadRequest (codes "bad Content-Length") refl
refusal_readable body_too_large = plain reason.RequestEntityTooLarge (codes "body over 262144 bytes") refl
refusal_readable not_json = plain reason.BadRequest (codes "body is not JSON") refl
refusal_readable too_many_connections = plain reason.ServiceUnavailable (codes "too many connections") refl

no_path_readable : IsReadable (record { reason = reason.NotFound; message = codes "no such path"; allow = None })
unfolding serde_json_on_literals digits
no_path_readable = plain reason.NotFound (codes "no such path") refl

media_readable : IsReadable (record { reason = reason.UnsupportedMediaType; message = codes "media type not served"; allow = None })
unfolding serde_json_on_literals digits
media_readable = plain reason.UnsupportedMediaType (codes "media type not served") refl

allowed_readable : (r : Resource) → IsAllowed (Some (allowed r))
allowed_readable resource.AllNamespaces = (passes_each is_value_byte (codes "GET") refl, omega arith)
allowed_readable resource.Collection = (passes_each is_value_byte (codes "GET, POST") refl, omega arith)
allowed_readable resource.Object = (passes_each is_value_byte (codes "DELETE, GET, PATCH, PUT") refl, omega arith)
allowed_readable resource.Status = (passes_each is_value_byte (codes "GET, PATCH, PUT") refl, omega arith)

method_short : length (compact_text (status_value reason.MethodNotAllowed (codes "method not served here"))) ≤ client.max_body
unfolding serde_json_on_literals digits
method_short = is_short reason.MethodNotAllowed (codes "method not served here") refl

pub code_is : (r : Reason) → IsStatusCode (code_of r)
code_is reason.BadRequest = (omega arith, omega arith)
code_is reason.NotFound = (omega arith, omega arith)
code_is reason.MethodNotAllowed = (omega arith, omega arith)
code_is reason.AlreadyExists = (omega arith, omega arith)
code_is reason.Conflict = (omega arith, omega arith)
code_is reason.Expired = (omega arith, omega arith)
code_is reason.LengthRequired = (omega arith, omega arith)
code_is reason.RequestEntityTooLarge = (omega arith, omega arith)
code_is reason.UnsupportedMediaType = (omega arith, omega arith)
code_is reason.Invalid = (omega arith, omega arith)
code_is reason.RequestHeaderFieldsTooLarge = (omega arith, omega arith)
code_is reason.NotImplemented = (omega arith, omega arith)
code_is reason.ServiceUnavailable = (omega arith, omega arith)
code_is reason.Timeout = (omega arith, omega arith)
code_is reason.HttpVersionNotSupported = (omega arith, omega arith)

-- ---- what bytes ask

abbrev WhenRefused : {A : Type 0} → Decision A → Type 0
WhenRefused undecided = ⊤
WhenRefused (refused d) = IsReadable d
WhenRefused (accepted a) = ⊤

-- where it is refused, the refusal is one that the client reads
pub record Readable (A : Type 0) (x : Decision A) : Type 0 where
  pub is : WhenRefused x

no : {A : Type 0} (r : Refusal) → Readable A (refuse r)
no r = record { is = refusal_readable r }

more : {A : Type 0} → Readable A undecided
more = record { is = tt {0} }

yes : {A : Type 0} (a : A) → Readable A (accepted a)
yes a = record { is = tt {0} }

if_readable : {A : Type 0} (b : Bool) (x y : Decision A) → Readable A x → Readable A y → Readable A (if b then x else y)
if_readable true x y is other = is
if_readable false x y is other = other

then_readable : {A B : Type 0} (x : Decision A) (next : A → Decision B) → Readable A x → ((a : A) → Readable B (next a)) → Readable B (and_then x next)
then_readable undecided next is later = more
then_readable (refused d) next is later = record { is = is.is }
then_readable (accepted a) next is later = later a

abbrev WhenErr : {A : Type 0} → Result A Denied → Type 0
WhenErr (Ok a) = ⊤
WhenErr (Err d) = IsReadable d

pub record ReadableResult (A : Type 0) (x : Result A Denied) : Type 0 where
  pub is : WhenErr x

err : {A : Type 0} (d : Denied) → IsReadable d → ReadableResult A (Err d)
err d is = record { is = is }

ok : {A : Type 0} (a : A) → ReadableResult A (Ok a)
ok a = record { is = tt {0} }

if_result : {A : Type 0} (b : Bool) (x y : Result A Denied) → ReadableResult A x → ReadableResult A y → ReadableResult A (if b then x else y)
if_result true x y is other = is
if_result false x y is other = other

decided_readable : {A : Type 0} (r : Result A Denied) → ReadableResult A r → Readable A (decided_by r)
decided_readable (Ok a) is = yes a
decided_readable (Err d) is = record { is = is.is }

four_readable : (s t u v : Bool) (head : Request × List ℕ)
    → Readable (Request × List ℕ) (if s then refuse head_too_large else (if t then refuse wrong_version else (if u then refuse not_one_host else (if v then refuse bad_head else accepted head))))
four_readable true t u v head = no head_too_large
four_readable false true u v head = no wrong_version
four_readable false false true v head = no not_one_host
four_readable false false false true head = no bad_head
four_readable false false false false head = yes head

validated_readable : (h : RequestHead) (rest : List ℕ) → Readable (Request × List ℕ) (validated_head h rest)
validated_readable h rest = four_readable _ _ _ _ _

at_readable : (bytes : List ℕ) (o : Option ℕ) (head : HeadDecision) → ReadsHeadAt bytes o head → Readable (Request × List ℕ) head
at_readable bytes None head is =
    subst (λ (x : HeadDecision). Readable (Request × List ℕ) x) (sym is) (if_readable (nat_lt max_head (length bytes)) (refuse head_too_large) undecided (no head_too_large) more)
at_readable bytes (Some n) head (inl (h, reads, is)) = subst (λ (x : HeadDecision). Readable (Request × List ℕ) x) (sym is) (validated_readable h (drop n bytes))
at_readable bytes (Some n) head (inr (none, is)) = subst (λ (x : HeadDecision). Readable (Request × List ℕ) x) (sym is) (no bad_head)

verb_readable : (place : RequestInfo) (v : Option Verb) → ReadableResult Target (verb_admitted place v)
verb_readable place None = err _ media_readable
verb_readable place (Some v) = ok (target_at place v)

method_readable : (place : RequestInfo) (m : Option Method) (media : Option (List ℕ)) → ReadableResult Target (method_admitted place m media)
method_readable place None media = err _ (record { allow = allowed_readable place.resource; short = method_short })
method_readable place (Some m) media = verb_readable place (verb_asked m media)

got_readable : (document : Document) (m : Option Method) → ReadableResult Target (document_got document m)
got_readable document None = err _ (record { allow = allowed_readable resource.AllNamespaces; short = method_short })
got_readable document (Some method.Get) = ok (of_document document)
got_readable document (Some method.Post) = err _ (record { allow = allowed_readable resource.AllNamespaces; short = method_short })
got_readable document (Some method.Put) = err _ (record { allow = allowed_readable resource.AllNamespaces; short = method_short })
got_readable document (Some method.Patch) = err _ (record { allow = allowed_readable resource.AllNamespaces; short = method_short })
got_readable document (Some method.Delete) = err _ (record { allow = allowed_readable resource.AllNamespaces; short = method_short })

document_readable : (o : Option Document) (m : Option Method) → ReadableResult Target (document_admitted o m)
document_readable None m = err _ no_path_readable
document_readable (Some document) m = got_readable document m

path_readable : (types : List ServedShape) (o : Option RequestInfo) (m : Option Method) (path : List ℕ) (media : Option (List ℕ)) → ReadableResult Target (path_admitted types o m path media)
path_readable types None m path media = document_readable (document_in types path) m
path_readable types (Some place) m path media = method_readable place (method_served place.resource m) media

sized_readable : (n : ℕ) → ReadableResult (Option ℕ) (sized n)
sized_readable n = if_result (nat_lt max_body n) (Err (as_denied body_too_large)) (Ok (Some n)) (err _ (refusal_readable body_too_large)) (ok (Some n))

needed_readable : (l : Length) → ReadableResult (Option ℕ) (needed_length l)
needed_readable missing = err _ (refusal_readable no_length)
needed_readable malformed = err _ (refusal_readable bad_length)
needed_readable (number n) = sized_readable n

optional_readable : (l : Length) → ReadableResult (Option ℕ) (optional_length l)
optional_readable missing = ok None
optional_readable malformed = err _ (refusal_readable bad_length)
optional_readable (number n) = if_result (n == 0) (Ok None) (sized n) (ok None) (sized_readable n)

encoded_readable : (b : Bool) (x : Result (Option ℕ) Denied) → ReadableResult (Option ℕ) x → ReadableResult (Option ℕ) (if b then Err (as_denied transfer_encoding) else x)
encoded_readable true x is = err _ (refusal_readable transfer_encoding)
encoded_readable false x is = is

by_method : (needs may : Bool) (x y : Result (Option ℕ) Denied) → ReadableResult (Option ℕ) x → ReadableResult (Option ℕ) y
    → ReadableResult (Option ℕ) (if needs then x else (if may then y else Ok None))
by_method true may x y is other = is
by_method false true x y is other = other
by_method false false x y is other = ok None

declared_readable : (r : Request) → ReadableResult (Option ℕ) (declared_length r)
declared_readable r =
    by_method (needs_body r.method) (may_have_body r.method) (if r.transfer_encoded then Err (as_denied transfer_encoding) else needed_length r.length)
    (if r.transfer_encoded then Err (as_denied transfer_encoding) else optional_length r.length)
    (encoded_readable r.transfer_encoded (needed_length r.length) (needed_readable r.length)) (encoded_readable r.transfer_encoded (optional_length r.length) (optional_readable r.length))

json_readable : (o : Option Data) → Readable (Option Data) (some_json o)
json_readable None = no not_json
json_readable (Some value) = yes (Some value)

declared_body_readable : (o : Option ℕ) (rest : List ℕ) → Readable (Option Data) (declared_body o rest)
declared_body_readable None rest = yes None
declared_body_readable (Some n) rest = if_readable (nat_lt (length rest) n) undecided (some_json (json_in (take n rest))) more (json_readable (json_in (take n rest)))

body_readable : (r : Request) (rest : List ℕ) → Readable (Option Data) (body_in r rest)
body_readable r rest =
    then_readable (decided_by (declared_length r)) (λ n. declared_body n rest) (decided_readable (declared_length r) (declared_readable r)) (λ n. declared_body_readable n rest)

with_readable : (r : Request) (target : Target) (body : Decision (Option Data)) → Readable (Option Data) body → Readable Call (call_with r target body)
with_readable r target undecided is = more
with_readable r target (refused d) is = record { is = is.is }
with_readable r target (accepted value) is = yes _

call_readable : (types : List ServedShape) (r : Request) (rest : List ℕ) → Readable Call (call_in types r rest)
call_readable types r rest =
    let target = admitted types (method_named r.method) (path_of r.request_target) (checked_media r) in
    then_readable (decided_by target) (λ t. call_with r t (body_in r rest))
    (decided_readable target (path_readable types (place_of types (path_of r.request_target)) (method_named r.method) (path_of r.request_target) (checked_media r)))
    (λ t. with_readable r t (body_in r rest) (body_readable r rest))

pub asked_readable : (types : List ServedShape) (bytes : List ℕ) (d : Denied) → Asks types bytes (refused d) → IsReadable d
asked_readable types bytes d (head, reads, is) =
    let all = then_readable head (λ r. call_in types r.0 r.1) (at_readable bytes (head_end (take max_head bytes)) head reads) (λ r. call_readable types r.0 r.1) in
    (subst (λ (x : CallDecision). Readable Call x) (sym is) all).is

-- ---- answers

abbrev WhenDone : Validated Plan → Type 0
WhenDone (Ok p) = IsStatusCode p.answer.status
WhenDone (Err d) = ⊤

-- where it is done, the answer's status is a status code
pub record IsFine (j : Validated Plan) : Type 0 where
  pub is : WhenDone j

denied : (d : CallRefusal) → IsFine (Err d)
denied d = record { is = tt {0} }

checked : {X : Type 0} (x : Validated X) (f : X → Validated Plan) → ((a : X) → IsFine (f a)) → IsFine (validated.and_then x f)
checked (Ok a) f is = is a
checked (Err d) f is = denied d

detailed_fine : (t : ServedShape) (name : Option (List ℕ)) (x : Validated Plan) → IsFine x → IsFine (validated.detailed t name x)
detailed_fine t name (Ok p) is = is
detailed_fine t name (Err d) is = denied _

if_fine : (b : Bool) (x y : Validated Plan) → IsFine x → IsFine y → IsFine (if b then x else y)
if_fine true x y is other = is
if_fine false x y is other = other

stored_fine : (body : Data) (current : ℕ) (k : Key) (status : ℕ) → IsStatusCode status → IsFine (step.plan_put_text body current k status)
stored_fine body current k status is =
    let plan : Plan = record {
      answer = record { status = status; body = compact_text body; watch = None };
      changes = record { revision = suc current; key = k; body = Some (compact_text body) } ∷ [];
    } in
    let left : Unit {0} → Validated Plan = λ u. validated.and_then (step.revisions_left current) (λ v. Ok plan) in
    checked (size_validated body) left (λ u. checked (step.revisions_left current) (λ v. Ok plan) (λ v. record { is = is }))

over_fine : (t : ServedShape) (current : ℕ) (k : Key) (o : Option Object) (s : State) → IsFine (step.plan_put_unless_same t current k o s)
over_fine t current k None s = stored_fine (step.object_value_at t k (suc current) s) current k 201 (omega arith, omega arith)
over_fine t current k (Some o) s =
    if_fine (same_state s (decoded_state t.shape o.body)) (Ok (step.plan_without_change o)) (step.plan_put t current k 200 s) (record { is = (omega arith, omega arith) })
    (stored_fine (step.object_value_at t k (suc current) s) current k 200 (omega arith, omega arith))

applied_fine : (t : ServedShape) (current : ℕ) (k : Key) (existing : Option Object) (intent : step.Intent) → IsFine (step.applied_over t current k existing intent)
applied_fine t current k existing intent =
    let owned = step.ownership_validated (api_version_of t) (state_of_existing t existing) (own_part (is_apart t) intent.subresource intent.content) (step.manager_for apply_operation intent) intent.is_forced in
    let stored : Unit {0} → Validated Plan = λ u. validated.and_then owned (step.plan_put_unless_same t current k existing) in
    checked (step.require_object_of_status intent.subresource t k.name existing) (λ u. validated.and_then (step.version_checked intent.version existing) stored)
    (λ u. checked (step.version_checked intent.version existing) stored
    (λ u. checked owned (step.plan_put_unless_same t current k existing) (λ s. over_fine t current k existing s)))

fine : (p : Plan) → IsStatusCode p.answer.status → IsFine (Ok p)
fine p is = record { is = is }

apply_fine : (by : Subresource) (t : ServedShape) (current : ℕ) (existing : Option Object) (k : Key) (query : List ℕ) (body : Data) → IsFine (step.apply_plan by t current existing k query body)
apply_fine by t current existing k query body =
    checked (step.intent_of (step.at_path t k verb.Apply by) asked.Apply query body)
    (λ intent. validated.and_then (names_validated intent.subresource k.namespace k.name intent.rest) (λ u. step.applied_over t current k existing intent))
    (λ intent. checked (names_validated intent.subresource k.namespace k.name intent.rest) (λ u. step.applied_over t current k existing intent)
    (λ u. applied_fine t current k existing intent))

get_fine : (t : ServedShape) (current : ℕ) (existing : Option Object) (k : Key) (query : List ℕ) → IsFine (step.get_plan t current existing k query)
get_fine t current existing k query =
    checked (parameters_for t asked.Get query)
    (λ values. validated.and_then (step.require_found t k.name existing) (λ o. validated.and_then (step.version_reached values.version current) (λ u. Ok (step.plan_without_change o))))
    (λ values. checked (step.require_found t k.name existing) (λ o. validated.and_then (step.version_reached values.version current) (λ u. Ok (step.plan_without_change o)))
    (λ o. checked (step.version_reached values.version current) (λ u. Ok (step.plan_without_change o)) (λ u. fine (step.plan_without_change o) (omega arith, omega arith))))

created_fine : (t : ServedShape) (current : ℕ) (existing : Option Object) (k : Key) (intent : step.Intent) → IsFine (step.created_as t current existing k intent)
created_fine t current existing k intent =
    let new = step.updated_by t intent no_state in
    checked (names_validated intent.subresource k.namespace k.name intent.rest)
    (λ u. validated.and_then (step.require_absent t k.name existing) (λ v. step.plan_put t current k 201 new))
    (λ u. checked (step.require_absent t k.name existing) (λ v. step.plan_put t current k 201 new)
    (λ v. stored_fine (step.object_value_at t k (suc current) new) current k 201 (omega arith, omega arith)))

create_fine : (t : ServedShape) (s : HistoryWindow) (kind : ℕ) (namespace query : List ℕ) (body : Data) → IsFine (step.create_plan t s kind namespace query body)
create_fine t s kind namespace query body =
    checked (step.creation_validated t kind namespace query body) (λ c. step.created_as t s.current (step.object_at s c.key) c.key c.intent)
    (λ c. created_fine t s.current (step.object_at s c.key) c.key c.intent)

updated_fine : (t : ServedShape) (current : ℕ) (k : Key) (existing : Option Object) (intent : step.Intent) → IsFine (step.updated_over t current k existing intent)
updated_fine t current k existing intent =
    checked (step.require_found t k.name existing)
    (λ o. validated.and_then (step.version_checked intent.version existing) (λ u. step.plan_put_unless_same t current k existing (step.updated_by t intent (decoded_state t.shape o.body))))
    (λ o. checked (step.version_checked intent.version existing) (λ u. step.plan_put_unless_same t current k existing (step.updated_by t intent (decoded_state t.shape o.body)))
    (λ u. over_fine t current k existing (step.updated_by t intent (decoded_state t.shape o.body))))

update_fine : (by : Subresource) (t : ServedShape) (current : ℕ) (existing : Option Object) (k : Key) (query : List ℕ) (body : Data) → IsFine (step.update_plan by t current existing k query body)
update_fine by t current existing k query body =
    checked (step.intent_of (step.at_path t k verb.Update by) asked.Put query body)
    (λ intent. validated.and_then (labels_and_annotations_validated_by intent.subresource intent.rest) (λ u. step.updated_over t current k existing intent))
    (λ intent. checked (labels_and_annotations_validated_by intent.subresource intent.rest) (λ u. step.updated_over t current k existing intent)
    (λ u. updated_fine t current k existing intent))

deleted_fine : (t : ServedShape) (current : ℕ) (k : Key) (existing : Option Object) (version : Option ℕ) → IsFine (step.deleted_over t current k existing version)
deleted_fine t current k existing version =
    checked (step.require_found t k.name existing)
    (λ o. validated.and_then (step.version_checked version existing) (λ u. validated.and_then (step.revisions_left current) (λ v. Ok (step.deleted t current k o))))
    (λ o. checked (step.version_checked version existing) (λ u. validated.and_then (step.revisions_left current) (λ v. Ok (step.deleted t current k o)))
    (λ u. checked (step.revisions_left current) (λ v. Ok (step.deleted t current k o)) (λ v. fine (step.deleted t current k o) (omega arith, omega arith))))

delete_fine : (t : ServedShape) (current : ℕ) (existing : Option Object) (k : Key) (query : List ℕ) (body : Option Data) → IsFine (step.delete_plan t current existing k query body)
delete_fine t current existing k query body =
    checked (options_validated (is_discovered t.profile) body) (λ version. validated.and_then (parameters_for t asked.Delete query) (λ values. step.deleted_over t current k existing version))
    (λ version. checked (parameters_for t asked.Delete query) (λ values. step.deleted_over t current k existing version)
    (λ values. deleted_fine t current k existing version))

with_body : (o : Option Data) (validate : Data → Validated Plan) → ((body : Data) → IsFine (validate body)) → IsFine (validated.and_then (step.body_of o) validate)
with_body o validate is = checked (step.body_of o) validate is

object_fine : (v : Verb) (by : Subresource) (t : ServedShape) (current : ℕ) (existing : Option Object) (k : Key) (query : List ℕ) (o : Option Data) → IsFine (step.dispatch_object v by t current existing k query o)
object_fine verb.Get by t current existing k query o = get_fine t current existing k query
object_fine verb.Create by t current existing k query o = denied _
object_fine verb.Update by t current existing k query o = with_body o (step.update_plan by t current existing k query) (update_fine by t current existing k query)
object_fine verb.Apply by t current existing k query o = with_body o (step.apply_plan by t current existing k query) (apply_fine by t current existing k query)
object_fine verb.Delete subresource.Main t current existing k query o = delete_fine t current existing k query o
object_fine verb.Delete subresource.Status t current existing k query o = denied _

-- ---- lists and watches

abbrev IsAnswer : Result Answer ListRefusal → Type 0
IsAnswer (Ok a) = IsStatusCode a.status
IsAnswer (Err refusal) = Unit {0}

page_answer : (r : Result (List ℕ) ListRefusal) → IsAnswer (step.page_shown r)
page_answer (Ok text) = (omega arith, omega arith)
page_answer (Err refusal) = tt {0}

watch_answer : (r : Result WatchFrom ListRefusal) → IsAnswer (step.watch_shown r)
watch_answer (Ok from) = (omega arith, omega arith)
watch_answer (Err refusal) = tt {0}

shown : (s : HistoryWindow) (of : Collection) (values : Values) (o : Option Watch) → IsAnswer (step.shown_by s of values o)
shown s of values None = page_answer (list_of of values s.current s.compacted s.at)
shown s of values (Some watch) = watch_answer (started s of.kind of.namespace values watch)

answered : (r : Result Answer ListRefusal) → IsAnswer r → IsFine (step.list_answered r)
answered (Ok a) is = fine _ is
answered (Err refusal) is = denied _

list_fine : (t : ServedShape) (s : HistoryWindow) (kind : ℕ) (namespace : Option (List ℕ)) (query : List ℕ) → IsFine (step.list_plan t s kind namespace query)
list_fine t s kind namespace query =
    let of = step.collection_of t kind namespace in
    checked (parameters_for t asked.List query) (λ values. step.list_answered (step.shown_by s of values values.watch))
    (λ values. answered (step.shown_by s of values values.watch) (shown s of values values.watch))

all_fine : (v : Verb) (t : ServedShape) (kind : ℕ) (s : HistoryWindow) (call : Call) → IsFine (step.dispatch_scope of_all v t kind s call)
all_fine verb.Get t kind s call = list_fine t s kind None call.query
all_fine verb.Create t kind s call = denied _
all_fine verb.Update t kind s call = denied _
all_fine verb.Apply t kind s call = denied _
all_fine verb.Delete t kind s call = denied _

collection_fine : (v : Verb) (t : ServedShape) (kind : ℕ) (s : HistoryWindow) (call : Call) (namespace : List ℕ) → IsFine (step.dispatch_scope (of_namespace namespace) v t kind s call)
collection_fine verb.Create t kind s call namespace = with_body call.body (step.create_plan t s kind namespace call.query) (create_fine t s kind namespace call.query)
collection_fine verb.Get t kind s call namespace = list_fine t s kind (Some namespace) call.query
collection_fine verb.Update t kind s call namespace = denied _
collection_fine verb.Apply t kind s call namespace = denied _
collection_fine verb.Delete t kind s call namespace = denied _

by_fine : (scope : Scope) (v : Verb) (t : ServedShape) (kind : ℕ) (s : HistoryWindow) (call : Call) → IsFine (step.dispatch_scope scope v t kind s call)
by_fine of_all v t kind s call = all_fine v t kind s call
by_fine (of_namespace namespace) v t kind s call = collection_fine v t kind s call namespace
by_fine (of_object namespace name by) v t kind s call =
    let k = step.key_at kind namespace name in
    detailed_fine t (Some name) (step.dispatch_object v by t s.current (step.object_at s k) k call.query call.body) (object_fine v by t s.current (step.object_at s k) k call.query call.body)

type_fine : (found : Option ServedShape) (kind : ℕ) (scope : Scope) (v : Verb) (s : HistoryWindow) (call : Call) → IsFine (step.dispatch_type found kind scope v s call)
type_fine None kind scope v s call = denied _
type_fine (Some t) kind scope v s call = by_fine scope v t kind s call

document_fine : (text : Option (List ℕ)) → IsFine (step.document_shown text)
document_fine None = denied _
document_fine (Some text) = fine _ (omega arith, omega arith)

target_fine : (types : List ServedShape) (target : Target) (s : HistoryWindow) (call : Call) → IsFine (step.dispatch_target types target s call)
target_fine types (of_objects kind scope v) s call = type_fine (slice_get types kind) kind scope v s call
target_fine types (of_document document) s call = document_fine (text_in types document)

plan_fine : (j : Validated Plan) → IsFine j → IsStatusCode (step.plan_for j).answer.status
plan_fine (Ok p) is = is.is
plan_fine (Err d) is = code_is d.reason

-- a dry run has the status of the call
tried_status : (objects : Objects) (changed : Option Key) (answer : Answer) → IsStatusCode answer.status → IsStatusCode (answer_tried objects changed answer).status
tried_status objects None answer is = is
tried_status objects (Some k) answer is = is

run_status : (is_dry : Bool) (objects : Objects) (p : Plan) → IsStatusCode p.answer.status → IsStatusCode (run_by is_dry objects p).answer.status
run_status true objects p is = tried_status objects (only_key p.changes) p.answer is
run_status false objects p is = is

pub status_is : (types : List ServedShape) (m : History) (call : Call) → IsStatusCode (step.planned types m call).answer.status
status_is types m call =
    run_status (is_dry_run (type_at types call.target) call) (current_objects m) (step.plan_for (step.dispatch_call types (from_history m) call))
    (plan_fine (step.dispatch_call types (from_history m) call) (target_fine types call.target (from_history m) call))
