-- A hub's machine stays one, whatever happens.
use Rattle.std.proofs.Common.{◌≡◌, ℕ, Bool, true, false, cond, List, [], ◌∷◌, Option, Some, None, Result, Ok, Err, refl, sym, ap, subst, ◌∙◌, true≢false, leb-true}
use Rattle.std.specs.Prelude.{◌&&◌, length, nat_le, nat_lt, take}
use Rattle.std.specs.FinMap as fin
use Rattle.std.specs.Str.{is_utf8}
use Rattle.serde_json.specs.Data.{Data}
use Rattle.serde_json.specs.Read.{read}
use Rattle.fieldpath.proofs.Encodable.{encodable-read}
use Rattle.api_types.specs.TypesFile.{ServedShape}
use Rattle.history.specs.History.{History}
use Rattle.api_request.specs.Admit.{admitted, method_named}
use Rattle.api_request.specs.Calls.{Call, at_tick}
use Rattle.api_request.specs.Json.{IsJsonBody}
use Rattle.verbs.specs.Machine.{IsMachine}
use Rattle.verbs.specs.Retyping.{RetypeRefusal, retyping}
use Rattle.verbs.proofs.Machines.{compactions_keep_machines}
use Rattle.verbs.proofs.Promise.{steps_keep_machines}
use Rattle.verbs.proofs.Retypings.{retypings_keep_machines}
use Rattle.requests.specs.Asks.{CallDecision, asked_by, call_in}
use Rattle.requests.specs.Bodies.{body_in, body_of, checked_media, declared_body, declared_length, json_in, path_of, query_of, some_json}
use Rattle.httpedge.specs.Connections.{Connection, Phase, waiting, watching, ended, gone}
use Rattle.requests.specs.Decision.{Decision, undecided, refused, accepted, and_then, decided_by}
use Rattle.requests.specs.Heads.{HeadDecision, Request}
use Rattle.httpedge.specs.Runs.{AsksIf, Follows, Action, Runs, bytes_at, happens, runs_out_of_memory, takes}
use Rattle.httpedge.specs.Steps.{Event, Refusal, State, compaction_refused, opens, comes, goes, pumps, ticks, compacts, retypes, by_connection, applied_event, machine_after, received_by, refusal, out_of_memory, unless_refused, with_types}

-- ---- the body of a call that bytes ask is a value that a JSON text spells

abbrev is_accepted : {A : Type 0} → Decision A → Bool
is_accepted undecided = false
is_accepted (refused d) = false
is_accepted (accepted a) = true

abbrev accepted_or : {A : Type 0} → A → Decision A → A
accepted_or a undecided = a
accepted_or a (refused d) = a
accepted_or a (accepted b) = b

accepted_is : {A : Type 0} (a b : A) → accepted a ≡ accepted b → a ≡ b
accepted_is a b e = ap (accepted_or a) e

went_on : {A B : Type 0} (j : Decision A) (f : A → Decision B) (b : B) → and_then j f ≡ accepted b → (a : A) × (j ≡ accepted a) × (f a ≡ accepted b)
went_on undecided f b e = absurd (true≢false (sym (ap is_accepted e)))
went_on (refused d) f b e = absurd (true≢false (sym (ap is_accepted e)))
went_on (accepted a) f b e = (a, refl, e)

read_json : (bytes : List ℕ) (o : Option Data) → read bytes ≡ o → (value : Option Data) → some_json o ≡ accepted value → IsJsonBody value
read_json bytes None is value e = absurd (true≢false (sym (ap is_accepted e)))
read_json bytes (Some d) is value e = subst IsJsonBody (accepted_is (Some d) value e) (encodable-read bytes d is)

text_json : (bytes : List ℕ) (value : Option Data) → some_json (json_in bytes) ≡ accepted value → IsJsonBody value
text_json bytes value e = go (is_utf8 bytes) e
  where
    go : (b : Bool) → some_json (cond b (read bytes) None) ≡ accepted value → IsJsonBody value
    go true f = read_json bytes (read bytes) refl value f
    go false f = absurd (true≢false (sym (ap is_accepted f)))

sized_json : (n : ℕ) (rest : List ℕ) (value : Option Data) → body_of n rest ≡ accepted value → IsJsonBody value
sized_json n rest value e = go (nat_lt (length rest) n) e
  where
    go : (b : Bool) → cond b undecided (some_json (json_in (take n rest))) ≡ accepted value → IsJsonBody value
    go true f = absurd (true≢false (sym (ap is_accepted f)))
    go false f = text_json (take n rest) value f

declared_json : (n : Option ℕ) (rest : List ℕ) (value : Option Data) → declared_body n rest ≡ accepted value → IsJsonBody value
declared_json None rest value e = subst IsJsonBody (accepted_is None value e) tt
declared_json (Some n) rest value e = sized_json n rest value e

call_json : (types : List ServedShape) (request : Request) (rest : List ℕ) (call : Call) → call_in types request rest ≡ accepted call → IsJsonBody call.body
call_json types request rest call e =
    let target = went_on (decided_by (admitted types (method_named request.method) (path_of request.request_target) (checked_media request))) _ call e in
    let body = went_on (body_in request rest) _ call target.2 in
    let made : Call = record { target = target.0; query = query_of request.request_target; body = body.0; agent = request.agent; ticked = 0 } in
    let declared = went_on (decided_by (declared_length request)) _ body.0 body.1 in
    subst (λ (c : Call). IsJsonBody c.body) (accepted_is made call body.2) (declared_json declared.0 rest body.0 declared.2)

head_json : (types : List ServedShape) (head : HeadDecision) (call : Call) → asked_by types head ≡ accepted call → IsJsonBody call.body
head_json types head call e =
    let r = went_on head _ call e in
    call_json types r.0.0 r.0.1 call r.2

asked_json : (s : State) (bytes : Option (List ℕ)) (decision : CallDecision) → AsksIf s bytes decision → (call : Call) → decision ≡ accepted call → IsJsonBody call.body
asked_json s None decision is call e = absurd (true≢false (sym (ap is_accepted (sym is ∙ e))))
asked_json s (Some bytes) decision is call e = head_json s.types is.0 call (sym is.2 ∙ e)

-- ---- one event

abbrev Lasts : State → Type 0
Lasts s = IsMachine s.types s.machine

made_lasts : (types : List ServedShape) (m : History) (last_tick : ℕ) (decision : CallDecision) → ((call : Call) → decision ≡ accepted call → IsJsonBody call.body) → IsMachine types m
    → IsMachine types (machine_after types m last_tick decision)
made_lasts types m last_tick undecided json is = is
made_lasts types m last_tick (refused d) json is = is
made_lasts types m last_tick (accepted call) json is = steps_keep_machines types m (at_tick last_tick call) is (json call refl)

received_lasts : (s : State) (id : ℕ) (c : Connection) (st : Phase) (bytes : List ℕ) (decision : CallDecision) → ((call : Call) → decision ≡ accepted call → IsJsonBody call.body) → Lasts s
    → Lasts (received_by s id c st bytes decision)
received_lasts s id c (waiting prefix) bytes decision json is = made_lasts s.types s.machine s.last_tick decision json is
received_lasts s id c (watching w) bytes decision json is = is
received_lasts s id c ended bytes decision json is = is
received_lasts s id c (gone had_ended) bytes decision json is = is

by_lasts : (s : State) (o : Option Connection) (f : Connection → State) → ((c : Connection) → Lasts (f c)) → Lasts s → Lasts (by_connection s o f)
by_lasts s None f stays is = is
by_lasts s (Some c) f stays is = stays c

both : (a b : Bool) → (a && b) ≡ true → (a ≡ true) × (b ≡ true)
both true true e = (refl, refl)
both true false e = absurd (true≢false (sym e))
both false b e = absurd (true≢false (sym e))

abbrev is_none : Option Refusal → Bool
is_none None = true
is_none (Some why) = false

in_range : (b : Bool) → cond {A = Option Refusal} b None (Some compaction_refused) ≡ None → b ≡ true
in_range true e = refl
in_range false e = absurd (true≢false (sym (ap is_none e)))

retyped_lasts : (s : State) (file : Data) (r : Result (List ServedShape) RetypeRefusal) → retyping s.types s.machine file ≡ r → Lasts s → Lasts (with_types s r)
retyped_lasts s file (Ok others) got is = retypings_keep_machines s.types others s.machine file is got
retyped_lasts s file (Err why) got is = is

carried_lasts : (s : State) (e : Event) (decision : CallDecision) → ((call : Call) → decision ≡ accepted call → IsJsonBody call.body) → refusal s e ≡ None → Lasts s → Lasts (applied_event s e decision)
carried_lasts s (opens id) decision json free is = is
carried_lasts s (comes id bytes) decision json free is = by_lasts s (fin.get s.connections id) _ (λ c. received_lasts s id c c.phase bytes decision json is) is
carried_lasts s (goes id) decision json free is = by_lasts s (fin.get s.connections id) _ (λ c. is) is
carried_lasts s (pumps id max) decision json free is = by_lasts s (fin.get s.connections id) _ (λ c. is) is
carried_lasts s (ticks ms) decision json free is = is
carried_lasts s (compacts c) decision json free is =
    let range = both (nat_le s.machine.compacted c) (nat_le c s.machine.current) (in_range _ free) in
    compactions_keep_machines s.types s.machine c is (leb-true _ _ range.0) (leb-true _ _ range.1)
carried_lasts s (retypes file) decision json free is = retyped_lasts s file (retyping s.types s.machine file) refl is

unless_lasts : (s t : State) (o : Option Refusal) → (o ≡ None → Lasts t) → Lasts s → Lasts (unless_refused o s t)
unless_lasts s t None stays is = stays refl
unless_lasts s t (Some why) stays is = is

out_of_memory_lasts : (s : State) (e : Event) (which : ℕ → Bool) → Lasts s → Lasts (out_of_memory s e which)
out_of_memory_lasts s (opens id) which is = is
out_of_memory_lasts s (comes id bytes) which is = by_lasts s (fin.get s.connections id) _ (λ c. is) is
out_of_memory_lasts s (goes id) which is = is
out_of_memory_lasts s (pumps id max) which is = by_lasts s (fin.get s.connections id) _ (λ c. is) is
out_of_memory_lasts s (ticks ms) which is = is
out_of_memory_lasts s (compacts c) which is = is
out_of_memory_lasts s (retypes file) which is = is

-- ---- all that happens

follows_lasts : (s t : State) (h : Action) → Follows s h t → Lasts s → Lasts t
follows_lasts s t (happens e) (decision, asks, to) is =
    subst Lasts (sym to) (unless_lasts s (applied_event s e decision) (refusal s e) (λ free. carried_lasts s e decision (asked_json s (bytes_at s e) decision asks) free is) is)
follows_lasts s t (runs_out_of_memory e which) (free, wants, to) is = subst Lasts (sym to) (out_of_memory_lasts s e which is)
follows_lasts s t (takes id n) to is = subst Lasts (sym to) (by_lasts s (fin.get s.connections id) _ (λ c. is) is)

pub runs_last : (s t : State) (hs : List Action) → IsMachine s.types s.machine → Runs s hs t → IsMachine t.types t.machine
runs_last s t [] is to = subst Lasts (sym to) is
runs_last s t (h ∷ hs) is (mid, first, rest) = runs_last mid t hs (follows_lasts s mid h first is) rest
