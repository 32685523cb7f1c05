-- What a call leaves to the managers of other fields (Kubernetes docs, "Server-Side Apply", "Conflicts", "Transferring ownership"; "Custom
-- Resources", "Status subresource"), and what it leaves of the machine.
use Rattle.std.specs.Prelude.{◌≡◌, ◌⊎◌, ◌≤◌, ℕ, false, List, [], ◌∷◌, length, Option, Some, IfSome, option_and_then, slice_get, true}
use Rattle.std.specs.Option.{option_or}
use Rattle.std.specs.declared.result.Result.TheVariants.{Ok, Err}
use Rattle.std.specs.FinMap as fin
use Rattle.std.specs.List.{AllByRecursion}
use Rattle.params.specs.Values.{Values}
use Rattle.params.specs.declared.params.Asked.TheVariants as asked
use Rattle.serde_json.specs.Data.{Data}
use Rattle.api_types.specs.Discovered.{are_discovered, declared_after}
use Rattle.api_types.specs.Subresources.{is_apart_in}
use Rattle.api_types.specs.TypesFile.{ServedShape}
use Rattle.discovery.specs.declared.document.Document.{Document}
use Rattle.fieldpath.specs.Paths.{PathTexts}
use Rattle.history.specs.History.{Key, Object, History, compacted_to, fresh, last_revision, current_objects, state_at}
use Rattle.history.specs.View.{view}
use Rattle.objects.specs.Owners.{Manager, manager_by, apply_operation, update_operation}
use Rattle.objects.specs.State.{State}
use Rattle.ownership.specs.Carry.{carried_state}
use Rattle.ownership.specs.Keeping.{OthersKeep}
use Rattle.ownership.specs.Sides.{OtherSideStays, OwnSides}
use Rattle.objects.specs.WellTyped.{Owns}
use Rattle.api_request.specs.declared.verb.Verb.TheVariants.{Get, Update, Apply}
use Rattle.api_request.specs.Calls.{Call, of_document, kind_of, namespace_of, object_name, subresource_of, type_at, verb_of}
use Rattle.api_validation.specs.Envelope.{name_in}
use Rattle.api_request.specs.Json.{IsJsonBody}
use Rattle.verbs.specs.Machine.{AreNext, AreObjectTypes, IsMachine, IsSomeTextAt, IsTextAt, decoded_state, state_under}
use Rattle.verbs.specs.Retyping.{is_changed, retyped, retyping}
use Rattle.api_validation.specs.Size.{max_bytes}
use Rattle.lists.specs.declared.refusal.Refusal.TheVariants.{Expired}
use Rattle.watchline.specs.Lines.{expired_message, expired_value}
use Rattle.watchline.specs.Watches.{from_history}
use Rattle.verbs.specs.Step.{document_plan, list_refusal, plan_for, planned, planned_in, route_not_found, step, steps, dispatch_call, parameters_at}
use Rattle.verbs.specs.DryRuns.{is_dry_run}
use Rattle.api_request.specs.Status.{CallRefusal, call_refusal_value}

-- what a call plans may come next, change by change, so the machine is one after each call whose body is a value that a JSON text spells
abbrev pub PlansComeNext : Type 0
PlansComeNext = (types : List ServedShape) (m : History) (call : Call) → IsMachine types m → IsJsonBody call.body → AreNext types m (planned types m call).changes

abbrev pub StepsKeepMachines : Type 0
StepsKeepMachines = (types : List ServedShape) (m : History) (call : Call) → IsMachine types m → IsJsonBody call.body → IsMachine types (step types m call).1

-- a machine begins without a change at any revision, and stays one over calls, one after the other, and over a compaction
abbrev pub MachinesBegin : Type 0
MachinesBegin = (types : List ServedShape) (n : ℕ) → AreObjectTypes types → 1 ≤ n → n ≤ last_revision → IsMachine types (fresh n)

abbrev pub CallsKeepMachines : Type 0
CallsKeepMachines = (types : List ServedShape) (m : History) (calls : List Call) → IsMachine types m → AllByRecursion (λ call. IsJsonBody call.body) calls → IsMachine types (steps types m calls).1

abbrev pub CompactionsKeepMachines : Type 0
CompactionsKeepMachines = (types : List ServedShape) (m : History) (c : ℕ) → IsMachine types m → m.compacted ≤ c → c ≤ m.current → IsMachine types (compacted_to c m)

-- what is planned depends on the view of the history alone
abbrev pub PlansByViews : Type 0
PlansByViews = (types : List ServedShape) (m : History) (call : Call) → IsMachine types m → planned types m call ≡ planned_in types (view m) call

-- a text that a call writes is no longer than an object may be
abbrev pub PlansAreShort : Type 0
PlansAreShort =
    (types : List ServedShape) (m : History) (call : Call) → IsMachine types m → IsJsonBody call.body
    → AllByRecursion (λ c. IfSome c.body (λ text. length text ≤ max_bytes)) (planned types m call).changes

-- the text is an object's, and the state is the one that is read of it under the schema of its time
abbrev pub DecodesTo : List ServedShape → Key → ℕ → List ℕ → Type 0
DecodesTo types k revision text = (t : IsSomeTextAt types k revision text) × (t.is_text.state ≡ decoded_state t.shape text)

-- so it is of what stands under a key, at any revision
abbrev pub TextsSayStates : Type 0
TextsSayStates =
    (types : List ServedShape) (m : History) (r : ℕ) (k : Key) (o : Object) → IsMachine types m → fin.get (state_at m.changes r) k ≡ Some o
    → DecodesTo types k o.revision o.body

-- and of the body of each change; a deletion has none
abbrev pub BodiesSayStates : Type 0
BodiesSayStates = (types : List ServedShape) (m : History) → IsMachine types m → AllByRecursion (λ c. IfSome c.body (DecodesTo types c.key c.revision)) m.changes

-- what stands now is the text of the state that a call starts from
abbrev pub StoredTextsDecode : Type 0
StoredTextsDecode =
    (types : List ServedShape) (m : History) (k : Key) (o : Object) → IsMachine types m → fin.get (current_objects m) k ≡ Some o
    → (t : IsTextAt types k o.revision o.body) × (t.is_text.state ≡ state_under types (current_objects m) k)

-- An apply without force changes no field that another manager owns: after the call, whatever it answers, each path of each
-- object that another manager owned has the value and the owner that it had.
abbrev pub AppliesKeepOthers : Type 0
AppliesKeepOthers =
    (types : List ServedShape) (m : History) (call : Call) (values : Values) → IsMachine types m → IsJsonBody call.body
    → verb_of call.target ≡ Apply → parameters_at (type_at types call.target) asked.Apply call.query ≡ Ok values → values.is_forced ≡ false
    → (k : Key) → OthersKeep (state_under types (current_objects m) k) (state_under types (current_objects (step types m call).1) k) (manager_by values.manager apply_operation (subresource_of call.target))

-- each path that another manager owned, and that has the value that it had, is still owned by that manager
abbrev pub OthersKeepUnchanged : State → State → Manager → Type 0
OthersKeepUnchanged old new m = (k : Manager) (p : PathTexts) → ¬ (k ≡ m) → Owns old k p → fin.get new.content p ≡ fin.get old.content p → Owns new k p

-- an update takes from other managers only what it changes
abbrev pub UpdatesTakeChanges : Type 0
UpdatesTakeChanges =
    (types : List ServedShape) (m : History) (call : Call) (values : Values) → IsMachine types m → IsJsonBody call.body
    → verb_of call.target ≡ Update → parameters_at (type_at types call.target) asked.Put call.query ≡ Ok values
    → (k : Key) → OthersKeepUnchanged (state_under types (current_objects m) k) (state_under types (current_objects (step types m call).1) k) (manager_by values.manager update_operation (subresource_of call.target))

-- An apply and an update change only what their subresource writes of objects of their type: after the call, whatever it answers, each other
-- path of each object has the value and the owners that it had.
abbrev pub WritesLeaveOtherSide : Type 0
WritesLeaveOtherSide =
    (types : List ServedShape) (m : History) (call : Call) → IsMachine types m → IsJsonBody call.body
    → (verb_of call.target ≡ Apply) ⊎ (verb_of call.target ≡ Update)
    → (k : Key) → OtherSideStays (is_apart_in (type_at types call.target)) (subresource_of call.target) (state_under types (current_objects m) k) (state_under types (current_objects (step types m call).1) k)

-- of each object that stands, each manager owns only what its subresource writes
abbrev pub ManagersOwnTheirSides : Type 0
ManagersOwnTheirSides = (types : List ServedShape) (m : History) (k : Key) → IsMachine types m → OwnSides (is_apart_in (slice_get types k.kind)) (state_under types (current_objects m) k)

-- ---- what ends a watch

-- the error that ends a watch has the Status with which a list of the same revision is refused
abbrev pub ErrorsAreRefusals : Type 0
ErrorsAreRefusals = (revision compacted : ℕ) → expired_value (expired_message revision compacted) ≡ call_refusal_value (list_refusal (Expired revision compacted))

-- ---- what a call changes

-- a refused call changes nothing
abbrev pub RefusalsChangeNothing : Type 0
RefusalsChangeNothing =
    (types : List ServedShape) (m : History) (call : Call) (d : CallRefusal) → dispatch_call types (from_history m) call ≡ Err d → (step types m call).1 ≡ m

-- a dry run changes nothing, ..
abbrev pub DryRunsChangeNothing : Type 0
DryRunsChangeNothing = (types : List ServedShape) (m : History) (call : Call) → is_dry_run (type_at types call.target) call ≡ true → (step types m call).1 ≡ m

-- .. and any other call comes to what its checks plan
abbrev pub OthersAreRun : Type 0
OthersAreRun =
    (types : List ServedShape) (m : History) (call : Call) → is_dry_run (type_at types call.target) call ≡ false → planned types m call ≡ plan_for (dispatch_call types (from_history m) call)

-- a GET changes nothing, of objects or of a document
abbrev pub GetsChangeNothing : Type 0
GetsChangeNothing = (types : List ServedShape) (m : History) (call : Call) → verb_of call.target ≡ Get → (step types m call).1 ≡ m

-- the name of the object that a call is of: that of its path, or else the one that its body gives
abbrev pub name_called : Call → Option (List ℕ)
name_called call = option_or (object_name call.target) (option_and_then name_in call.body)

-- the key has the type, the namespace and the name that the call is of
pub record IsCalled (call : Call) (k : Key) : Type 0 where
  pub kind : kind_of call.target ≡ Some k.kind
  pub namespace : namespace_of call.target ≡ Some k.namespace
  pub name : name_called call ≡ Some k.name

-- there is at most one, and P says what it is
abbrev pub AtMostOne : {X : Type 0} → (X → Type 0) → List X → Type 0
AtMostOne P [] = Unit {0}
AtMostOne P (x ∷ []) = P x
AtMostOne P (x ∷ y ∷ xs) = ⊥

-- a call makes at most one change, of the object that the call is of, and what stands under every other key stays
abbrev pub CallsChangeOneObject : Type 0
CallsChangeOneObject =
    (types : List ServedShape) (m : History) (call : Call) → IsMachine types m → IsJsonBody call.body
    → AtMostOne (λ c. IsCalled call c.key × ((k : Key) → ¬ (k ≡ c.key) → fin.get (current_objects (step types m call).1) k ≡ fin.get (current_objects m) k)) (planned types m call).changes

-- ---- what other types leave

-- where other types take the place of these, the machine is one of the others
abbrev pub RetypingsKeepMachines : Type 0
RetypingsKeepMachines =
    (types next_types : List ServedShape) (m : History) (file : Data) → IsMachine types m → retyping types m file ≡ Ok next_types → IsMachine next_types (retyped types next_types m)

-- each object that stands is carried: its content, and who owns what, also where its text stays
abbrev pub RetypingsCarryObjects : Type 0
RetypingsCarryObjects =
    (types next_types : List ServedShape) (m : History) (file : Data) → IsMachine types m → retyping types m file ≡ Ok next_types
    → (k : Key) (o : Object) (t u : ServedShape) → fin.get (current_objects m) k ≡ Some o → slice_get types k.kind ≡ Some t → slice_get next_types k.kind ≡ Some u
    → state_under next_types (current_objects (retyped types next_types m)) k ≡ carried_state t.shape u.shape (state_under types (current_objects m) k)

-- what stands under a key stays where its text does; no object comes or goes
abbrev pub RetypingsLeaveTexts : Type 0
RetypingsLeaveTexts =
    (types next_types : List ServedShape) (m : History) (file : Data) → IsMachine types m → retyping types m file ≡ Ok next_types
    → (k : Key) (o : Object) → fin.get (current_objects m) k ≡ Some o → is_changed types next_types (k, o) ≡ false → fin.get (current_objects (retyped types next_types m)) k ≡ Some o

-- types may stay as they are, discovered or not, and then nothing changes
abbrev pub SameTypesChangeNothing : Type 0
SameTypesChangeNothing = (types : List ServedShape) (m : History) (file : Data) → IsMachine types m → declared_after types file ≡ Ok types → (retyping types m file ≡ Ok types) × (retyped types types m ≡ m)

-- ---- documents

-- a document is answered by the types alone, and changes nothing
abbrev pub DocumentsOfTypes : Type 0
DocumentsOfTypes =
    (types : List ServedShape) (m : History) (call : Call) (document : Document) → call.target ≡ of_document document → planned types m call ≡ plan_for (document_plan types document)

-- where documents don't tell of the types, there is none: only calls on objects are served
abbrev pub NoDocuments : Type 0
NoDocuments = (types : List ServedShape) (document : Document) → are_discovered types ≡ false → document_plan types document ≡ route_not_found
