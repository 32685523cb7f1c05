-- A machine from its beginning on.
use Rattle.std.proofs.Common.{◌≡◌, ℕ, List, [], ◌∷◌, Option, None, Some, Ok, Err, refl, sym, ap, ap₂, cond}
use Rattle.std.specs.Prelude.{◌==◌, nat_lt, slice_get}
use Rattle.std.specs.declared.result.Result.{Result}
use Rattle.std.specs.FinMap as fin
use Rattle.std.specs.List.{AllByRecursion}
use Rattle.api_types.specs.TypesFile.{ServedShape}
use Rattle.history.specs.History.{History, Objects, current_objects, state_at}
use Rattle.history.specs.Seen.{selected}
use Rattle.history.specs.View.{state_in, view}
use Rattle.history.proofs.Views.{view_states}
use Rattle.lists.specs.Body.{Collection}
use Rattle.lists.specs.Labels.{selection_of}
use Rattle.lists.specs.declared.refusal.Refusal.{Refusal}
use Rattle.lists.specs.declared.refusal.Refusal.TheVariants.{Expired}
use Rattle.lists.proofs.Bounds.{list_same}
use Rattle.params.specs.Values.{Values, Watch}
use Rattle.params.specs.declared.params.Asked.TheVariants as asked
use Rattle.answers.specs.declared.watch_from.InitialEvents.{InitialEvents}
use Rattle.answers.specs.declared.watch_from.InitialEvents.TheVariants.{Changes}
use Rattle.answers.specs.WatchFrom.{WatchFrom}
use Rattle.watchline.specs.Opening.{from_parts, initial_in, initial_of, started, opened_by, starts}
use Rattle.watchline.specs.Watches.{from_history, from_view}
use Rattle.history.proofs.Wholes.{whole_compacts, whole_fresh}
use Rattle.api_request.specs.Calls.{Call, Plan, Scope, of_all, of_namespace, of_object, Target, of_objects, of_document, type_at}
use Rattle.api_request.specs.Json.{IsJsonBody}
use Rattle.api_validation.specs.Parameters.{parameters_for}
use Rattle.api_request.specs.Validated.{Validated, and_then, detailed}
use Rattle.api_request.specs.declared.verb.Verb.{Verb}
use Rattle.api_request.specs.declared.verb.Verb.TheVariants.{Get, Create, Update, Apply, Delete}
use Rattle.verbs.specs.Machine.{IsMachine}
use Rattle.verbs.specs.DryRuns.{is_dry_run, run_by}
use Rattle.verbs.specs.PromiseLaws.{CallsKeepMachines, CompactionsKeepMachines, MachinesBegin, PlansByViews}
use Rattle.verbs.specs.Step.{body_of, collection_of, created_as, creation_validated, key_at, list_answered, dispatch_object, page_shown, plan_for, shown_by, step, steps, dispatch_target, dispatch_type, dispatch_scope, dispatch_call, watch_shown}
use Rattle.verbs.proofs.Changes.{is_history, no_texts}
use Rattle.verbs.proofs.Promise.{steps_keep_machines}

pub machines_begin : MachinesBegin
machines_begin types n shapes from to = record { first = n; whole = whole_fresh n from to; shapes = shapes; texts = tt; stand = no_texts types }

calls_keep : (types : List ServedShape) (calls : List Call) (m : History) → IsMachine types m → AllByRecursion (λ call. IsJsonBody call.body) calls → IsMachine types (steps types m calls).1
calls_keep types [] m is json = is
calls_keep types (call ∷ calls) m is json = calls_keep types calls (step types m call).1 (steps_keep_machines types m call is json.0) json.1

pub calls_keep_machines : CallsKeepMachines
calls_keep_machines types m calls is json = calls_keep types calls m is json

pub compactions_keep_machines : CompactionsKeepMachines
compactions_keep_machines types m c is low high = record { first = is.first; whole = whole_compacts is.first m c is.whole low high; shapes = is.shapes; texts = is.texts; stand = is.stand }

-- what stands is seen in the view
pub current_objects_seen : (types : List ServedShape) (m : History) → IsMachine types m → state_in (view m) m.current ≡ current_objects m
current_objects_seen types m is = view_states m m.current (is_history types m is) is.whole.low

-- and so are the answers to lists and watches of it
module _ (types : List ServedShape) (m : History) (is : IsMachine types m) where
  module _ (kind : ℕ) (namespace : Option (List ℕ)) (values : Values) (watch : Watch) where
    initial_seen : initial_in (from_view (view m)) kind namespace values.selector ≡ initial_in (from_history m) kind namespace values.selector
    initial_seen = ap (λ (objects : Objects). initial_of (fin.entries (selected (selection_of kind namespace values.selector) objects))) (current_objects_seen types m is)

    abbrev begins : Result (ℕ × InitialEvents) Refusal → Result WatchFrom Refusal
    begins = opened_by (from_parts kind namespace values.selector watch)

    begins_seen : (version : Option ℕ) → begins (starts (from_view (view m)) version (initial_in (from_view (view m)) kind namespace values.selector))
        ≡ begins (starts (from_history m) version (initial_in (from_history m) kind namespace values.selector))
    begins_seen None = ap (λ (initial : InitialEvents). begins (Ok (m.current, initial))) initial_seen
    begins_seen (Some v) = ap (λ (initial : InitialEvents). begins (cond (v == 0) (Ok (m.current, initial)) (cond (nat_lt v m.compacted) (Err (Expired v m.compacted)) (Ok (v, Changes))))) initial_seen

    opened_seen : started (from_view (view m)) kind namespace values watch ≡ started (from_history m) kind namespace values watch
    opened_seen = begins_seen values.version

  shown_seen : (of : Collection) (values : Values) (watch : Option Watch) → shown_by (from_view (view m)) of values watch ≡ shown_by (from_history m) of values watch
  shown_seen of values None =
      ap page_shown (list_same m.current m.compacted is.whole.low of values (state_in (view m)) (state_at m.changes) (λ r low. view_states m r (is_history types m is) low))
  shown_seen of values (Some watch) = ap watch_shown (opened_seen of.kind of.namespace values watch)

  listed_seen : (t : ServedShape) (kind : ℕ) (namespace : Option (List ℕ)) (j : Validated Values)
      → and_then j (λ values. list_answered (shown_by (from_view (view m)) (collection_of t kind namespace) values values.watch))
      ≡ and_then j (λ values. list_answered (shown_by (from_history m) (collection_of t kind namespace) values values.watch))
  listed_seen t kind namespace (Ok values) = ap list_answered (shown_seen (collection_of t kind namespace) values values.watch)
  listed_seen t kind namespace (Err d) = refl

  by_seen : (scope : Scope) (w : Verb) (t : ServedShape) (kind : ℕ) (call : Call) → dispatch_scope scope w t kind (from_view (view m)) call ≡ dispatch_scope scope w t kind (from_history m) call
  by_seen of_all Get t kind call = listed_seen t kind None (parameters_for t asked.List call.query)
  by_seen of_all Create t kind call = refl
  by_seen of_all Update t kind call = refl
  by_seen of_all Apply t kind call = refl
  by_seen of_all Delete t kind call = refl
  by_seen (of_namespace namespace) Get t kind call = listed_seen t kind (Some namespace) (parameters_for t asked.List call.query)
  by_seen (of_namespace namespace) Create t kind call =
      ap (λ (os : Objects). and_then (body_of call.body) (λ body. and_then (creation_validated t kind namespace call.query body) (λ c. created_as t m.current (fin.get os c.key) c.key c.intent)))
      (current_objects_seen types m is)
  by_seen (of_namespace namespace) Update t kind call = refl
  by_seen (of_namespace namespace) Apply t kind call = refl
  by_seen (of_namespace namespace) Delete t kind call = refl
  by_seen (of_object namespace name subresource) w t kind call =
      ap (λ (os : Objects). detailed t (Some name) (dispatch_object w subresource t m.current (fin.get os (key_at kind namespace name)) (key_at kind namespace name) call.query call.body)) (current_objects_seen types m is)

  type_seen : (found : Option ServedShape) (kind : ℕ) (scope : Scope) (w : Verb) (call : Call) → dispatch_type found kind scope w (from_view (view m)) call ≡ dispatch_type found kind scope w (from_history m) call
  type_seen None kind scope w call = refl
  type_seen (Some t) kind scope w call = by_seen scope w t kind call

  target_seen : (target : Target) (call : Call) → dispatch_target types target (from_view (view m)) call ≡ dispatch_target types target (from_history m) call
  target_seen (of_objects kind scope w) call = type_seen (slice_get types kind) kind scope w call
  target_seen (of_document document) call = refl

  pub over_seen : (call : Call) → dispatch_call types (from_view (view m)) call ≡ dispatch_call types (from_history m) call
  over_seen call = target_seen call.target call

pub plans_by_views : PlansByViews
plans_by_views types m call is =
    sym (ap₂ (λ (os : Objects) (j : Validated Plan). run_by (is_dry_run (type_at types call.target) call) os (plan_for j)) (current_objects_seen types m is) (over_seen types m is call))
