-- What is planned may come after what is seen of the store.
use Rattle.std.proofs.Common.{◌≡◌, ◌∙◌, ℕ, suc, Bool, true, false, cond, List, [], ◌∷◌, Option, Some, None, Ok, Err, refl, ap, subst, is_some}
use Rattle.std.specs.Prelude.{option_and_then, slice_get}
use Rattle.std.specs.Option.{option_or}
use Rattle.std.specs.FinMap as fin
use Rattle.serde_json.specs.Data.{Data}
use Rattle.params.specs.declared.params.Asked.TheVariants as asked
use Rattle.api_types.specs.Profiles.{is_discovered}
use Rattle.api_types.specs.Subresources.{is_apart}
use Rattle.api_types.specs.TypesFile.{ServedShape}
use Rattle.history.specs.History.{Change, Key, Object, Objects}
use Rattle.history.specs.View.{View}
use Rattle.objects.specs.State.{State}
use Rattle.objects.specs.declared.manager.Subresource.{Subresource}
use Rattle.objects.specs.declared.manager.Subresource.TheVariants.{Main, Status}
use Rattle.objects.specs.Owners.{apply_operation}
use Rattle.ownership.specs.Sides.{own_part}
use Rattle.ownership.specs.Sameness.{same_state}
use Rattle.objects.proofs.Taken.{no_some}
use Rattle.api_request.specs.declared.verb.Verb.{Verb}
use Rattle.api_request.specs.declared.verb.Verb.TheVariants.{Get, Create, Update, Apply, Delete}
use Rattle.api_request.specs.Calls.{Answer, Call, Plan, Scope, of_all, of_namespace, of_object, Target, of_objects, of_document, kind_of, namespace_of, object_name, type_at}
use Rattle.api_validation.specs.Envelope.{Expected, api_version_of, name_in}
use Rattle.std.specs.declared.result.Result.{Result}
use Rattle.lists.specs.declared.refusal.Refusal.{Refusal}
use Rattle.api_request.specs.Validated.{Validated, and_then}
use Rattle.verbs.specs.Machine.{ComeAfter, no_state, state_of_existing, decoded_state}
use Rattle.api_validation.specs.Naming.{labels_and_annotations_validated_by, names_validated, required_name}
use Rattle.api_validation.specs.Options.{options_validated}
use Rattle.api_validation.specs.Parameters.{parameters_for}
use Rattle.verbs.specs.PromiseLaws.{AtMostOne, IsCalled, name_called}
use Rattle.verbs.specs.Views.{objects_in}
use Rattle.api_validation.specs.Size.{size_validated}
use Rattle.watchline.specs.Watches.{HistoryWindow, from_view}
use Rattle.verbs.specs.Step.{Creation, Intent, apply_plan, at_path, body_of, created_as, creation_validated, delete_plan, deleted_over, get_plan, intent_of, dispatch_type, dispatch_scope, dispatch_call, plan_without_change, key_at, manager_for, require_absent, dispatch_object, plan_for, planned_over, ownership_validated, object_value_at, revisions_left, plan_put, plan_put_unless_same, require_found, require_object_of_status, update_plan, updated_by, updated_over, version_checked, version_reached, collection_of, list_answered, list_plan, shown_by, dispatch_target}
use Rattle.api_request.proofs.Checks.{changes_in, no_err, ok_is, passed, detailed_ok}
use Rattle.discovery.specs.Paths.{text_in}
use Rattle.verbs.proofs.Documents.{document_none}
use Rattle.verbs.specs.DryRuns.{is_dry_run}
use Rattle.verbs.proofs.Runs.{changes_of_run}

-- one change at most, and its key is one of those that Q says
abbrev pub Fits : ℕ → Objects → (Key → Type 0) → List Change → Type 0
Fits current objects Q = AtMostOne (λ c. (c.revision ≡ suc current) × (c.body ≡ None → fin.contains_key objects c.key ≡ true) × Q c.key)

body_is : (given : Option Data) (body : Data) → body_of given ≡ Ok body → given ≡ Some body
body_is None body e = no_err _ body e
body_is (Some d) body e = ap Some (ok_is d body e)

name_is : (given : Option (List ℕ)) (name : List ℕ) → required_name given ≡ Ok name → given ≡ Some name
name_is None name e = no_err _ name e
name_is (Some n) name e = ap Some (ok_is n name e)

module _ (current : ℕ) (objects : Objects) (Q : Key → Type 0) where
  stored_fits : (t : ServedShape) (k : Key) (status : ℕ) (s : State) (p : Plan) → Q k → plan_put t current k status s ≡ Ok p → Fits current objects Q p.changes
  stored_fits t k status s p own e =
      let sized = passed (size_validated (object_value_at t k (suc current) s)) _ p e in
      let left = passed (revisions_left current) _ p sized.2 in
      subst (Fits current objects Q) (ap changes_in left.2) (refl, (λ gone. no_some _ gone), own)

  over_fits : (t : ServedShape) (k : Key) (found : Option Object) (s : State) (p : Plan) → Q k → plan_put_unless_same t current k found s ≡ Ok p → Fits current objects Q p.changes
  over_fits t k None s p own e = stored_fits t k 201 s p own e
  over_fits t k (Some o) s p own e = go (same_state s (decoded_state t.shape o.body)) e
    where
      go : (b : Bool) → cond b (Ok (plan_without_change o)) (plan_put t current k 200 s) ≡ Ok p → Fits current objects Q p.changes
      go true f = subst (Fits current objects Q) (ap changes_in f) tt
      go false f = stored_fits t k 200 s p own f

  apply_fits : (by : Subresource) (t : ServedShape) (k : Key) (query : List ℕ) (body : Data) (p : Plan) → Q k → apply_plan by t current (fin.get objects k) k query body ≡ Ok p
      → Fits current objects Q p.changes
  apply_fits by t k query body p own e =
      let existing = fin.get objects k in
      let intent = passed (intent_of (at_path t k Apply by) asked.Apply query body) _ p e in
      let named = passed (names_validated intent.0.subresource k.namespace k.name intent.0.rest) _ p intent.2 in
      let found = passed (require_object_of_status intent.0.subresource t k.name existing) _ p named.2 in
      let version = passed (version_checked intent.0.version existing) _ p found.2 in
      let config = own_part (is_apart t) intent.0.subresource intent.0.content in
      let owned = passed (ownership_validated (api_version_of t) (state_of_existing t existing) config (manager_for apply_operation intent.0) intent.0.is_forced) _ p version.2 in
      over_fits t k existing owned.0 p own owned.2

  updated_fits : (t : ServedShape) (k : Key) (found : Option Object) (intent : Intent) (p : Plan) → Q k → updated_over t current k found intent ≡ Ok p → Fits current objects Q p.changes
  updated_fits t k None intent p own e = no_err _ p e
  updated_fits t k (Some o) intent p own e =
      let version = passed (version_checked intent.version (Some o)) _ p e in
      over_fits t k (Some o) (updated_by t intent (decoded_state t.shape o.body)) p own version.2

  update_fits : (by : Subresource) (t : ServedShape) (k : Key) (query : List ℕ) (body : Data) (p : Plan) → Q k → update_plan by t current (fin.get objects k) k query body ≡ Ok p
      → Fits current objects Q p.changes
  update_fits by t k query body p own e =
      let intent = passed (intent_of (at_path t k Update by) asked.Put query body) _ p e in
      let marks = passed (labels_and_annotations_validated_by intent.0.subresource intent.0.rest) _ p intent.2 in
      updated_fits t k (fin.get objects k) intent.0 p own marks.2

  deleted_fits : (t : ServedShape) (k : Key) (version : Option ℕ) (found : Option Object) (p : Plan) → Q k → fin.get objects k ≡ found → deleted_over t current k found version ≡ Ok p → Fits current objects Q p.changes
  deleted_fits t k version None p own is e = no_err _ p e
  deleted_fits t k version (Some o) p own is e =
      let checked = passed (version_checked version (Some o)) _ p e in
      let left = passed (revisions_left current) _ p checked.2 in
      subst (Fits current objects Q) (ap changes_in left.2) (refl, (λ gone. ap is_some is), own)

  delete_fits : (t : ServedShape) (k : Key) (query : List ℕ) (body : Option Data) (p : Plan) → Q k → delete_plan t current (fin.get objects k) k query body ≡ Ok p → Fits current objects Q p.changes
  delete_fits t k query body p own e =
      let version = passed (options_validated (is_discovered t.profile) body) _ p e in
      let values = passed (parameters_for t asked.Delete query) _ p version.2 in
      deleted_fits t k version.0 (fin.get objects k) p own refl values.2

  get_fits : (t : ServedShape) (k : Key) (query : List ℕ) (p : Plan) → get_plan t current (fin.get objects k) k query ≡ Ok p → Fits current objects Q p.changes
  get_fits t k query p e =
      let values = passed (parameters_for t asked.Get query) _ p e in
      let o = passed (require_found t k.name (fin.get objects k)) _ p values.2 in
      let come = passed (version_reached values.0.version current) _ p o.2 in
      subst (Fits current objects Q) (ap changes_in come.2) tt

  create_fits : (t : ServedShape) (kind : ℕ) (namespace query : List ℕ) (body : Data) (p : Plan) → ((name : List ℕ) → name_in body ≡ Some name → Q (record { kind = kind; namespace = namespace; name = name }))
      → and_then (creation_validated t kind namespace query body) (λ c. created_as t current (fin.get objects c.key) c.key c.intent) ≡ Ok p → Fits current objects Q p.changes
  create_fits t kind namespace query body p own e =
      let of : Expected = record { served = t; namespace = namespace; name = None; verb = Create; subresource = Main } in
      let creation = passed (creation_validated t kind namespace query body) _ p e in
      let intent = passed (intent_of of asked.Post query body) _ creation.0 creation.1 in
      let name = passed (required_name (name_in body)) _ creation.0 intent.2 in
      let k = creation.0.key in
      let made : Creation = record { key = record { kind = kind; namespace = namespace; name = name.0 }; intent = intent.0 } in
      let same : made ≡ creation.0 = ok_is made creation.0 name.2 in
      let named = passed (names_validated creation.0.intent.subresource k.namespace k.name creation.0.intent.rest) _ p creation.2 in
      let free = passed (require_absent t k.name (fin.get objects k)) _ p named.2 in
      stored_fits t k 201 (updated_by t creation.0.intent no_state) p (subst (λ (c : Creation). Q c.key) same (own name.0 (name_is (name_in body) name.0 name.1))) free.2

module _ (s : HistoryWindow) (call : Call) where
  abbrev current : ℕ
  current = s.current

  abbrev objects : Objects
  objects = s.at s.current

  abbrev AllFit : Validated Plan → Type 0
  AllFit j = (p : Plan) → j ≡ Ok p → Fits current objects (IsCalled call) p.changes

  with_body : (validated : Data → Validated Plan) → ((body : Data) → call.body ≡ Some body → AllFit (validated body)) → AllFit (and_then (body_of call.body) validated)
  with_body validated fits p e =
      let body = passed (body_of call.body) validated p e in
      fits body.0 (body_is call.body body.0 body.1) p body.2

  object_fits : (w : Verb) (by : Subresource) (t : ServedShape) (k : Key) → IsCalled call k → AllFit (dispatch_object w by t current (fin.get objects k) k call.query call.body)
  object_fits Get by t k own p e = get_fits current objects (IsCalled call) t k call.query p e
  object_fits Create by t k own p e = no_err _ p e
  object_fits Update by t k own p e = with_body _ (λ body given q f. update_fits current objects (IsCalled call) by t k call.query body q own f) p e
  object_fits Apply by t k own p e = with_body _ (λ body given q f. apply_fits current objects (IsCalled call) by t k call.query body q own f) p e
  object_fits Delete Main t k own p e = delete_fits current objects (IsCalled call) t k call.query call.body p own e
  object_fits Delete Status t k own p e = no_err _ p e

  -- a list changes nothing
  list_fits : (t : ServedShape) (kind : ℕ) (namespace : Option (List ℕ)) → AllFit (list_plan t s kind namespace call.query)
  list_fits t kind namespace p e =
      let values = passed (parameters_for t asked.List call.query) _ p e in
      answered (shown_by s (collection_of t kind namespace) values.0 values.0.watch) values.2
    where
      answered : (r : Result Answer Refusal) → list_answered r ≡ Ok p → Fits current objects (IsCalled call) p.changes
      answered (Ok answer) f = subst (Fits current objects (IsCalled call)) (ap changes_in f) tt
      answered (Err refusal) f = no_err _ p f

  all_fits : (w : Verb) (t : ServedShape) (kind : ℕ) → AllFit (dispatch_scope of_all w t kind s call)
  all_fits Get t kind p e = list_fits t kind None p e
  all_fits Create t kind p e = no_err _ p e
  all_fits Update t kind p e = no_err _ p e
  all_fits Apply t kind p e = no_err _ p e
  all_fits Delete t kind p e = no_err _ p e

  collection_fits : (w : Verb) (t : ServedShape) (kind : ℕ) (namespace : List ℕ) → ((name : List ℕ) → option_and_then name_in call.body ≡ Some name → IsCalled call (key_at kind namespace name))
      → AllFit (dispatch_scope (of_namespace namespace) w t kind s call)
  collection_fits Create t kind namespace own p e = with_body _ (λ body given q f. create_fits current objects (IsCalled call) t kind namespace call.query body q (λ name is. own name (ap (option_and_then name_in) given ∙ is)) f) p e
  collection_fits Get t kind namespace own p e = list_fits t kind (Some namespace) p e
  collection_fits Update t kind namespace own p e = no_err _ p e
  collection_fits Apply t kind namespace own p e = no_err _ p e
  collection_fits Delete t kind namespace own p e = no_err _ p e

  path_name : (name : List ℕ) → object_name call.target ≡ Some name → name_called call ≡ Some name
  path_name name is = ap (λ o. option_or o (option_and_then name_in call.body)) is

  body_name : (name : List ℕ) → object_name call.target ≡ None → option_and_then name_in call.body ≡ Some name → name_called call ≡ Some name
  body_name name is given = ap (λ o. option_or o (option_and_then name_in call.body)) is ∙ given

  scope_fits : (kind : ℕ) (scope : Scope) (w : Verb) → call.target ≡ of_objects kind scope w → (t : ServedShape) → AllFit (dispatch_scope scope w t kind s call)
  scope_fits kind of_all w is t p e = all_fits w t kind p e
  scope_fits kind (of_namespace namespace) w is t p e =
      collection_fits w t kind namespace (λ name given. record { kind = ap kind_of is; namespace = ap namespace_of is; name = body_name name (ap object_name is) given }) p e
  scope_fits kind (of_object namespace name subresource) w is t p e =
      object_fits w subresource t (key_at kind namespace name) (record { kind = ap kind_of is; namespace = ap namespace_of is; name = path_name name (ap object_name is) }) p (detailed_ok t (Some name) _ p e)

  type_fits : (kind : ℕ) (scope : Scope) (w : Verb) → call.target ≡ of_objects kind scope w → (found : Option ServedShape) → AllFit (dispatch_type found kind scope w s call)
  type_fits kind scope w is None p e = no_err _ p e
  type_fits kind scope w is (Some t) p e = scope_fits kind scope w is t p e

  target_fits : (types : List ServedShape) (target : Target) → call.target ≡ target → AllFit (dispatch_target types target s call)
  target_fits types (of_objects kind scope w) is p e = type_fits kind scope w is (slice_get types kind) p e
  target_fits types (of_document document) is p e = subst (Fits current objects (IsCalled call)) (document_none (text_in types document) p e) tt

  reported_fits : (types : List ServedShape) (j : Validated Plan) → dispatch_call types s call ≡ j → Fits current objects (IsCalled call) (plan_for j).changes
  reported_fits types (Err d) e = tt
  reported_fits types (Ok p) e = target_fits types call.target refl p e

  pub planned_fits : (types : List ServedShape) → Fits current objects (IsCalled call) (planned_over types s call).changes
  planned_fits types =
      changes_of_run (Fits current objects (IsCalled call)) (is_dry_run (type_at types call.target) call) objects (plan_for (dispatch_call types s call)) tt
      (reported_fits types (dispatch_call types s call) refl)

fit_comes : (v : View) (Q : Key → Type 0) (cs : List Change) → Fits v.current (objects_in v) Q cs → ComeAfter v cs
fit_comes v Q [] is = record { next = tt; there = tt }
fit_comes v Q (c ∷ []) is = record { next = (is.0, tt); there = (is.1, tt) }
fit_comes v Q (c ∷ d ∷ cs) is = absurd is

pub planned_comes : (types : List ServedShape) (v : View) (call : Call) → ComeAfter v (planned_over types (from_view v) call).changes
planned_comes types v call = fit_comes v (IsCalled call) _ (planned_fits (from_view v) call types)
