-- What a call plans may come next; an apply without force changes no field that another manager owns, and an update takes from others only what it changes.
use Rattle.std.proofs.Common.{◌≡◌, ℕ, suc, ◌<◌, ◌≤◌, Bool, true, false, cond, List, [], ◌∷◌, Option, Some, None, Ok, Err, refl, sym, ap, subst, ◌∙◌, inl, inr, is_some, not, ◌&&◌, ◌||◌, ap₂, true≢false, ltb-true, ltb-false}
use Rattle.std.specs.Prelude.{codes, length, nat_le, nat_lt, slice_get, IfSome}
use Rattle.std.specs.FinMap as fin
use Rattle.std.specs.List.{AllByRecursion}
use Rattle.std.specs.FinSet as set
use Rattle.serde_json.specs.Data.{Data}
use Rattle.serde_json.specs.Written.{compact_text}
use Rattle.names.specs.Names.{is_dns_label, is_dns_subdomain}
use Rattle.params.specs.Values.{Values}
use Rattle.params.specs.declared.params.Asked.{Asked}
use Rattle.params.specs.declared.params.Asked.TheVariants as asked
use Rattle.api_types.specs.Profiles.{is_discovered}
use Rattle.api_types.specs.Subresources.{is_apart, is_apart_in}
use Rattle.api_types.specs.TypesFile.{ServedShape}
use Rattle.pathmap.specs.Contents.{LeafValue, Content, dom}
use Rattle.pathmap.specs.Beside.{changed, same_value}
use Rattle.pathmap.proofs.Contents.{path_cmp_total}
use Rattle.pathmap.proofs.Sets.{contains-changed, contains-dom}
use Rattle.typed.specs.Fitting.{IsContent}
use Rattle.typed.specs.Reading.{content_of}
use Rattle.history.specs.History.{Key, Change, Object, Objects, History, is_same_key, last_revision, object_by, put_or_remove, current_objects, written}
use Rattle.history.proofs.Keys.{get-put_or_remove, tied}
use Rattle.objects.specs.declared.manager.Subresource.{Subresource}
use Rattle.objects.specs.declared.manager.Subresource.TheVariants.{Main, Status}
use Rattle.objects.specs.Owners.{Manager, is_same, manager_by, apply_operation, owned_by, update_operation}
use Rattle.ownership.specs.Update.{removed, updated}
use Rattle.schema.specs.ObjectShape.{IsObjectShape}
use Rattle.objects.specs.ReadBack.{IsObjectText}
use Rattle.ownership.specs.Sides.{OtherSideStays, OwnSides, beside_others, own_part}
use Rattle.objects.proofs.Within.{both_true, same_manager-is}
use Rattle.ownership.proofs.Sameness.{same_value-itself}
use Rattle.objects.proofs.Taken.{no_some}
use Rattle.objects.proofs.Taking.{owned_other}
use Rattle.objects.specs.State.{State}
use Rattle.objects.specs.SystemMetadata.{plain_stamp, stamped}
use Rattle.ownership.specs.Apply.{conflicts, applied, is_refused}
use Rattle.ownership.specs.Keeping.{OthersKeep}
use Rattle.ownership.specs.Sameness.{same_state}
use Rattle.ownership.proofs.Keeping.{others_keep}
use Rattle.api_request.specs.declared.verb.Verb.{Verb}
use Rattle.api_request.specs.declared.verb.Verb.TheVariants.{Get, Create, Update, Apply, Delete}
use Rattle.api_request.specs.Calls.{Answer, Call, Plan, Scope, of_all, of_namespace, of_object, Target, of_objects, of_document, subresource_of, type_at, verb_of}
use Rattle.api_request.specs.Json.{IsJson, IsJsonBody}
use Rattle.api_validation.specs.Envelope.{Expected, api_version_of, envelope_of, name_in}
use Rattle.std.specs.declared.result.Result.{Result}
use Rattle.lists.specs.declared.refusal.Refusal.{Refusal}
use Rattle.api_request.specs.Validated.{Validated, and_then, require_at}
use Rattle.verbs.specs.Machine.{AreNext, AreTexts, IsMachine, IsNamed, IsNext, IsOfTypes, IsSomeTextAt, IsTextAt, after, identity_of, no_state, state_by, state_of_existing, decoded_state, state_under}
use Rattle.api_validation.specs.Naming.{labels_and_annotations_validated_by, metadata_object, names_validated, path_validated, required_name}
use Rattle.api_validation.specs.Options.{options_validated}
use Rattle.api_validation.specs.Parameters.{parameters_for}
use Rattle.verbs.specs.PromiseLaws.{AppliesKeepOthers, AtMostOne, BodiesSayStates, ManagersOwnTheirSides, OthersKeepUnchanged, PlansAreShort, PlansComeNext, DecodesTo, StoredTextsDecode, StepsKeepMachines, TextsSayStates, UpdatesTakeChanges, WritesLeaveOtherSide}
use Rattle.api_validation.specs.Size.{count_if_there, is_over, max_bytes, max_labels, size_validated}
use Rattle.api_validation.specs.Shapes.{shape_validated}
use Rattle.verbs.specs.DryRuns.{is_dry_run}
use Rattle.verbs.specs.Step.{Intent, applied_over, apply_plan, at_path, body_of, manager_for, conflict_refusal, Creation, created_as, creation_validated, delete_plan, deleted_over, get_plan, intent_of, object_at, dispatch_type, dispatch_scope, dispatch_call, plan_without_change, key_at, require_absent, dispatch_object, ownership_validated, planned, object_value_at, revisions_left, plan_put, plan_put_unless_same, text_at, require_found, require_object_of_status, plan_for, step, update_plan, updated_by, updated_over, version_checked, version_reached, collection_of, list_answered, list_plan, shown_by, parameters_at, dispatch_target}
use Rattle.verbs.proofs.Runs.{changes_of_run}
use Rattle.watchline.specs.Watches.{HistoryWindow, from_history}
use Rattle.verbs.proofs.Changes.{machine_next, current_objects_next, texts_at}
use Rattle.api_request.proofs.Checks.{changes_in, held, held_at, no_err, ok_is, passed, detailed_ok}
use Rattle.discovery.specs.Paths.{text_in}
use Rattle.verbs.proofs.Documents.{document_none}
use Rattle.verbs.proofs.Contents.{intended_content}
use Rattle.verbs.proofs.Sides.{IsStored, existing_stored, nothing_stored, owned_apart, owned_stored, represents_own, updated_by_apart, updated_stored}
use Rattle.verbs.proofs.Said.{Shapes, printed_is_text, said_back, shapes_of}
use Rattle.verbs.proofs.Systems.{nothing_said}

-- ---- what a call plans: no change; a deletion of what is there; or a text of a placed state that is as R says beside the one before

abbrev BodyBy : List ServedShape → Objects → Type 0 → (State → State → Type 0) → Change → Option (List ℕ) → Type 0
BodyBy types objects D R c None = D × (fin.contains_key objects c.key ≡ true)
BodyBy types objects D R c (Some text) =
    (t : ServedShape) × (slice_get types c.key.kind ≡ Some t) × (s : State) × IsStored t s × (text ≡ text_at t c.key c.revision s) × R (state_under types objects c.key) s × (length text ≤ max_bytes) × IsNamed c.key

abbrev WritesBy : List ServedShape → ℕ → Objects → Type 0 → (State → State → Type 0) → List Change → Type 0
WritesBy types current objects D R = AtMostOne (λ c. (c.revision ≡ suc current) × (c.revision ≤ last_revision) × BodyBy types objects D R c c.body)

-- the checks of size and names say so
short_enough : (d : Data) (u : Unit {0}) → size_validated d ≡ Ok u → length (compact_text d) ≤ max_bytes
short_enough d u e =
    let few = passed (require_at (nat_le (count_if_there (metadata_object (codes "labels") d)) max_labels) (codes "metadata.labels") (codes "more than 64")) _ u e in
    by_test (is_over d) refl (held (not (is_over d)) _ _ u few.2)
  where
    by_test : (b : Bool) → is_over d ≡ b → not b ≡ true → length (compact_text d) ≤ max_bytes
    by_test true is h = absurd (true≢false (sym h))
    by_test false is h = ltb-false _ _ is

is_named : (by : Subresource) (k : Key) (body : Data) (u : Unit {0}) → names_validated by k.namespace k.name body ≡ Ok u → IsNamed k
is_named by k body u e =
    let path = passed (path_validated k.namespace k.name) _ u e in
    let first = passed (require_at (is_dns_subdomain k.name) (codes "metadata.name") (codes "bad name")) _ path.0 path.1 in
    record { namespace = held_at (is_dns_label k.namespace) (codes "metadata.namespace") (codes "bad namespace") path.0 first.2; name = held_at (is_dns_subdomain k.name) (codes "metadata.name") (codes "bad name") first.0 first.1 }

next_left : (n : ℕ) → n < last_revision → suc n ≤ last_revision
next_left n lt = lt

-- of a type and key, over what stands there
module _ (types : List ServedShape) (current : ℕ) (objects : Objects) (t : ServedShape) (k : Key) (serves : slice_get types k.kind ≡ Some t) (D : Type 0) (R : State → State → Type 0) where
  under : state_under types objects k ≡ state_of_existing t (fin.get objects k)
  under = ap (λ o. state_by o (fin.get objects k)) serves

  stored_writes : (status : ℕ) (s : State) (p : Plan) → IsStored t s → R (state_of_existing t (fin.get objects k)) s → IsNamed k → plan_put t current k status s ≡ Ok p → WritesBy types current objects D R p.changes
  stored_writes status s p well_typed keeps named e =
      let sized = passed (size_validated (object_value_at t k (suc current) s)) _ p e in
      let left = passed (revisions_left current) _ p sized.2 in
      subst (WritesBy types current objects D R) (ap changes_in left.2)
      (refl, next_left current (ltb-true _ _ (held (nat_lt current last_revision) _ _ left.0 left.1)), (t, serves, s, well_typed, refl, subst (λ x. R x s) (sym under) keeps, short_enough (object_value_at t k (suc current) s) sized.0 sized.1, named))

  over_writes : (found : Option Object) (s : State) (p : Plan) → IsStored t s → R (state_of_existing t (fin.get objects k)) s → IsNamed k → plan_put_unless_same t current k found s ≡ Ok p → WritesBy types current objects D R p.changes
  over_writes None s p well_typed keeps named e = stored_writes 201 s p well_typed keeps named e
  over_writes (Some o) s p well_typed keeps named e = go (same_state s (decoded_state t.shape o.body)) e
    where
      go : (b : Bool) → cond b (Ok (plan_without_change o)) (plan_put t current k 200 s) ≡ Ok p → WritesBy types current objects D R p.changes
      go true f = subst (WritesBy types current objects D R) (ap changes_in f) tt
      go false f = stored_writes 200 s p well_typed keeps named f

-- ---- what the parameters say is what is intended

abbrev manager_in : Validated Intent → List ℕ
manager_in (Ok i) = i.manager
manager_in (Err d) = []

abbrev force_in : Validated Intent → Bool
force_in (Ok i) = i.is_forced
force_in (Err d) = false

abbrev subresource_with : Subresource → Validated Intent → Subresource
subresource_with by (Ok i) = i.subresource
subresource_with by (Err d) = by

intended : (of : Expected) (how : Asked) (query : List ℕ) (body : Data) (i : Intent) (values : Values) → intent_of of how query body ≡ Ok i
    → parameters_for of.served how query ≡ Ok values → (values.manager ≡ i.manager) × (values.is_forced ≡ i.is_forced)
intended of how query body i values e is =
    let envelope = passed (envelope_of of body) _ i e in
    let shape = passed (shape_validated (content_of of.served.shape envelope.0.rest)) _ i envelope.2 in
    let read = passed (parameters_for of.served how query) _ i shape.2 in
    let same = ok_is values read.0 (sym is ∙ read.1) in
    (ap (λ v. v.manager) same ∙ ap manager_in read.2, ap (λ v. v.is_forced) same ∙ ap force_in read.2)

-- it is intended by the subresource that the call is of
intended_by : (of : Expected) (how : Asked) (query : List ℕ) (body : Data) (i : Intent) → intent_of of how query body ≡ Ok i → of.subresource ≡ i.subresource
intended_by of how query body i e =
    let envelope = passed (envelope_of of body) _ i e in
    let shape = passed (shape_validated (content_of of.served.shape envelope.0.rest)) _ i envelope.2 in
    let read = passed (parameters_for of.served how query) _ i shape.2 in
    ap (subresource_with of.subresource) read.2

-- ---- an apply without force

owned_keeps : (api_version : List ℕ) (existing : State) (config : Content) (mgr : Manager) (is_forced : Bool) (s : State)
    → is_forced ≡ false → ownership_validated api_version existing config mgr is_forced ≡ Ok s → OthersKeep existing s mgr
owned_keeps api_version existing config mgr true s gentle e = absurd (true≢false gentle)
owned_keeps api_version existing config mgr false s gentle e = go (is_refused (conflicts existing config mgr) false) refl e
  where
    go : (b : Bool) → is_refused (conflicts existing config mgr) false ≡ b
        → cond b (Err (conflict_refusal api_version (conflicts existing config mgr))) (Ok (applied existing config mgr)) ≡ Ok s → OthersKeep existing s mgr
    go true is f = no_err _ s f
    go false is f = subst (λ x. OthersKeep existing x mgr) (ok_is _ s f) (others_keep existing config mgr is)

abbrev AsApplied : List ℕ → Subresource → State → State → Type 0
AsApplied name by old new = OthersKeep old new (manager_by name apply_operation by)

-- ---- an update

not_lost : (a b : Option LeafValue) → a ≡ b → ((is_some a && not (same_value a b)) || (is_some b && not (is_some a))) ≡ false
not_lost a b e = subst (λ x. ((is_some x && not (same_value x b)) || (is_some b && not (is_some x))) ≡ false) (sym e) (itself b)
  where
    itself : (b : Option LeafValue) → ((is_some b && not (same_value b b)) || (is_some b && not (is_some b))) ≡ false
    itself None = refl
    itself (Some v) = ap (λ t. not t || false) (same_value-itself (Some v))

other_manager : (m k : Manager) → ¬ (k ≡ m) → is_same m k ≡ false
other_manager m k apart = go (is_same m k) refl
  where
    go : (b : Bool) → is_same m k ≡ b → b ≡ false
    go true is = absurd (apart (sym (same_manager-is m k is)))
    go false is = refl

updated_keeps : (existing : State) (new : Content) (m : Manager) → OthersKeepUnchanged existing (updated existing new m) m
unfolding updated removed
updated_keeps existing new m k p apart is same =
    let lost = set.union (changed new existing.content) (removed existing.content new) in
    let mine = set.union (set.difference (owned_by existing.owners m) (removed existing.content new)) (changed new existing.content) in
    let free : set.contains lost p ≡ false =
    set.contains-union path_cmp_total (changed new existing.content) (removed existing.content new) p
    ∙ ap₂ (λ a b. a || b) (contains-changed new existing.content p)
    (set.contains-difference path_cmp_total (dom existing.content) (dom new) p ∙ ap₂ (λ a b. a && not b) (contains-dom existing.content p) (contains-dom new p))
    ∙ not_lost (fin.get new p) (fin.get existing.content p) same in
    ap (λ s. set.contains s p) (owned_other existing.owners m lost mine k (other_manager m k apart))
    ∙ set.contains-difference path_cmp_total (owned_by existing.owners k) lost p
    ∙ both_true _ _ is (ap not free)

abbrev AsUpdated : List ℕ → Subresource → State → State → Type 0
AsUpdated name by old new = OthersKeepUnchanged old new (manager_by name update_operation by)

-- ---- each write

-- the state that an apply stores
abbrev owned_by_intent : ServedShape → State → Intent → Validated State
owned_by_intent t before i = ownership_validated (api_version_of t) before (own_part (is_apart t) i.subresource i.content) (manager_for apply_operation i) i.is_forced

module _ (types : List ServedShape) (current : ℕ) (objects : Objects) (shapes : Shapes types) (texts : AreTexts types objects) where
  module _ (t : ServedShape) (k : Key) (serves : slice_get types k.kind ≡ Some t) (D : Type 0) (R : State → State → Type 0) where
    shaped : IsObjectShape t.shape
    shaped = shapes k.kind t serves

    applied_writes : (intent : Intent) (p : Plan) → IsContent t.shape intent.content → IsNamed k
        → ((before s : State) → OwnSides (is_apart t) before → owned_by_intent t before intent ≡ Ok s → R before s)
        → applied_over t current k (fin.get objects k) intent ≡ Ok p → WritesBy types current objects D R p.changes
    applied_writes intent p content named keeps e =
        let found = passed (require_object_of_status intent.subresource t k.name (fin.get objects k)) _ p e in
        let version = passed (version_checked intent.version (fin.get objects k)) _ p found.2 in
        let before = state_of_existing t (fin.get objects k) in
        let existing = existing_stored types objects shapes texts t k serves (fin.get objects k) refl in
        let owned = passed (owned_by_intent t before intent) _ p version.2 in
        over_writes types current objects t k serves D R (fin.get objects k) owned.0 p
        (owned_stored t (api_version_of t) before intent owned.0 existing content owned.1) (keeps before owned.0 existing.1 owned.1) named owned.2

    apply_writes : (by : Subresource) (query : List ℕ) (body : Data) (p : Plan) → IsJson body
        → ((i : Intent) → intent_of (at_path t k Apply by) asked.Apply query body ≡ Ok i → (before s : State) → OwnSides (is_apart t) before → owned_by_intent t before i ≡ Ok s → R before s)
        → apply_plan by t current (fin.get objects k) k query body ≡ Ok p → WritesBy types current objects D R p.changes
    apply_writes by query body p json keeps e =
        let of = at_path t k Apply by in
        let intent = passed (intent_of of asked.Apply query body) _ p e in
        let named = passed (names_validated intent.0.subresource k.namespace k.name intent.0.rest) _ p intent.2 in
        applied_writes intent.0 p (intended_content of asked.Apply query body intent.0 shaped json intent.1) (is_named intent.0.subresource k intent.0.rest named.0 named.1)
        (keeps intent.0 intent.1) named.2

    updated_writes : (intent : Intent) (p : Plan) → IsContent t.shape intent.content → ((before : State) → OwnSides (is_apart t) before → R before (updated_by t intent before))
        → (found : Option Object) → fin.get objects k ≡ found → updated_over t current k found intent ≡ Ok p → WritesBy types current objects D R p.changes
    updated_writes intent p content keeps None is e = no_err _ p e
    updated_writes intent p content keeps (Some o) is e =
        let version = passed (version_checked intent.version (Some o)) _ p e in
        let before = decoded_state t.shape o.body in
        let existing = existing_stored types objects shapes texts t k serves (Some o) is in
        over_writes types current objects t k serves D R (Some o) (updated_by t intent before) p (updated_stored t before intent content existing)
        (subst (λ found. R (state_of_existing t found) (updated_by t intent before)) (sym is) (keeps before existing.1)) (texts k o is).is_text.named version.2

    update_writes : (by : Subresource) (query : List ℕ) (body : Data) (p : Plan) → IsJson body
        → ((i : Intent) → intent_of (at_path t k Update by) asked.Put query body ≡ Ok i → (before : State) → OwnSides (is_apart t) before → R before (updated_by t i before))
        → update_plan by t current (fin.get objects k) k query body ≡ Ok p → WritesBy types current objects D R p.changes
    update_writes by query body p json keeps e =
        let of = at_path t k Update by in
        let intent = passed (intent_of of asked.Put query body) _ p e in
        let marks = passed (labels_and_annotations_validated_by intent.0.subresource intent.0.rest) _ p intent.2 in
        updated_writes intent.0 p (intended_content of asked.Put query body intent.0 shaped json intent.1) (keeps intent.0 intent.1) (fin.get objects k) refl marks.2

    deleted_writes : D → (version : Option ℕ) (p : Plan) (found : Option Object) → fin.get objects k ≡ found → deleted_over t current k found version ≡ Ok p → WritesBy types current objects D R p.changes
    deleted_writes d version p None is e = no_err _ p e
    deleted_writes d version p (Some o) is e =
        let checked = passed (version_checked version (Some o)) _ p e in
        let left = passed (revisions_left current) _ p checked.2 in
        subst (WritesBy types current objects D R) (ap changes_in left.2)
        (refl, next_left current (ltb-true _ _ (held (nat_lt current last_revision) _ _ left.0 left.1)), (d, ap is_some is))

    delete_writes : D → (query : List ℕ) (body : Option Data) (p : Plan) → delete_plan t current (fin.get objects k) k query body ≡ Ok p → WritesBy types current objects D R p.changes
    delete_writes d query body p e =
        let version = passed (options_validated (is_discovered t.profile) body) _ p e in
        let values = passed (parameters_for t asked.Delete query) _ p version.2 in
        deleted_writes d version.0 p (fin.get objects k) refl values.2

    get_writes : (query : List ℕ) (p : Plan) → get_plan t current (fin.get objects k) k query ≡ Ok p → WritesBy types current objects D R p.changes
    get_writes query p e =
        let values = passed (parameters_for t asked.Get query) _ p e in
        let o = passed (require_found t k.name (fin.get objects k)) _ p values.2 in
        let come = passed (version_reached values.0.version current) _ p o.2 in
        subst (WritesBy types current objects D R) (ap changes_in come.2) tt

  -- a creation: nothing stands under its key
  created_writes : (t : ServedShape) (k : Key) → slice_get types k.kind ≡ Some t → (intent : Intent) (p : Plan) → IsContent t.shape intent.content → IsNamed k
      → (found : Option Object) → fin.get objects k ≡ found → and_then (require_absent t k.name found) (λ u. plan_put t current k 201 (updated_by t intent no_state)) ≡ Ok p → WritesBy types current objects (Unit {0}) (λ old new. Unit {0}) p.changes
  created_writes t k serves intent p content named (Some o) is e = no_err _ p e
  created_writes t k serves intent p content named None is e =
      stored_writes types current objects t k serves (Unit {0}) (λ old new. Unit {0}) 201 (updated_by t intent no_state) p (updated_stored t no_state intent content (nothing_stored t)) tt named e

  create_writes : (t : ServedShape) (kind : ℕ) → slice_get types kind ≡ Some t → (namespace query : List ℕ) (body : Data) (p : Plan) → IsJson body
      → and_then (creation_validated t kind namespace query body) (λ c. created_as t current (fin.get objects c.key) c.key c.intent) ≡ Ok p → WritesBy types current objects (Unit {0}) (λ old new. Unit {0}) p.changes
  create_writes t kind serves namespace query body p json e =
      let of : Expected = record { served = t; namespace = namespace; name = None; verb = Create; subresource = Main } in
      let creation = passed (creation_validated t kind namespace query body) _ p e in
      let intent = passed (intent_of of asked.Post query body) _ creation.0 creation.1 in
      let name = passed (required_name (name_in body)) _ creation.0 intent.2 in
      let k : Key = record { kind = kind; namespace = namespace; name = name.0 } in
      let made : Creation = record { key = k; intent = intent.0 } in
      let same : made ≡ creation.0 = ok_is made creation.0 name.2 in
      let f = subst (λ (c : Creation). created_as t current (fin.get objects c.key) c.key c.intent ≡ Ok p) (sym same) creation.2 in
      let named = passed (names_validated intent.0.subresource k.namespace k.name intent.0.rest) _ p f in
      created_writes t k serves intent.0 p (intended_content of asked.Post query body intent.0 (shapes kind t serves) json intent.1) (is_named intent.0.subresource k intent.0.rest named.0 named.1) (fin.get objects k) refl named.2

-- ---- each call

body_json : (body : Option Data) (d : Data) → IsJsonBody body → body_of body ≡ Ok d → IsJson d
body_json None d json e = no_err _ d e
body_json (Some x) d json e = subst IsJson (ok_is x d e) json

module _ (types : List ServedShape) (s : HistoryWindow) (shapes : Shapes types) (texts : AreTexts types (s.at s.current)) (call : Call) (json : IsJsonBody call.body) where
  abbrev current : ℕ
  current = s.current

  abbrev stood : Objects
  stood = s.at s.current

  abbrev Writes : Validated Plan → Type 0
  Writes j = (p : Plan) → j ≡ Ok p → WritesBy types current stood (Unit {0}) (λ old new. Unit {0}) p.changes

  with_body : (validated : Data → Validated Plan) → ((body : Data) → IsJson body → Writes (validated body)) → Writes (and_then (body_of call.body) validated)
  with_body validated writes p e =
      let body = passed (body_of call.body) validated p e in
      writes body.0 (body_json call.body body.0 json body.1) p body.2

  object_writes : (w : Verb) (by : Subresource) (t : ServedShape) (k : Key) → slice_get types k.kind ≡ Some t → Writes (dispatch_object w by t current (fin.get stood k) k call.query call.body)
  object_writes Get by t k serves p e = get_writes types current stood shapes texts t k serves (Unit {0}) (λ old new. Unit {0}) call.query p e
  object_writes Create by t k serves p e = no_err _ p e
  object_writes Update by t k serves p e =
      with_body _ (λ body read q f. update_writes types current stood shapes texts t k serves (Unit {0}) (λ old new. Unit {0}) by call.query body q read (λ i is before sides. tt) f) p e
  object_writes Apply by t k serves p e =
      with_body _ (λ body read q f. apply_writes types current stood shapes texts t k serves (Unit {0}) (λ old new. Unit {0}) by call.query body q read (λ i is before s sides owned. tt) f) p e
  object_writes Delete Main t k serves p e = delete_writes types current stood shapes texts t k serves (Unit {0}) (λ old new. Unit {0}) tt call.query call.body p e
  object_writes Delete Status t k serves p e = no_err _ p e

  -- a list writes nothing
  list_writes : (t : ServedShape) (kind : ℕ) (namespace : Option (List ℕ)) → Writes (list_plan t s kind namespace call.query)
  list_writes t kind namespace p e =
      let values = passed (parameters_for t asked.List call.query) _ p e in
      answered (shown_by s (collection_of t kind namespace) values.0 values.0.watch) values.2
    where
      answered : (r : Result Answer Refusal) → list_answered r ≡ Ok p → WritesBy types current stood (Unit {0}) (λ old new. Unit {0}) p.changes
      answered (Ok answer) f = subst (WritesBy types current stood (Unit {0}) (λ old new. Unit {0})) (ap changes_in f) tt
      answered (Err refusal) f = no_err _ p f

  all_writes : (w : Verb) (t : ServedShape) (kind : ℕ) → Writes (dispatch_scope of_all w t kind s call)
  all_writes Get t kind p e = list_writes t kind None p e
  all_writes Create t kind p e = no_err _ p e
  all_writes Update t kind p e = no_err _ p e
  all_writes Apply t kind p e = no_err _ p e
  all_writes Delete t kind p e = no_err _ p e

  collection_writes : (w : Verb) (t : ServedShape) (kind : ℕ) (namespace : List ℕ) → slice_get types kind ≡ Some t → Writes (dispatch_scope (of_namespace namespace) w t kind s call)
  collection_writes Create t kind namespace serves p e = with_body _ (λ body read q f. create_writes types current stood shapes texts t kind serves namespace call.query body q read f) p e
  collection_writes Get t kind namespace serves p e = list_writes t kind (Some namespace) p e
  collection_writes Update t kind namespace serves p e = no_err _ p e
  collection_writes Apply t kind namespace serves p e = no_err _ p e
  collection_writes Delete t kind namespace serves p e = no_err _ p e

  by_writes : (scope : Scope) (w : Verb) (t : ServedShape) (kind : ℕ) → slice_get types kind ≡ Some t → Writes (dispatch_scope scope w t kind s call)
  by_writes of_all w t kind serves p e = all_writes w t kind p e
  by_writes (of_namespace namespace) w t kind serves p e = collection_writes w t kind namespace serves p e
  by_writes (of_object namespace name subresource) w t kind serves p e = object_writes w subresource t (key_at kind namespace name) serves p (detailed_ok t (Some name) _ p e)

  type_writes : (found : Option ServedShape) (kind : ℕ) (scope : Scope) (w : Verb) → slice_get types kind ≡ found → Writes (dispatch_type found kind scope w s call)
  type_writes None kind scope w is p e = no_err _ p e
  type_writes (Some t) kind scope w is p e = by_writes scope w t kind is p e

  target_writes : (target : Target) → Writes (dispatch_target types target s call)
  target_writes (of_objects kind scope w) p e = type_writes (slice_get types kind) kind scope w refl p e
  target_writes (of_document document) p e = subst (WritesBy types current stood (Unit {0}) (λ old new. Unit {0})) (document_none (text_in types document) p e) tt

  call_writes : (j : Validated Plan) → dispatch_call types s call ≡ j → WritesBy types current stood (Unit {0}) (λ old new. Unit {0}) (plan_for j).changes
  call_writes (Err d) e = tt
  call_writes (Ok p) e = target_writes call.target p e

-- ---- what is planned may come next

written_text : (types : List ServedShape) (objects : Objects) (D : Type 0) (R : State → State → Type 0) (c : Change) (body : Option (List ℕ)) → c.revision ≤ last_revision → BodyBy types objects D R c body
    → IfSome body (IsTextAt types c.key c.revision)
written_text types objects D R c None low is = tt
written_text types objects D R c (Some text) low is = record {
  t = is.0;
  served = is.1;
  is_text = record {
    state = is.2;
    system = None;
    says = subst (λ x. IsObjectText is.0.shape (identity_of is.0 c.key) (plain_stamp c.revision) is.2 x) (sym is.4) (printed_is_text is.0 c.key c.revision is.2 is.3.0 low);
    is_system = nothing_said is.0 c.revision;
    sides = is.3.1;
    named = is.7;
  };
}

gone_there : (types : List ServedShape) (objects : Objects) (D : Type 0) (R : State → State → Type 0) (c : Change) (body : Option (List ℕ)) → BodyBy types objects D R c body → body ≡ None → fin.contains_key objects c.key ≡ true
gone_there types objects D R c None is e = is.1
gone_there types objects D R c (Some text) is e = no_some text e

comes_next : (types : List ServedShape) (m : History) (D : Type 0) (R : State → State → Type 0) (c : Change) → WritesBy types m.current (current_objects m) D R (c ∷ []) → IsNext types m c
comes_next types m D R c is = record {
  next = is.0;
  high = is.1;
  there = gone_there types (current_objects m) D R c c.body is.2;
  is_text = written_text types (current_objects m) D R c c.body is.1 is.2;
}

are_next : (types : List ServedShape) (m : History) (D : Type 0) (R : State → State → Type 0) (cs : List Change) → WritesBy types m.current (current_objects m) D R cs → AreNext types m cs
are_next types m D R [] is = tt
are_next types m D R (c ∷ []) is = (comes_next types m D R c is, tt)
are_next types m D R (c ∷ d ∷ cs) is = absurd is

any_writes : (types : List ServedShape) (m : History) (call : Call) → IsMachine types m → IsJsonBody call.body → WritesBy types m.current (current_objects m) (Unit {0}) (λ old new. Unit {0}) (planned types m call).changes
any_writes types m call is json =
    changes_of_run (WritesBy types m.current (current_objects m) (Unit {0}) (λ old new. Unit {0})) (is_dry_run (type_at types call.target) call) (current_objects m)
    (plan_for (dispatch_call types (from_history m) call)) tt (call_writes types (from_history m) (shapes_of types is.shapes) is.stand call json (dispatch_call types (from_history m) call) refl)

pub plans_come_next : PlansComeNext
plans_come_next types m call is json = are_next types m (Unit {0}) (λ old new. Unit {0}) (planned types m call).changes (any_writes types m call is json)

short_body : (types : List ServedShape) (objects : Objects) (D : Type 0) (R : State → State → Type 0) (c : Change) (body : Option (List ℕ)) → BodyBy types objects D R c body → IfSome body (λ text. length text ≤ max_bytes)
short_body types objects D R c None is = tt
short_body types objects D R c (Some text) is = is.6

short_changes : (types : List ServedShape) (m : History) (cs : List Change) → WritesBy types m.current (current_objects m) (Unit {0}) (λ old new. Unit {0}) cs
    → AllByRecursion (λ c. IfSome c.body (λ text. length text ≤ max_bytes)) cs
short_changes types m [] is = tt
short_changes types m (c ∷ []) is = (short_body types (current_objects m) (Unit {0}) (λ old new. Unit {0}) c c.body is.2, tt)
short_changes types m (c ∷ d ∷ cs) is = absurd is

pub plans_are_short : PlansAreShort
plans_are_short types m call is json = short_changes types m (planned types m call).changes (any_writes types m call is json)

pub after_machine : (types : List ServedShape) (m : History) (cs : List Change) → IsMachine types m → AreNext types m cs → IsMachine types (after m cs)
after_machine types m [] is next = is
after_machine types m (c ∷ cs) is next = after_machine types (written m c.key c.body) cs (machine_next types m c is next.0) next.1

pub steps_keep_machines : StepsKeepMachines
steps_keep_machines types m call is json = after_machine types m (planned types m call).changes is (plans_come_next types m call is json)

-- ---- texts say their states

text_says : (types : List ServedShape) (k : Key) (r : ℕ) (text : List ℕ) → IsSomeTextAt types k r text → DecodesTo types k r text
text_says types k r text is = (is, sym (said_back is.shape _ (stamped r is.is_text.system) is.is_text.state text is.shaped is.is_text.says))

pub texts_say_states : TextsSayStates
texts_say_states types m r k o is there = text_says types k o.revision o.body (texts_at types m r k o is there)

pub stored_texts_decode : StoredTextsDecode
stored_texts_decode types m k o is there =
    let x = is.stand k o there in (
      x,
      sym (ap (λ u. state_by u (fin.get (current_objects m) k)) x.served ∙ ap (state_of_existing x.t) there
          ∙ said_back x.t.shape _ (stamped o.revision x.is_text.system) x.is_text.state o.body ((shapes_of types is.shapes) k.kind x.t x.served) x.is_text.says),
    )

body_says : (types : List ServedShape) (c : Change) (body : Option (List ℕ)) → IfSome body (IsSomeTextAt types c.key c.revision) → IfSome body (DecodesTo types c.key c.revision)
body_says types c None is = tt
body_says types c (Some text) is = text_says types c.key c.revision text is

all_say : (types : List ServedShape) (cs : List Change) → AllByRecursion (IsOfTypes types) cs → AllByRecursion (λ c. IfSome c.body (DecodesTo types c.key c.revision)) cs
all_say types [] all = tt
all_say types (c ∷ cs) all = (body_says types c c.body all.0, all_say types cs all.1)

pub bodies_say_states : BodiesSayStates
bodies_say_states types m is = all_say types m.changes is.texts

-- ---- a call whose verb is a write of an object

abbrev IsCollection : Scope → Type 0
IsCollection of_all = Unit {0}
IsCollection (of_namespace namespace) = Unit {0}
IsCollection (of_object namespace name by) = ⊥

abbrev is_get : Verb → Bool
is_get Get = true
is_get verb = false

module _ (types : List ServedShape) (s : HistoryWindow) (call : Call) (json : IsJsonBody call.body) (R : State → State → Type 0) (w : Verb) (validated : Subresource → ServedShape → Key → Data → Validated Plan)
    (everywhere : (scope : Scope) (t : ServedShape) (kind : ℕ) (p : Plan) → IsCollection scope → dispatch_scope scope w t kind s call ≡ Ok p → ⊥)
    (documents : Get ≡ w → ⊥)
    (object : (by : Subresource) (t : ServedShape) (k : Key) → dispatch_object w by t s.current (object_at s k) k call.query call.body ≡ and_then (body_of call.body) (validated by t k))
    (keeps : (t : ServedShape) (k : Key) → slice_get types k.kind ≡ Some t → type_at types call.target ≡ Some t → (body : Data) (p : Plan) → IsJson body → validated (subresource_of call.target) t k body ≡ Ok p
    → WritesBy types s.current (s.at s.current) ⊥ R p.changes) where
  scope_keeps : (kind : ℕ) (scope : Scope) → call.target ≡ of_objects kind scope w → (t : ServedShape) → slice_get types kind ≡ Some t → (p : Plan) → dispatch_scope scope w t kind s call ≡ Ok p
      → WritesBy types s.current (s.at s.current) ⊥ R p.changes
  scope_keeps kind of_all is t serves p e = absurd (everywhere of_all t kind p tt e)
  scope_keeps kind (of_namespace namespace) is t serves p e = absurd (everywhere (of_namespace namespace) t kind p tt e)
  scope_keeps kind (of_object namespace name by) is t serves p e =
      let k = key_at kind namespace name in
      let body = passed (body_of call.body) (validated by t k) p (sym (object by t k) ∙ detailed_ok t (Some name) _ p e) in
      keeps t k serves (ap (type_at types) is ∙ serves) body.0 p (body_json call.body body.0 json body.1)
      (subst (λ (b : Subresource). validated b t k body.0 ≡ Ok p) (sym (ap subresource_of is)) body.2)

  type_keeps : (kind : ℕ) (scope : Scope) → call.target ≡ of_objects kind scope w → (found : Option ServedShape) → slice_get types kind ≡ found → (p : Plan) → dispatch_type found kind scope w s call ≡ Ok p
      → WritesBy types s.current (s.at s.current) ⊥ R p.changes
  type_keeps kind scope is None serves p e = no_err _ p e
  type_keeps kind scope is (Some t) serves p e = scope_keeps kind scope is t serves p e

  target_keeps : (target : Target) → call.target ≡ target → verb_of target ≡ w → (p : Plan) → dispatch_target types target s call ≡ Ok p → WritesBy types s.current (s.at s.current) ⊥ R p.changes
  target_keeps (of_objects kind scope verb) is asks p e =
      type_keeps kind scope (is ∙ ap (of_objects kind scope) asks) (slice_get types kind) refl p (subst (λ (v : Verb). dispatch_type (slice_get types kind) kind scope v s call ≡ Ok p) asks e)
  target_keeps (of_document document) is asks p e = absurd (documents asks)

  plan_keeps : verb_of call.target ≡ w → (j : Validated Plan) → dispatch_call types s call ≡ j → WritesBy types s.current (s.at s.current) ⊥ R (plan_for j).changes
  plan_keeps asks (Err d) e = tt
  plan_keeps asks (Ok p) e = target_keeps call.target refl asks p e

-- ---- the machine after it

module _ (types : List ServedShape) (m : History) (is : IsMachine types m) (R : State → State → Type 0) (stays : (s : State) → R s s) where
  -- the state under the key of the change
  changed_keeps : (c : Change) (body : Option (List ℕ)) → c.revision ≤ last_revision → BodyBy types (current_objects m) ⊥ R c body
      → R (state_under types (current_objects m) c.key) (state_by (slice_get types c.key.kind) (object_by (suc m.current) body))
  changed_keeps c None low b = absurd b.0
  changed_keeps c (Some text) low b =
      let says = printed_is_text b.0 c.key c.revision b.2 b.3.0 low in
      subst (R (state_under types (current_objects m) c.key))
      (sym (ap (λ u. state_by u (object_by (suc m.current) (Some text))) b.1 ∙ ap (decoded_state b.0.shape) b.4
      ∙ said_back b.0.shape _ (plain_stamp c.revision) b.2 (text_at b.0 c.key c.revision b.2) ((shapes_of types is.shapes) c.key.kind b.0 b.1) says))
      b.5

  under_put : (c : Change) (k : Key) → R (state_under types (current_objects m) c.key) (state_by (slice_get types c.key.kind) (object_by (suc m.current) c.body))
      → R (state_under types (current_objects m) k) (state_under types (put_or_remove (current_objects m) c.key (object_by (suc m.current) c.body)) k)
  under_put c k keeps =
      subst (λ found. R (state_under types (current_objects m) k) (state_by (slice_get types k.kind) found)) (sym (get-put_or_remove (current_objects m) c.key (object_by (suc m.current) c.body) k)) (go (is_same_key k c.key) refl)
    where
      go : (b : Bool) → is_same_key k c.key ≡ b → R (state_under types (current_objects m) k) (state_by (slice_get types k.kind) (cond b (object_by (suc m.current) c.body) (fin.get (current_objects m) k)))
      go true same = subst (λ q. R (state_under types (current_objects m) q) (state_by (slice_get types q.kind) (object_by (suc m.current) c.body))) (sym (tied k c.key same)) keeps
      go false same = stays (state_under types (current_objects m) k)

  after_keeps : (cs : List Change) → WritesBy types m.current (current_objects m) ⊥ R cs → (k : Key)
      → R (state_under types (current_objects m) k) (state_under types (current_objects (after m cs)) k)
  after_keeps [] writes k = stays (state_under types (current_objects m) k)
  after_keeps (c ∷ d ∷ cs) writes k = absurd writes
  after_keeps (c ∷ []) writes k =
      subst (λ os. R (state_under types (current_objects m) k) (state_under types os k)) (sym (current_objects_next types m c is (comes_next types m ⊥ R c writes)))
      (under_put c k (changed_keeps c c.body writes.1 writes.2))

-- ---- an apply and an update as relations of the states before and after them

module _ (types : List ServedShape) (m : History) (call : Call) (is : IsMachine types m) (json : IsJsonBody call.body) (R : State → State → Type 0) (stays : (s : State) → R s s) where
  pub applies_keep : verb_of call.target ≡ Apply
      → ((t : ServedShape) (k : Key) → type_at types call.target ≡ Some t → (body : Data) (i : Intent) → intent_of (at_path t k Apply (subresource_of call.target)) asked.Apply call.query body ≡ Ok i → (before s : State) → OwnSides (is_apart t) before
      → owned_by_intent t before i ≡ Ok s → R before s)
      → (k : Key) → R (state_under types (current_objects m) k) (state_under types (current_objects (step types m call).1) k)
  applies_keep asks keeps =
      after_keeps types m is R stays (planned types m call).changes
      (changes_of_run (WritesBy types m.current (current_objects m) ⊥ R) (is_dry_run (type_at types call.target) call) (current_objects m) (plan_for (dispatch_call types (from_history m) call)) tt
      (plan_keeps types (from_history m) call json R Apply (λ by t k. apply_plan by t m.current (fin.get (current_objects m) k) k call.query)
      apply_alone (λ e. true≢false (ap is_get e)) (λ by t k. refl)
      (λ t k serves called body p encodable e. apply_writes types m.current (current_objects m) (shapes_of types is.shapes) is.stand t k serves ⊥ R (subresource_of call.target) call.query body p encodable (keeps t k called body) e)
      asks (dispatch_call types (from_history m) call) refl))
    where
      apply_alone : (scope : Scope) (t : ServedShape) (kind : ℕ) (p : Plan) → IsCollection scope → dispatch_scope scope Apply t kind (from_history m) call ≡ Ok p → ⊥
      apply_alone of_all t kind p one e = no_err _ p e
      apply_alone (of_namespace namespace) t kind p one e = no_err _ p e
      apply_alone (of_object namespace name by) t kind p one e = one

  pub updates_keep : verb_of call.target ≡ Update
      → ((t : ServedShape) (k : Key) → type_at types call.target ≡ Some t → (body : Data) (i : Intent) → intent_of (at_path t k Update (subresource_of call.target)) asked.Put call.query body ≡ Ok i → (before : State) → OwnSides (is_apart t) before → R before (updated_by t i before))
      → (k : Key) → R (state_under types (current_objects m) k) (state_under types (current_objects (step types m call).1) k)
  updates_keep asks keeps =
      after_keeps types m is R stays (planned types m call).changes
      (changes_of_run (WritesBy types m.current (current_objects m) ⊥ R) (is_dry_run (type_at types call.target) call) (current_objects m) (plan_for (dispatch_call types (from_history m) call)) tt
      (plan_keeps types (from_history m) call json R Update (λ by t k. update_plan by t m.current (fin.get (current_objects m) k) k call.query)
      update_alone (λ e. true≢false (ap is_get e)) (λ by t k. refl)
      (λ t k serves called body p encodable e. update_writes types m.current (current_objects m) (shapes_of types is.shapes) is.stand t k serves ⊥ R (subresource_of call.target) call.query body p encodable (keeps t k called body) e)
      asks (dispatch_call types (from_history m) call) refl))
    where
      update_alone : (scope : Scope) (t : ServedShape) (kind : ℕ) (p : Plan) → IsCollection scope → dispatch_scope scope Update t kind (from_history m) call ≡ Ok p → ⊥
      update_alone of_all t kind p one e = no_err _ p e
      update_alone (of_namespace namespace) t kind p one e = no_err _ p e
      update_alone (of_object namespace name by) t kind p one e = one

-- ---- the laws

pub applies_keep_others : AppliesKeepOthers
applies_keep_others types m call values is json patch read gentle =
    let by = subresource_of call.target in
    applies_keep types m call is json (AsApplied values.manager by) (λ s k p apart owns. (refl, owns)) patch
    (λ t k serves body i intends before s sides owned.
    let of = at_path t k Apply by in
    let said = intended of asked.Apply call.query body i values intends (sym (ap (λ (o : Option ServedShape). parameters_at o asked.Apply call.query) serves) ∙ read) in
    subst (λ w. AsApplied w by before s) (sym said.0)
    (subst (λ b. AsApplied i.manager b before s) (sym (intended_by of asked.Apply call.query body i intends))
    (owned_keeps _ before (own_part (is_apart t) i.subresource i.content) (manager_for apply_operation i) i.is_forced s (sym said.1 ∙ gentle) owned)))

pub updates_take_changes : UpdatesTakeChanges
updates_take_changes types m call values is json put read =
    let by = subresource_of call.target in
    updates_keep types m call is json (AsUpdated values.manager by) (λ s k p apart owns same. owns) put
    (λ t k serves body i intends before sides.
    let of = at_path t k Update by in
    let said = intended of asked.Put call.query body i values intends (sym (ap (λ (o : Option ServedShape). parameters_at o asked.Put call.query) serves) ∙ read) in
    subst (λ w. AsUpdated w by before (updated_by t i before)) (sym said.0)
    (subst (λ b. AsUpdated i.manager b before (updated_by t i before)) (sym (intended_by of asked.Put call.query body i intends))
    (updated_keeps before (beside_others (is_apart t) i.subresource i.content before.content) (manager_for update_operation i))))

itself_stays : (is_apart : Bool) (by : Subresource) (s : State) → OtherSideStays is_apart by s s
itself_stays is_apart by s = λ p other. (refl, λ k. refl)

pub writes_leave_other_side : WritesLeaveOtherSide
writes_leave_other_side types m call is json (inl patch) =
    let by = subresource_of call.target in
    let apart = is_apart_in (type_at types call.target) in
    applies_keep types m call is json (OtherSideStays apart by) (itself_stays apart by) patch
    (λ t k serves body i intends before s sides owned.
    subst (λ o. OtherSideStays (is_apart_in o) by before s) (sym serves)
    (subst (λ b. OtherSideStays (is_apart t) b before s) (sym (intended_by (at_path t k Apply by) asked.Apply call.query body i intends)) (owned_apart t (api_version_of t) before i s sides owned)))
writes_leave_other_side types m call is json (inr put) =
    let by = subresource_of call.target in
    let apart = is_apart_in (type_at types call.target) in
    updates_keep types m call is json (OtherSideStays apart by) (itself_stays apart by) put
    (λ t k serves body i intends before sides.
    subst (λ o. OtherSideStays (is_apart_in o) by before (updated_by t i before)) (sym serves)
    (subst (λ b. OtherSideStays (is_apart t) b before (updated_by t i before)) (sym (intended_by (at_path t k Update by) asked.Put call.query body i intends)) (updated_by_apart t before i)))

pub managers_own_their_sides : ManagersOwnTheirSides
managers_own_their_sides types m k is = represents_own types (current_objects m) (shapes_of types is.shapes) is.stand k
