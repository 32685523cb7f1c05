-- What a call comes to at a machine.
use Rattle.std.proofs.Common.{◌≡◌, Ok, Err, Bool, true, false, Option, Some, None, refl, sym, ap, subst, ◌∙◌, List, [], ◌∷◌, ℕ, true≢false, ltb-true, ltb-false}
use Rattle.std.specs.Prelude.{◌↔◌, ◌<◌, ◌≤◌, IfSome, IsUtf8, OnOk, String, nat_lt, option_map, slice_get, string_bytes, suc}
use Rattle.std.specs.declared.alloc.Global.{Global}
use Rattle.std.proofs.lemmas.Str.{IsUtf8-string_bytes}
use Rattle.std.specs.declared.result.Result.{Result}
use Rattle.std.specs.FinMap as fin
use Rattle.api_types.specs.TypesFile.{ServedShape}
use Rattle.history.specs.History.{Change, History, Key, Object, Objects, compacted_to}
use Rattle.history.specs.View.{View, compacted_in, written_in}
use Rattle.history.proofs.Seen.{view_compacts, view_writes}
use Rattle.objects.specs.ReadBack.{IsObjectText}
use Rattle.objects.specs.SystemMetadata.{stamped}
use Rattle.objects.proofs.Taken.{same_some}
use Rattle.watchline.specs.Watches.{from_view}
use Rattle.verbs.specs.declared.api.Api.{Api}
use Rattle.api_request.specs.declared.body.Body.{Body}
use Rattle.api_request.specs.declared.calls.Call.{Call as TheCall}
use Rattle.api_request.specs.declared.calls.Plan.{Plan as ThePlan}
use Rattle.api_request.specs.Json.{IsJsonBody}
use Rattle.api_request.specs.Calls.{Call, Plan}
use Rattle.verbs.specs.Machine.{AreNext, AreTexts, IsMachine, IsNext, IsReadable, after, identity_of}
use Rattle.verbs.proofs.Changes.{all_push, is_history, machine_next}
use Rattle.verbs.proofs.Machines.{compactions_keep_machines, plans_by_views, current_objects_seen}
use Rattle.verbs.proofs.Promise.{plans_come_next}
use Rattle.api_request.specs.Views.{body_seen, call_of, plan_of}
use Rattle.verbs.specs.Views.{ApiRepresents, types_of, objects_in}
use Rattle.verbs.specs.Step.{planned, planned_over}

module _ (api : Api) (types : List ServedShape) (m : History) (call : Call) (represents : ApiRepresents api types m) where
  pub planned_is : planned_over (types_of api) (from_view api.store) call ≡ planned types m call
  planned_is =
      ap (λ ts. planned_over ts (from_view api.store) call) represents.serves
      ∙ ap (λ (v : View). planned_over types (from_view v) call) represents.store
      ∙ sym (plans_by_views types m call represents.is_machine)

  -- each text that stands in the store is an object's
  pub represents_texts : AreTexts (types_of api) (objects_in api.store)
  represents_texts =
      subst (λ ts. AreTexts ts (objects_in api.store)) (sym represents.serves)
      (subst (AreTexts types) (sym (ap objects_in represents.store ∙ current_objects_seen types m represents.is_machine)) represents.is_machine.stand)

-- what stands under a key of the type is readable
pub readable_at : (types : List ServedShape) (t : ServedShape) (k : Key) (objects : Objects) (found : Option Object) → fin.get objects k ≡ found → slice_get types k.kind ≡ Some t
    → AreTexts types objects → IsReadable t k found
readable_at types t k objects None is serves texts = tt
readable_at types t k objects (Some o) is serves texts =
    let x = texts k o is in
    let stamp = stamped o.revision x.is_text.system in
    (stamp, x.is_text.state, subst (λ (u : ServedShape). IsObjectText u.shape (identity_of u k) stamp x.is_text.state o.body) (same_some x.t t (sym x.served ∙ serves)) x.is_text.says)

-- ---- what is planned may come next

bodies_json : (body : Option Body) → IsJsonBody (option_map body_seen body)
bodies_json None = tt
bodies_json (Some b) = b.is_json

pub planned_next : (types : List ServedShape) (m : History) (call : TheCall) → IsMachine types m → (p : ThePlan) → plan_of p ≡ planned types m (call_of call) → AreNext types m (plan_of p).changes
planned_next types m call is p same =
    subst (λ (q : Plan). AreNext types m q.changes) (sym same) (plans_come_next types m (call_of call) is (bodies_json call.body))

-- each body that is written is a string
pub strings_utf8 : {A : Type 0} (text : A → String Global) (o : Option A) → IfSome (option_map (λ a. string_bytes (text a)) o) IsUtf8
strings_utf8 text None = tt
strings_utf8 text (Some a) = IsUtf8-string_bytes (text a)

pub represents_next : (api new : Api) (types : List ServedShape) (m : History) (c : Change) → ApiRepresents api types m → IsNext types m c → IfSome c.body IsUtf8
    → types_of new ≡ types_of api → new.store ≡ written_in api.store c.key c.body → ApiRepresents new types (after m (c ∷ []))
represents_next api new types m c represents next text serves store = record {
  is_machine = machine_next types m c represents.is_machine next;
  serves = serves ∙ represents.serves;
  store = store ∙ ap (λ (v : View). written_in v c.key c.body) represents.store ∙ sym (view_writes m c.key c.body (is_history types m represents.is_machine));
  unicode = all_push (λ (x : Change). IfSome x.body IsUtf8) m.changes (record { revision = suc m.current; key = c.key; body = c.body }) represents.unicode text;
}

pub on_ok : {X E A B : Type 0} (r : Result X E) → (A → B) → OnOk r A → OnOk r B
on_ok (Ok x) f a = f a
on_ok (Err e) f a = a

pub represents_compacted : (api new : Api) (types : List ServedShape) (m : History) (c : ℕ) → ApiRepresents api types m → types_of new ≡ types_of api → m.compacted ≤ c → c ≤ m.current
    → new.store ≡ compacted_in c api.store → ApiRepresents new types (compacted_to c m)
represents_compacted api new types m c represents serves low high store = record {
  is_machine = compactions_keep_machines types m c represents.is_machine low high;
  serves = serves ∙ represents.serves;
  store = store ∙ ap (compacted_in c) represents.store ∙ sym (view_compacts m c (is_history types m represents.is_machine) low);
  unicode = represents.unicode;
}

-- ---- a compaction

abbrev is_done : {X E : Type 0} → Result X E → Bool
is_done (Ok x) = true
is_done (Err e) = false

not_below : (c n : ℕ) → (c < n → ⊥) → n ≤ c
not_below c n apart = go (nat_lt c n) refl
  where
    go : (b : Bool) → nat_lt c n ≡ b → n ≤ c
    go true is = absurd (apart (ltb-true _ _ is))
    go false is = ltb-false _ _ is

-- it is done where neither refusal stands
pub compacts : {X E : Type 0} (api new : Api) (types : List ServedShape) (m : History) (c : ℕ) (r : Result X E) (expired large : E) → ApiRepresents api types m → types_of new ≡ types_of api
    → (r ≡ Err expired) ↔ (c < api.store.compacted) → (r ≡ Err large) ↔ (api.store.current < c) → OnOk r (new.store ≡ compacted_in c api.store) → OnOk r (ApiRepresents new types (compacted_to c m))
compacts api new types m c (Err e) expired large represents serves low high store = tt
compacts api new types m c (Ok x) expired large represents serves low high store =
    represents_compacted api new types m c represents serves
    (subst (λ (n : ℕ). n ≤ c) (ap (λ (v : View). v.compacted) represents.store) (not_below c api.store.compacted (λ lt. true≢false (ap is_done (low.1 lt)))))
    (subst (λ (n : ℕ). c ≤ n) (ap (λ (v : View). v.current) represents.store) (not_below api.store.current c (λ lt. true≢false (ap is_done (high.1 lt)))))
    store
