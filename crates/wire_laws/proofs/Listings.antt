-- What a machine keeps of a served type, and the plan of a call that lists it or watches it.
use Rattle.std.proofs.Common.{◌≡◌, ℕ, ◌≤◌, ◌<◌, Bool, true, false, true≢false, List, [], Option, None, Some, Result, Ok, Err, IsUtf8, refl, sym, ap, subst, ◌∙◌, arith}
use Rattle.std.proofs.lemmas.Bool.{le-ltb, lt-ltb, ne_eqb}
use Rattle.std.specs.Prelude.{if◌then◌else◌, nat_lt, slice_get}
use Rattle.api_types.specs.TypesFile.{ServedShape}
use Rattle.names.specs.Names.{is_dns_label, is_dns_subdomain}
use Rattle.history.specs.History.{History, IsHistory, Key, Object, Objects, current_objects, state_at}
use Rattle.history.proofs.Wholes.{whole_is}
use Rattle.objects.specs.ReadBack.{IsObjectText, max_version}
use Rattle.objects.specs.SystemMetadata.{stamped}
use Rattle.objects.proofs.Taken.{same_some}
use Rattle.params.specs.Values.{Values, Watch}
use Rattle.params.specs.declared.params.Asked.TheVariants as asked
use Rattle.lists.specs.declared.refusal.Refusal.{Refusal}
use Rattle.lists.specs.declared.refusal.Refusal.TheVariants.{Expired}
use Rattle.lists.specs.Body.{Collection, list_text}
use Rattle.lists.specs.Lists.{list_of, page_of, text_at}
use Rattle.lists.specs.Revision.{revision_of}
use Rattle.decoder.specs.Wanted.{Wanted}
use Rattle.answers.specs.declared.watch_from.InitialEvents.{InitialEvents}
use Rattle.answers.specs.declared.watch_from.InitialEvents.TheVariants.{Changes}
use Rattle.watchline.specs.Opening.{from_parts, initial_in, opened_by, starts}
use Rattle.watchline.specs.Watches.{from_history}
use Rattle.line_laws.specs.Listed.{AreKept, IsKept, IsReadAsPage, IsWanted}
use Rattle.api_request.specs.declared.verb.Verb.TheVariants.{Get}
use Rattle.api_request.specs.Calls.{Answer, Call, Plan, Target, at_tick, of_objects, collection_in, type_at}
use Rattle.verbs.specs.Machine.{IsMachine, IsSomeTextAt, identity_of}
use Rattle.api_validation.specs.Parameters.{parameters_validated}
use Rattle.api_validation.proofs.Readings.{words_are_read_on_each}
use Rattle.verbs.specs.DryRuns.{is_dry_run, run_by}
use Rattle.verbs.specs.PromiseLaws.{TextsSayStates}
use Rattle.verbs.specs.Step.{collection_of, list_answered, list_refusal, list_plan, page_shown, plan_for, planned, refused, shown_by, dispatch_target, dispatch_type, dispatch_scope, dispatch_call, watch_shown}
use Rattle.api_request.specs.Validated.{Validated, and_then}
use Rattle.wire_laws.specs.Listings.{IsListing, IsWatching, page_plan, watch_after, watch_plan}

-- ---- what is kept

no_label : (text : List ℕ) → is_dns_label text ≡ true → text ≡ [] → ⊥
no_label text named none = true≢false (sym named ∙ ap is_dns_label none)

no_subdomain : (text : List ℕ) → is_dns_subdomain text ≡ true → text ≡ [] → ⊥
no_subdomain text named none = true≢false (sym named ∙ ap is_dns_subdomain none)

-- the type that is served has the names of the one whose object it is
pub text_kept : (types : List ServedShape) (t : ServedShape) (kind : ℕ) (namespace : Option (List ℕ)) (k : Key) (o : Object) → slice_get types kind ≡ Some t → k.kind ≡ kind
    → IsSomeTextAt types k o.revision o.body → IsKept (collection_of t kind namespace) k o
text_kept types t kind namespace k o served same x =
    let own : x.t ≡ t = same_some x.t t (sym x.served ∙ ap (slice_get types) same ∙ served) in
    record {
      shape = x.shape;
      shaped = x.shaped;
      system = x.is_text.system;
      state = x.is_text.state;
      says = subst (λ (u : ServedShape). IsObjectText x.shape (identity_of u k) (stamped o.revision x.is_text.system) x.is_text.state o.body) own x.is_text.says;
      has_namespace = no_label k.namespace x.is_text.named.namespace;
      has_name = no_subdomain k.name x.is_text.named.name;
    }

pub machine_keeps : TextsSayStates → (types : List ServedShape) (m : History) (t : ServedShape) (kind : ℕ) (namespace : Option (List ℕ)) (r : ℕ) → IsMachine types m → slice_get types kind ≡ Some t
    → AreKept (collection_of t kind namespace) (state_at m.changes r)
machine_keeps say types m t kind namespace r is served k o same there = text_kept types t kind namespace k o served same (say types m r k o is there).0

-- ---- the plan of a list or a watch

abbrev page_text : Collection → Values → ℕ → History → List ℕ
page_text of values revision m = list_text of revision (page_of of values (state_at m.changes revision))

-- a list that is a dry run is that list
answered_still : (is_dry : Bool) (objects : Objects) (r : Result Answer Refusal) → run_by is_dry objects (plan_for (list_answered r)) ≡ plan_for (list_answered r)
answered_still true objects (Ok answer) = refl
answered_still true objects (Err refusal) = refl
answered_still false objects r = refl

module _ (types : List ServedShape) (m : History) (call : Call) (t : ServedShape) (kind : ℕ) (namespace : Option (List ℕ)) (values : Values) (served : slice_get types kind ≡ Some t)
    (gets : call.target ≡ of_objects kind (collection_in namespace) Get) (says : parameters_validated asked.List call.query ≡ Ok values) where
  abbrev of : Collection
  of = collection_of t kind namespace

  by_namespace : (n : Option (List ℕ)) → dispatch_scope (collection_in n) Get t kind (from_history m) call ≡ list_plan t (from_history m) kind n call.query
  by_namespace None = refl
  by_namespace (Some n) = refl

  validated_is : dispatch_call types (from_history m) call ≡ list_answered (shown_by (from_history m) of values values.watch)
  validated_is =
      ap (λ (target : Target). dispatch_target types target (from_history m) call) gets
      ∙ ap (λ o. dispatch_type o kind (collection_in namespace) Get (from_history m) call) served
      ∙ by_namespace namespace
      ∙ ap (λ (v : Validated Values). and_then v (λ said. list_answered (shown_by (from_history m) of said said.watch))) (words_are_read_on_each t asked.List call.query values says)

  shown_as : (watch : Option Watch) → values.watch ≡ watch → planned types m call ≡ plan_for (list_answered (shown_by (from_history m) of values watch))
  shown_as watch is =
      ap (λ (j : Validated Plan). run_by (is_dry_run (type_at types call.target) call) (current_objects m) (plan_for j)) validated_is
      ∙ answered_still (is_dry_run (type_at types call.target) call) (current_objects m) (shown_by (from_history m) of values values.watch)
      ∙ ap (λ o. plan_for (list_answered (shown_by (from_history m) of values o))) is

-- ---- after any tick they ask the same

pub lists_at : {types : List ServedShape} {call : Call} {t : ServedShape} {kind : ℕ} {namespace : Option (List ℕ)} {values : Values} (ms : ℕ)
    → IsListing types call t kind namespace values → IsListing types (at_tick ms call) t kind namespace values
lists_at ms is = record { served = is.served; gets = is.gets; says = is.says; unwatched = is.unwatched }

pub watches_at : {types : List ServedShape} {call : Call} {t : ServedShape} {kind : ℕ} {namespace : Option (List ℕ)} {values : Values} {watch : Watch} {revision : ℕ} (ms : ℕ)
    → IsWatching types call t kind namespace values watch revision → IsWatching types (at_tick ms call) t kind namespace values watch revision
watches_at ms is = record { served = is.served; gets = is.gets; says = is.says; watches = is.watches; after = is.after }

-- ---- of a list

module _ (types : List ServedShape) (m : History) (call : Call) (t : ServedShape) (kind : ℕ) (namespace : Option (List ℕ)) (values : Values) (is : IsListing types call t kind namespace values) where
  abbrev listed : Collection
  listed = collection_of t kind namespace

  list_planned : planned types m call ≡ plan_for (list_answered (page_shown (list_of listed values m.current m.compacted (state_at m.changes))))
  list_planned = shown_as types m call t kind namespace values is.served is.gets is.says None is.unwatched

  pub text_is : (revision : ℕ) → revision_of m.current m.compacted values ≡ Ok revision → list_of listed values m.current m.compacted (state_at m.changes) ≡ Ok (page_text listed values revision m)
  text_is revision at = ap (text_at listed values (state_at m.changes)) at

  pub page_planned : (revision : ℕ) → revision_of m.current m.compacted values ≡ Ok revision → planned types m call ≡ page_plan (page_text listed values revision m)
  page_planned revision at = list_planned ∙ ap (λ text. plan_for (list_answered (page_shown text))) (text_is revision at)

  pub list_refused : (refusal : Refusal) → revision_of m.current m.compacted values ≡ Err refusal → planned types m call ≡ refused (list_refusal refusal)
  list_refused refusal at = list_planned ∙ ap (λ r. plan_for (list_answered (page_shown (text_at listed values (state_at m.changes) r)))) at

-- ---- of a watch

-- by whether the version is 0, and whether changes after it were forgotten
abbrev plan_by : ℕ → Option (List ℕ) → Values → Watch → ℕ → History → InitialEvents → Bool → Bool → Plan
plan_by kind namespace values watch v m objects any forgotten =
    plan_for (list_answered (watch_shown (opened_by (from_parts kind namespace values.selector watch)
    (if any then Ok (m.current, objects) else (if forgotten then Err (Expired v m.compacted) else Ok (v, Changes))))))

module _ (types : List ServedShape) (m : History) (call : Call) (t : ServedShape) (kind : ℕ) (namespace : Option (List ℕ)) (values : Values) (watch : Watch) (v : ℕ)
    (is : IsWatching types call t kind namespace values watch v) (some : 0 < v) where
  abbrev objects : InitialEvents
  objects = initial_in (from_history m) kind namespace values.selector

  watch_planned : planned types m call ≡ plan_by kind namespace values watch v m objects false (nat_lt v m.compacted)
  watch_planned =
      shown_as types m call t kind namespace values is.served is.gets is.says (Some watch) is.watches
      ∙ ap (λ o. plan_for (list_answered (watch_shown (opened_by (from_parts kind namespace values.selector watch) (starts (from_history m) o objects))))) is.after
      ∙ ap (λ b. plan_by kind namespace values watch v m objects b (nat_lt v m.compacted)) (ne_eqb v 0 (λ none. absurd (omega (arith, none, some))))

  pub watch_opens : m.compacted ≤ v → planned types m call ≡ watch_plan (watch_after kind namespace values watch v)
  watch_opens low = watch_planned ∙ ap (plan_by kind namespace values watch v m objects false) (le-ltb v m.compacted low)

  pub watch_expired : v < m.compacted → planned types m call ≡ refused (list_refusal (Expired v m.compacted))
  watch_expired past = watch_planned ∙ ap (plan_by kind namespace values watch v m objects false) (lt-ltb v m.compacted past)

-- ---- what a client reads

abbrev revision_or_zero : Result ℕ Refusal → ℕ
revision_or_zero (Ok r) = r
revision_or_zero (Err e) = 0

-- the law of pages, of such answers
abbrev pub AnswersAreRead : Type 0
AnswersAreRead =
    (wanted : Wanted) (of : Collection) (values : Values) (current compacted : ℕ) (at : ℕ → Objects) (text : List ℕ) → IsWanted wanted of → ((r : ℕ) → compacted ≤ r → r ≤ current → AreKept of (at r))
    → compacted ≤ current → current ≤ max_version → list_of of values current compacted at ≡ Ok text → IsUtf8 text
    → (revision : ℕ) × (revision_of current compacted values ≡ Ok revision) × IsReadAsPage wanted text revision (page_of of values (at revision))

pub list_read : TextsSayStates → AnswersAreRead → (wanted : Wanted) (types : List ServedShape) (m : History) (call : Call) (t : ServedShape) (kind : ℕ) (namespace : Option (List ℕ)) (values : Values) (revision : ℕ)
    → IsMachine types m → IsListing types call t kind namespace values → IsWanted wanted (collection_of t kind namespace) → revision_of m.current m.compacted values ≡ Ok revision
    → IsUtf8 (planned types m call).answer.body → IsReadAsPage wanted (planned types m call).answer.body revision (page_of (collection_of t kind namespace) values (state_at m.changes revision))
list_read say read wanted types m call t kind namespace values revision is lists asks at text =
    let of = collection_of t kind namespace in
    let history : IsHistory m = whole_is is.first m is.whole in
    let page = page_text of values revision m in
    let same : (planned types m call).answer.body ≡ page = ap (λ (p : Plan). p.answer.body) (page_planned types m call t kind namespace values lists revision at) in
    let found = read wanted of values m.current m.compacted (state_at m.changes) page asks
    (λ r low high. machine_keeps say types m t kind namespace r is lists.served) history.low history.high
    (text_is types m call t kind namespace values lists revision at) (subst IsUtf8 same text) in
    let own : found.0 ≡ revision = ap revision_or_zero (sym found.1 ∙ at) in
    subst (λ body. IsReadAsPage wanted body revision (page_of of values (state_at m.changes revision))) (sym same)
    (subst (λ r. IsReadAsPage wanted page r (page_of of values (state_at m.changes r))) own found.2)
