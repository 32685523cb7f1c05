-- What a call changes, and what it leaves.
use Rattle.std.proofs.Common.{◌≡◌, ℕ, suc, Bool, true, false, cond, List, [], ◌∷◌, Option, Some, None, Ok, Err, refl, sym, ap, subst, ◌∙◌}
use Rattle.std.specs.Prelude.{slice_get}
use Rattle.std.specs.FinMap as fin
use Rattle.std.specs.declared.result.Result.{Result}
use Rattle.lists.specs.declared.refusal.Refusal.{Refusal}
use Rattle.params.specs.declared.params.Asked.TheVariants as asked
use Rattle.api_types.specs.TypesFile.{ServedShape}
use Rattle.history.specs.History.{Change, History, Key, Objects, is_same_key, object_by, current_objects}
use Rattle.history.proofs.Keys.{get-put_or_remove, tied}
use Rattle.api_request.specs.Calls.{Answer, Call, Plan, Scope, of_all, of_namespace, of_object, Target, of_objects, of_document, type_at, verb_of}
use Rattle.verbs.specs.Machine.{AreNext, IsMachine, after}
use Rattle.api_request.specs.declared.verb.Verb.{Verb}
use Rattle.api_request.specs.declared.verb.Verb.TheVariants.{Get}
use Rattle.api_validation.specs.Parameters.{parameters_for}
use Rattle.verbs.specs.DryRuns.{is_dry_run, run_by}
use Rattle.verbs.specs.PromiseLaws.{AtMostOne, CallsChangeOneObject, DryRunsChangeNothing, GetsChangeNothing, IsCalled, OthersAreRun, RefusalsChangeNothing}
use Rattle.verbs.specs.Step.{collection_of, get_plan, key_at, list_answered, list_plan, object_at, plan_for, planned, shown_by, require_found, dispatch_type, dispatch_scope, dispatch_call, version_reached, dispatch_target}
use Rattle.api_request.specs.Validated.{Validated}
use Rattle.watchline.specs.Watches.{HistoryWindow, from_history}
use Rattle.verbs.proofs.Changes.{current_objects_next}
use Rattle.verbs.proofs.Runs.{changes_of_run}
use Rattle.api_request.proofs.Checks.{changes_in, no_err, passed, detailed_ok}
use Rattle.discovery.specs.Paths.{text_in}
use Rattle.verbs.proofs.Documents.{document_none}
use Rattle.verbs.proofs.Fits.{Fits, planned_fits}
use Rattle.verbs.proofs.Promise.{plans_come_next}

pub refusals_change_nothing : RefusalsChangeNothing
refusals_change_nothing types m call d e =
    changes_of_run (λ c. after m c ≡ m) (is_dry_run (type_at types call.target) call) (current_objects m) (plan_for (dispatch_call types (from_history m) call)) refl
    (ap (λ (j : Validated Plan). after m (plan_for j).changes) e)

-- ---- a GET

module _ (s : HistoryWindow) (call : Call) where
  got_none : (t : ServedShape) (k : Key) (p : Plan) → get_plan t s.current (object_at s k) k call.query ≡ Ok p → [] ≡ p.changes
  got_none t k p e =
      let values = passed (parameters_for t asked.Get call.query) _ p e in
      let o = passed (require_found t k.name (object_at s k)) _ p values.2 in
      let come = passed (version_reached values.0.version s.current) _ p o.2 in
      ap changes_in come.2

  listed_none : (t : ServedShape) (kind : ℕ) (namespace : Option (List ℕ)) (p : Plan) → list_plan t s kind namespace call.query ≡ Ok p → [] ≡ p.changes
  listed_none t kind namespace p e =
      let values = passed (parameters_for t asked.List call.query) _ p e in
      answered (shown_by s (collection_of t kind namespace) values.0 values.0.watch) values.2
    where
      answered : (r : Result Answer Refusal) → list_answered r ≡ Ok p → [] ≡ p.changes
      answered (Ok answer) f = ap changes_in f
      answered (Err refusal) f = no_err _ p f

  by_none : (t : ServedShape) (kind : ℕ) (scope : Scope) (p : Plan) → dispatch_scope scope Get t kind s call ≡ Ok p → [] ≡ p.changes
  by_none t kind of_all p e = listed_none t kind None p e
  by_none t kind (of_namespace namespace) p e = listed_none t kind (Some namespace) p e
  by_none t kind (of_object namespace name subresource) p e = got_none t (key_at kind namespace name) p (detailed_ok t (Some name) _ p e)

  type_none : (found : Option ServedShape) (kind : ℕ) (scope : Scope) (p : Plan) → dispatch_type found kind scope Get s call ≡ Ok p → [] ≡ p.changes
  type_none None kind scope p e = no_err _ p e
  type_none (Some t) kind scope p e = by_none t kind scope p e

  target_none : (types : List ServedShape) (target : Target) (p : Plan) → verb_of target ≡ Get → dispatch_target types target s call ≡ Ok p → [] ≡ p.changes
  target_none types (of_objects kind scope verb) p is e = type_none (slice_get types kind) kind scope p (subst (λ (w : Verb). dispatch_type (slice_get types kind) kind scope w s call ≡ Ok p) is e)
  target_none types (of_document document) p is e = document_none (text_in types document) p e

  plans_none : (types : List ServedShape) (j : Validated Plan) → verb_of call.target ≡ Get → dispatch_call types s call ≡ j → [] ≡ (plan_for j).changes
  plans_none types (Err d) is e = refl
  plans_none types (Ok p) is e = target_none types call.target p is e

pub gets_change_nothing : GetsChangeNothing
gets_change_nothing types m call is =
    changes_of_run (λ c. after m c ≡ m) (is_dry_run (type_at types call.target) call) (current_objects m) (plan_for (dispatch_call types (from_history m) call)) refl
    (ap (after m) (sym (plans_none (from_history m) call types (dispatch_call types (from_history m) call) is refl)))

-- ---- a dry run

pub dry_runs_change_nothing : DryRunsChangeNothing
dry_runs_change_nothing types m call is = ap (λ (b : Bool). after m (run_by b (current_objects m) (plan_for (dispatch_call types (from_history m) call))).changes) is

pub others_are_run : OthersAreRun
others_are_run types m call is = ap (λ (b : Bool). run_by b (current_objects m) (plan_for (dispatch_call types (from_history m) call))) is

-- ---- the object that a call changes

other_key : (j k : Key) → ¬ (j ≡ k) → is_same_key j k ≡ false
other_key j k apart = go (is_same_key j k) refl
  where
    go : (b : Bool) → is_same_key j k ≡ b → is_same_key j k ≡ false
    go true same = absurd (apart (tied j k same))
    go false same = same

others_stay : (types : List ServedShape) (m : History) (Q : Key → Type 0) (cs : List Change) → IsMachine types m → Fits m.current (current_objects m) Q cs → AreNext types m cs
    → AtMostOne (λ c. Q c.key × ((k : Key) → ¬ (k ≡ c.key) → fin.get (current_objects (after m cs)) k ≡ fin.get (current_objects m) k)) cs
others_stay types m Q [] is fits next = tt
others_stay types m Q (c ∷ d ∷ cs) is fits next = absurd fits
others_stay types m Q (c ∷ []) is fits next =
    let made = object_by (suc m.current) c.body in (
      fits.2,
      λ k apart.
          ap (λ (s : Objects). fin.get s k) (current_objects_next types m c is next.0)
          ∙ get-put_or_remove (current_objects m) c.key made k
          ∙ ap (λ b. cond b made (fin.get (current_objects m) k)) (other_key k c.key apart),
    )

pub calls_change_one_object : CallsChangeOneObject
calls_change_one_object types m call is json =
    others_stay types m (IsCalled call) (planned types m call).changes is (planned_fits (from_history m) call types) (plans_come_next types m call is json)
