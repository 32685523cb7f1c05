-- At rest a Reconcile changes nothing, and rest lasts while what is counted and the object stand as they did.
use Rattle.std.proofs.Common.{◌≡◌, ℕ, suc, ◌+◌, List, [], ◌∷◌, ◌++◌, length, Option, Ok, Err, refl, sym, ap, ap₂, subst, ◌∙◌, append_assoc, arith}
use Rattle.std.specs.FinMap as fin
use Rattle.std.specs.Prelude.{is_some, slice_get}
use Rattle.std.specs.declared.result.Result.{Result}
use Rattle.api_types.specs.TypesFile.{ServedShape}
use Rattle.history.specs.History.{Key, Object, Objects as Standing, current_objects}
use Rattle.objects.specs.State.{State}
use Rattle.verbs.specs.Machine.{state_by}
use Rattle.api_request.specs.Calls.{Call}
use Rattle.requests.specs.Asks.{Asks}
use Rattle.requests.specs.Decision.{accepted}
use Rattle.indexer.specs.Objects.{Stored}
use Rattle.line_laws.specs.Listed.{AreReadAs}
use Rattle.decoder.specs.Wanted.{Wanted}
use Rattle.reflector.specs.Client.{Objects, by_place}
use Rattle.summary.specs.Apply.{apply_request}
use Rattle.summary.specs.Counts.{Summed, summed_of}
use Rattle.world_laws.specs.Headline.{Headline}
use Rattle.world_laws.specs.Reports.{IsStateAt, Report, Runs, reports_after}
use Rattle.world_laws.specs.Tasks.{Task, wanted_by}
use Rattle.world_laws.specs.World.{World, WorldEvent, start}
use Rattle.liveness_laws.proofs.CaughtUp.{objects_right}
use Rattle.liveness_laws.specs.BothEnds.{Lasts}
use Rattle.liveness_laws.specs.Listable.{listed_now}
use Rattle.settling_laws.specs.Applying.{AppliesAsk, AppliesStay, apply_call, state_at}
use Rattle.settling_laws.specs.Rest.{RestLasts, RestStays}
use Rattle.settling_laws.specs.Said.{with_counts}
use Rattle.settling_laws.specs.Settling.{IsUntouched, counts, place_key}
use Rattle.settling_laws.proofs.Reconciling.{end, leads, machine_after_run, others_stay}

-- ---- a client's objects are one thing

abbrev ok_or : {X E : Type 0} → X → Result X E → X
ok_or x (Ok y) = y
ok_or x (Err e) = x

same_ok : {X E : Type 0} (x y : X) → ◌≡◌ {A = Result X E} (Ok x) (Ok y) → x ≡ y
same_ok x y e = ap (ok_or x) e

one_reading : (wanted : Wanted) (es : List (Key × Object)) (xs ys : List Stored) → AreReadAs wanted es xs → AreReadAs wanted es ys → xs ≡ ys
one_reading wanted [] [] [] a b = refl
one_reading wanted [] [] (y ∷ ys) a b = absurd b
one_reading wanted [] (x ∷ xs) ys a b = absurd a
one_reading wanted (e ∷ es) [] ys a b = absurd a
one_reading wanted (e ∷ es) (x ∷ xs) [] a b = absurd b
one_reading wanted (e ∷ es) (x ∷ xs) (y ∷ ys) a b = ap₂ (λ z zs. z ∷ zs) (same_ok x y (sym a.0.is_read ∙ b.0.is_read)) (one_reading wanted es xs ys a.1 b.1)

one_state : (wanted : Wanted) (s : Standing) (o p : Objects) → IsStateAt wanted s o → IsStateAt wanted s p → o ≡ p
one_state wanted s o p a b = fin.same_entries_map o p (a.entries ∙ ap by_place (one_reading wanted (fin.entries s) a.all b.all a.read b.read) ∙ sym b.entries)

-- where the same stands, clients that have it count the same
pub counts_same : (task : Task) (s t : Standing) (o p : Objects) → t ≡ s → IsStateAt (wanted_by task) s o → IsStateAt (wanted_by task) t p → summed_of task.settings.label p ≡ summed_of task.settings.label o
counts_same task s t o p same a b = ap (summed_of task.settings.label) (one_state (wanted_by task) s p o (subst (λ (x : Standing). IsStateAt (wanted_by task) x p) same b) a)

-- ---- runs

pub runs_then : (task : Task) (i j : ℕ) (w mid v : World) (es fs : List WorldEvent) (rs qs : List Report) → j ≡ i + length es → Runs task i w es mid rs → Runs task j mid fs v qs → Runs task i w (es ++ fs) v (rs ++ qs)
runs_then task i j w mid v [] fs rs qs at (same, none) runs =
    subst (λ (l : List Report). Runs task i w fs v (l ++ qs)) (sym none) (subst (λ (x : World). Runs task i x fs v qs) same (subst (λ (n : ℕ). Runs task n mid fs v qs) (at ∙ zero_right i) runs))
  where
    zero_right : (i : ℕ) → i + 0 ≡ i
    zero_right i = omega arith
runs_then task i j w mid v (e ∷ es) fs rs qs at (next, others, steps, runs, are) later = (
  next,
  others ++ qs,
  steps,
  runs_then task (suc i) j next mid v es fs others qs (at ∙ further i (length es)) runs later,
  ap (λ (l : List Report). l ++ qs) are ∙ append_assoc (reports_after i w next) others qs,
)
  where
    further : (i n : ℕ) → i + suc n ≡ suc i + n
    further i n = omega arith

-- ---- the object

-- where it stands as it did it has the same content and owners
pub state_same : (task : Task) (kind : ℕ) (w v : World) → IsUntouched task kind w v → state_at v.hub.types v.hub.machine (place_key task kind) ≡ state_at w.hub.types w.hub.machine (place_key task kind)
state_same task kind w v same =
    ap (λ (ts : List ServedShape). state_by (slice_get ts kind) (fin.get (current_objects v.hub.machine) (place_key task kind))) same.types
    ∙ ap (λ (o : Option Object). state_by (slice_get w.hub.types kind) o) same.object

-- ---- the laws

pub rest_lasts : Headline → RestLasts
rest_lasts headline types task before between w v earlier later now next kind shapes is run rest on same then_kept then_current =
    let whole : Runs task 1 (start types) (before ++ between) v (earlier ++ later) = runs_then task 1 (suc (length before)) (start types) w v before between earlier later (omega arith) run on in
    let counted : counts task next ≡ counts task now =
    counts_same task (listed_now task w.hub.machine) (listed_now task v.hub.machine) now.objects next.objects same.counted
    (objects_right headline types task before w earlier now shapes is run rest.kept rest.current)
    (objects_right headline types task (before ++ between) v (earlier ++ later) next shapes is whole then_kept then_current) in
    let state = state_same task kind w v same in
    record {
      kept = then_kept;
      current = then_current;
      stands = ap is_some same.object ∙ rest.stands;
      said = ap₂ (λ (s : Summed) (x : State). with_counts s x) counted state ∙ rest.said ∙ sym state;
    }

pub rest_stays : AppliesAsk → AppliesStay → Lasts → RestStays
rest_stays ask stays lasts types task before w earlier now kind shapes run rest can =
    let s : Summed = counts task now in
    let bytes : List ℕ = apply_request s task.settings.summary.0 task.settings.summary.1 in
    let call : Call = apply_call kind s task.settings.summary in
    let asks : Asks w.hub.types bytes (accepted call) = ask w.hub.types kind s task.settings.summary can.serves can.named can.sayable can.fit in
    record {
      end = end task w now bytes call can.room asks;
      steps = leads task w now bytes call can.room asks rest.kept refl;
      machine =
          stays w.hub.types w.hub.machine w.hub.last_tick kind s task.settings.summary (machine_after_run lasts types task before w earlier shapes run) can.serves.served can.named can.sayable rest.stands rest.said;
      others = others_stay task w now bytes call can.room asks;
    }
