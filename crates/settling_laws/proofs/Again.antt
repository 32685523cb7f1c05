-- A Reconcile after another: nothing changes.
use Rattle.std.proofs.Common.{◌≡◌, ◌≢◌, ℕ, suc, ◌&&◌, Bool, true, false, cond, List, ◌∷◌, ◌++◌, length, Option, Some, None, refl, sym, ap, ap₂, subst, ◌∙◌, arith, ne_eqb, true≢false}
use Rattle.std.specs.Prelude.{is_some}
use Rattle.std.specs.FinMap as fin
use Rattle.api_types.specs.TypesFile.{ServedShape}
use Rattle.history.specs.History.{History, Key, Object, current_objects, is_same_key}
use Rattle.history.specs.Page.{is_in_namespace}
use Rattle.history.proofs.Keys as keys
use Rattle.history.proofs.Selecting.{get-selected, kept_object}
use Rattle.objects.specs.State.{State}
use Rattle.verbs.specs.Machine.{AreObjectTypes}
use Rattle.lists.specs.Labels.{attributes_of}
use Rattle.selector.specs.Requirement.{selects}
use Rattle.reflector.specs.Client.{Cache}
use Rattle.summary.specs.Counts.{Summed}
use Rattle.world_laws.specs.Headline.{Headline}
use Rattle.world_laws.specs.Reports.{Report, Runs, reports_after}
use Rattle.world_laws.specs.Tasks.{IsTask, Task, selection}
use Rattle.world_laws.specs.World.{Steps, World, WorldEvent, reconcile, start}
use Rattle.liveness_laws.proofs.CaughtUp.{objects_right}
use Rattle.liveness_laws.specs.BothEnds.{Lasts}
use Rattle.liveness_laws.specs.Listable.{HasRoom, listed_now}
use Rattle.world_laws.specs.Moves.{is_current}
use Rattle.settling_laws.specs.Applying.{FitIntoBody, HasCounts, ServesSummaries, state_at}
use Rattle.settling_laws.specs.Rest.{IsAtRest, RestStays, SettledRests}
use Rattle.settling_laws.specs.Said.{AppliedStay, IsSayable, with_counts}
use Rattle.settling_laws.specs.Settling.{CanReconcile, IsUntouched, SettledStays, Settles, SettlesTo, StaysSettled, counts, place_key}
use Rattle.settling_laws.proofs.Applied.{same_key}
use Rattle.settling_laws.proofs.Reconciling.{sayable_at}
use Rattle.settling_laws.proofs.Rest.{counts_same, runs_then, state_same}

-- ---- what is counted stands as it did

module _ (task : Task) (kind : ℕ) (apart : kind ≢ task.settings.kind) where
  -- the object isn't one of those that are counted
  unselected : (body : List ℕ) → selection task (place_key task kind) body ≡ false
  unselected body =
      ap (λ (b : Bool). (b && is_in_namespace task.settings.namespace (place_key task kind)) && selects task.requirements (attributes_of (place_key task kind) body)) (ne_eqb kind task.settings.kind apart)

  abbrev kept : Key → Option Object → Option Object
  kept = kept_object (selection task)

  pub same_listed : (types : List ServedShape) (m after : History) (s : Summed) → HasCounts types m after (place_key task kind) s → listed_now task after ≡ listed_now task m
  same_listed types m after s has = keys.same (listed_now task after) (listed_now task m) (λ q. by_key q (is_same_key q (place_key task kind)) refl)
    where
      none : (o : Option Object) → kept (place_key task kind) o ≡ None
      none None = refl
      none (Some o) = ap (λ (b : Bool). cond b (Some o) None) (unselected o.body)

      either_way : (q : Key) → kept q (fin.get (current_objects after) q) ≡ kept q (fin.get (current_objects m) q) → fin.get (listed_now task after) q ≡ fin.get (listed_now task m) q
      either_way q same = get-selected (selection task) (current_objects after) q ∙ same ∙ sym (get-selected (selection task) (current_objects m) q)

      by_key : (q : Key) (b : Bool) → is_same_key q (place_key task kind) ≡ b → fin.get (listed_now task after) q ≡ fin.get (listed_now task m) q
      by_key q true is =
          let same : q ≡ place_key task kind = keys.tied q (place_key task kind) is in
          either_way q
          (subst (λ (k : Key). kept k (fin.get (current_objects after) k) ≡ kept k (fin.get (current_objects m) k)) (sym same)
          (none (fin.get (current_objects after) (place_key task kind)) ∙ sym (none (fin.get (current_objects m) (place_key task kind)))))
      by_key q false is = either_way q (ap (kept q) (has.others q (λ same. true≢false (sym (same_key (place_key task kind)) ∙ ap (λ (k : Key). is_same_key k (place_key task kind)) (sym same) ∙ is))))

-- ---- the law

-- a Reconcile leads to one world
abbrev pub OneStep : Type 0
OneStep = (task : Task) (w v u : World) → Steps task w reconcile v → Steps task w reconcile u → v ≡ u

module _ (again : AppliedStay) (headline : Headline) (types : List ServedShape) (task : Task) (kind : ℕ) (shapes : AreObjectTypes types) (is : IsTask types task) (apart : kind ≢ task.settings.kind)
    (w mid v : World) (now next : Cache) (first : SettlesTo task kind w now) (led : first.end ≡ mid) (same : IsUntouched task kind mid v)
    (events : List WorldEvent) (reports : List Report) (run : Runs task 1 (start types) events v reports) (kept : v.client.cache ≡ Some next) (current : is_current v ≡ true) where
  abbrev k : Key
  k = place_key task kind

  has : HasCounts w.hub.types w.hub.machine mid.hub.machine k (counts task now)
  has = subst (λ (x : World). HasCounts w.hub.types w.hub.machine x.hub.machine k (counts task now)) led first.counted

  pub types_same : mid.hub.types ≡ w.hub.types
  types_same = subst (λ (x : World). x.hub.types ≡ w.hub.types) led first.types

  -- the client counts what it counted before
  pub counted : counts task next ≡ counts task now
  counted =
      counts_same task (listed_now task w.hub.machine) (listed_now task v.hub.machine) now.objects next.objects
      (same.counted ∙ same_listed task kind apart w.hub.types w.hub.machine mid.hub.machine (counts task now) has) first.objects
      (objects_right headline types task events v reports next shapes is run kept current)

  state_is : state_at v.hub.types v.hub.machine k ≡ with_counts (counts task now) (state_at w.hub.types w.hub.machine k)
  state_is = state_same task kind mid v same ∙ ap (λ (ts : List ServedShape). state_at ts mid.hub.machine k) types_same ∙ has.state

  pub at_rest : IsAtRest task kind v next
  at_rest = record {
    kept = kept;
    current = current;
    stands = ap is_some same.object ∙ has.stands;
    said = ap₂ (λ (s : Summed) (x : State). with_counts s x) counted state_is ∙ again (counts task now) (state_at w.hub.types w.hub.machine k) ∙ sym state_is;
  }

module _ (again : AppliedStay) (settles : Settles) (one : OneStep) (lasts : Lasts) (headline : Headline) (types : List ServedShape) (task : Task) (before between : List WorldEvent) (w mid v : World) (earlier later : List Report)
    (now next : Cache) (kind : ℕ) (shapes : AreObjectTypes types) (is : IsTask types task) (apart : kind ≢ task.settings.kind) (run : Runs task 1 (start types) before w earlier)
    (kept : w.client.cache ≡ Some now) (current : is_current w ≡ true) (can : CanReconcile task kind w now) (steps : Steps task w reconcile mid) (on : Runs task (suc (suc (length before))) mid between v later)
    (same : IsUntouched task kind mid v) (then_kept : v.client.cache ≡ Some next) (then_current : is_current v ≡ true) where
  first : SettlesTo task kind w now
  first = settles types task before w earlier now kind shapes is run kept current can

  led : first.end ≡ mid
  led = one task w first.end mid first.steps steps

  abbrev events : List WorldEvent
  events = before ++ reconcile ∷ between

  abbrev reports : List Report
  reports = earlier ++ (reports_after (suc (length before)) w mid ++ later)

  whole : Runs task 1 (start types) events v reports
  whole = runs_then task 1 (suc (length before)) (start types) w v before (reconcile ∷ between) earlier (reports_after (suc (length before)) w mid ++ later) (omega arith) run (mid, later, steps, on, refl)

  rests : IsAtRest task kind v next
  rests = at_rest again headline types task kind shapes is apart w mid v now next first led same events reports whole then_kept then_current

  counts_as_before : counts task next ≡ counts task now
  counts_as_before = counted again headline types task kind shapes is apart w mid v now next first led same events reports whole then_kept then_current

  stays : RestStays → HasRoom v.hub.connections 1 → StaysSettled task v
  stays rest room =
      let types_as_before : mid.hub.types ≡ w.hub.types = types_same again headline types task kind shapes is apart w mid v now next first led same events reports whole then_kept then_current in
      rest types task events v reports next kind shapes whole rests (record {
        serves = subst (λ (ts : List ServedShape). ServesSummaries ts kind) (sym (same.types ∙ types_as_before)) can.serves;
        named = can.named;
        sayable = subst IsSayable (sym counts_as_before) (sayable_at lasts types task kind before w earlier now shapes run can first.objects);
        fit = subst (λ (s : Summed). FitIntoBody s task.settings.summary) (sym counts_as_before) can.fit;
        room = room;
      })

pub settled_rests : AppliedStay → Settles → OneStep → Lasts → Headline → SettledRests
settled_rests again settles one lasts headline types task before between w mid v earlier later now next kind shapes is apart run kept current can steps on same then_kept then_current =
    rests again settles one lasts headline types task before between w mid v earlier later now next kind shapes is apart run kept current can steps on same then_kept then_current

pub settled_stays : RestStays → AppliedStay → Settles → OneStep → Lasts → Headline → SettledStays
settled_stays rest again settles one lasts headline types task before between w mid v earlier later now next kind shapes is apart run kept current can steps on same then_kept then_current room =
    stays again settles one lasts headline types task before between w mid v earlier later now next kind shapes is apart run kept current can steps on same then_kept then_current rest room
