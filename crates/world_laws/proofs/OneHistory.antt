-- Reports that are right of the machine as it was are right of the machine as it is later.
use Rattle.std.proofs.Common.{◌≡◌, ℕ, suc, ◌≤◌, Bool, true, false, List, [], ◌∷◌, ◌++◌, Option, Some, None, sym, ap, subst, arith}
use Rattle.std.specs.FinMap as fin
use Rattle.std.specs.Prelude.{nat_lt, if◌then◌else◌}
use Rattle.history.specs.History.{changed, up_to}
use Rattle.history.specs.Seen.{selected}
use Rattle.httpedge.specs.Runs as runs
use Rattle.httpedge.specs.Steps.{State}
use Rattle.reflector.specs.Client.{Cache}
use Rattle.world_laws.proofs.HubRuns.{runs_run}
use Rattle.world_laws.specs.Headline.{AreOfHistory}
use Rattle.world_laws.specs.Reports.{AreRight, IsRight, IsStateAt, Report, Runs, reports_between}
use Rattle.world_laws.specs.Tasks.{Task, selected_at, selection, wanted_by}
use Rattle.world_laws.specs.World.{World, WorldEvent}

-- what the hub says of its history over events in turn
pub record Grows : Type 0 where
  pub all : (s t : State) (hs : List runs.Action) → runs.Runs s hs t → runs.HasGrown s t
  pub stays : (s t : State) (r : ℕ) → runs.HasGrown s t → r ≤ s.machine.current → up_to r t.machine.changes ≡ up_to r s.machine.changes

module _ (grows : Grows) (task : Task) where
  right_later : (s t : State) (lo : ℕ) (now : Cache) → runs.HasGrown s t → IsRight task lo s.machine now → IsRight task lo t.machine now
  right_later s t lo now grown is =
      let high = is.high in
      let current = grown.current in
      let same : selected_at task t.machine now.revision ≡ selected_at task s.machine now.revision = ap (λ cs. selected (selection task) (changed fin.empty cs)) (grows.stays s t now.revision grown is.high) in
      record {
        low = is.low;
        high = omega (arith, high, current);
        objects = subst (λ all. IsStateAt (wanted_by task) all now.objects) (sym same) is.objects;
      }

  one_later : (s t : State) (i lo : ℕ) (now : Cache) (others : List Report) → runs.HasGrown s t → ((lo : ℕ) → AreRight task lo others → AreOfHistory task lo t.machine others)
      → AreRight task lo (record { event = i; machine = s.machine; now = now } ∷ others) → AreOfHistory task lo t.machine (record { event = i; machine = s.machine; now = now } ∷ others)
  one_later s t i lo now others grown rest (is, are) = (right_later s t lo now grown is, rest now.revision are)

  between_later : (s t : State) (i lo : ℕ) (was now : Option Cache) (others : List Report) → runs.HasGrown s t → ((lo : ℕ) → AreRight task lo others → AreOfHistory task lo t.machine others)
      → AreRight task lo (reports_between i s.machine was now ++ others) → AreOfHistory task lo t.machine (reports_between i s.machine was now ++ others)
  between_later s t i lo was None others grown rest are = rest lo are
  between_later s t i lo None (Some now) others grown rest are = one_later s t i lo now others grown rest are
  between_later s t i lo (Some was) (Some now) others grown rest are = go (nat_lt was.revision now.revision) are
    where
      some : Bool → List Report
      some b = (if b then record { event = i; machine = s.machine; now = now } ∷ [] else []) ++ others

      go : (b : Bool) → AreRight task lo (some b) → AreOfHistory task lo t.machine (some b)
      go true are = one_later s t i lo now others grown rest are
      go false are = rest lo are

  pub of_one_history : (i lo : ℕ) (w : World) (es : List WorldEvent) (v : World) (reports : List Report) → Runs task i w es v reports → AreRight task lo reports → AreOfHistory task lo v.hub.machine reports
  of_one_history i lo w [] v reports (same, none) are = subst (AreOfHistory task lo v.hub.machine) (sym none) tt
  of_one_history i lo w (e ∷ es) v reports (mid, others, steps, rest, is) are =
      let runs = runs_run task (suc i) mid es v others rest in
      subst (AreOfHistory task lo v.hub.machine) (sym is)
      (between_later mid.hub v.hub i lo w.client.cache mid.client.cache others (grows.all mid.hub v.hub runs.0 runs.1) (λ lo right. of_one_history (suc i) lo mid es v others rest right) (subst (AreRight task lo) is are))
