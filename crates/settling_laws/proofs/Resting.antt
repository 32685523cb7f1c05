-- Catching up and reconciling comes to rest.
use Rattle.std.proofs.Common.{◌≡◌, ◌≢◌, ℕ, suc, ◌+◌, List, [], ◌∷◌, ◌++◌, length, refl, ap, subst, arith, length-append}
use Rattle.std.specs.FinMap as fin
use Rattle.api_types.specs.TypesFile.{ServedShape}
use Rattle.history.specs.History.{History, current_objects}
use Rattle.verbs.specs.Machine.{AreObjectTypes}
use Rattle.world_laws.specs.Reports.{Report, Runs, reports_after}
use Rattle.world_laws.specs.Tasks.{IsTask, Task}
use Rattle.world_laws.specs.World.{World, WorldEvent, reconcile, start}
use Rattle.liveness_laws.proofs.Restart.{pursues_run}
use Rattle.liveness_laws.proofs.CaughtUp.{current_so}
use Rattle.liveness_laws.specs.Leading.{CatchesUp, IsCaughtUp, ServerStays}
use Rattle.liveness_laws.specs.Listable.{HasRoom, listed_now}
use Rattle.settling_laws.specs.Resting.{CanCatchUp, Catches, ComesToRestInSteps, ReconcilesToRest, Rests}
use Rattle.settling_laws.specs.Settling.{CanReconcile, IsUntouched, SettledStays, Settles, SettlesTo, StaysSettled, place_key}
use Rattle.settling_laws.proofs.Rest.{runs_then}

-- where the machine and its types stay nothing is touched
pub untouched : (task : Task) (kind : ℕ) (w v : World) → ServerStays w v → IsUntouched task kind w v
untouched task kind w v stays = record {
  counted = ap (listed_now task) stays.0;
  object = ap (λ (m : History). fin.get (current_objects m) (place_key task kind)) stays.0;
  types = stays.1;
}

module _ (catches : CatchesUp) (settles : Settles) (stays : SettledStays) (types : List ServedShape) (task : Task) (kind : ℕ) (shapes : AreObjectTypes types) (is : IsTask types task) (apart : kind ≢ task.settings.kind) where
  catch : (before : List WorldEvent) (w : World) (earlier : List Report) (pages : ℕ) → Runs task 1 (start types) before w earlier → CanCatchUp task w pages → Catches task (suc (length before)) w pages
  catch before w earlier pages run can = catches types task before w earlier pages shapes is run can.fits can.listable can.room

  module _ (before : List WorldEvent) (w : World) (earlier : List Report) (run : Runs task 1 (start types) before w earlier) (found : IsCaughtUp task w) where
    rests : (can : CanReconcile task kind w found.now) (settled : SettlesTo task kind w found.now) → Rests task (suc (suc (length before))) settled.end
    rests can settled pages ready =
        let i : ℕ = suc (length before) in
        let whole : Runs task 1 (start types) (before ++ reconcile ∷ []) settled.end (earlier ++ (reports_after i w settled.end ++ [])) =
        runs_then task 1 i (start types) w settled.end before (reconcile ∷ []) earlier (reports_after i w settled.end ++ []) (omega arith) run (settled.end, [], settled.steps, (refl, refl), refl) in
        let caught : Catches task (suc (length (before ++ reconcile ∷ []))) settled.end pages = catch (before ++ reconcile ∷ []) settled.end (earlier ++ (reports_after i w settled.end ++ [])) pages whole ready in
        let numbered : Catches task (suc i) settled.end pages = subst (λ (n : ℕ). Catches task n settled.end pages) (one_longer before) caught in
        (numbered, λ room. by_run can settled pages numbered room)
      where
        one_longer : (es : List WorldEvent) → suc (length (es ++ reconcile ∷ [])) ≡ suc (suc (length es))
        one_longer es = let both : length (es ++ reconcile ∷ []) ≡ length es + 1 = length-append es (reconcile ∷ []) in omega (arith, both)

        by_run : (can : CanReconcile task kind w found.now) (settled : SettlesTo task kind w found.now) (pages : ℕ) (caught : Catches task (suc (suc (length before))) settled.end pages) → HasRoom caught.end.hub.connections 1 → StaysSettled task caught.end
        by_run can settled pages caught room =
            stays types task before caught.moves w settled.end caught.end earlier caught.reports found.now caught.goal.now kind shapes is apart run found.kept (current_so task w found) can settled.steps
            (pursues_run task (suc (suc (length before))) settled.end caught.moves caught.end caught.reports caught.pursues) (untouched task kind settled.end caught.end caught.server) caught.goal.kept (current_so task caught.end caught.goal) room

    reconciled : ReconcilesToRest task kind (suc (length before)) w
    reconciled = record {
      now = found.now;
      kept = found.kept;
      settles = λ can.
          let settled : SettlesTo task kind w found.now = settles types task before w earlier found.now kind shapes is run found.kept (current_so task w found) can in
          (settled, rests can settled);
    }

  come : (before : List WorldEvent) (w : World) (earlier : List Report) (pages : ℕ) → Runs task 1 (start types) before w earlier → CanCatchUp task w pages
      → (caught : Catches task (suc (length before)) w pages) × ReconcilesToRest task kind (suc (length before) + length caught.moves) caught.end
  come before w earlier pages run can =
      let caught : Catches task (suc (length before)) w pages = catch before w earlier pages run can in
      (caught, by_run caught)
    where
      by_run : (caught : Catches task (suc (length before)) w pages) → ReconcilesToRest task kind (suc (length before) + length caught.moves) caught.end
      by_run caught =
          subst (λ (n : ℕ). ReconcilesToRest task kind n caught.end) (let both : length (before ++ caught.moves) ≡ length before + length caught.moves = length-append before caught.moves in omega (arith, both))
          (reconciled (before ++ caught.moves) caught.end (earlier ++ caught.reports)
          (runs_then task 1 (suc (length before)) (start types) w caught.end before caught.moves earlier caught.reports (omega arith) run
          (pursues_run task (suc (length before)) w caught.moves caught.end caught.reports caught.pursues)) caught.goal)

pub comes_to_rest : CatchesUp → Settles → SettledStays → ComesToRestInSteps
comes_to_rest catches settles stays types task before w earlier pages kind shapes is apart run can = come catches settles stays types task kind shapes is apart before w earlier pages run can
