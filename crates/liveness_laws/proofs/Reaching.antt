-- From the world after any run a restart and the moves of the schedule lead to a report of the machine's current revision.
use Rattle.std.proofs.Common.{ℕ, suc, ◌<◌, ◌≤◌, List, length, arith, leb-true}
use Rattle.std.proofs.lemmas.Bool.{and_parts}
use Rattle.std.specs.Prelude.{nat_le}
use Rattle.api_types.specs.TypesFile.{ServedShape}
use Rattle.verbs.specs.Machine.{AreObjectTypes, IsMachine}
use Rattle.liveness_laws.proofs.Listed.{is_list_of}
use Rattle.liveness_laws.proofs.PageAnswers.{page_comes}
use Rattle.liveness_laws.proofs.Restart.{IsReady, report_comes, revision_comes}
use Rattle.liveness_laws.specs.BothEnds.{Lasts, PagesAreAnswered}
use Rattle.liveness_laws.specs.Listable.{FitsIn, HasRoom, IsListable, listed_now}
use Rattle.liveness_laws.specs.Progress.{ListsComeAnew, ReportsCanCome}
use Rattle.world_laws.proofs.HubRuns.{runs_run}
use Rattle.world_laws.proofs.TaskObjects.{selected_read}
use Rattle.world_laws.specs.Reports.{Report, Runs}
use Rattle.world_laws.specs.Tasks.{IsStillTask, IsTask, Task, wanted_by, with_shape}
use Rattle.world_laws.specs.World.{World, WorldEvent, start}

some_page : (types : List ServedShape) (task : Task) → IsTask types task → 0 < task.settings.page
some_page types task is = let low : 1 ≤ task.settings.page = leb-true 1 task.settings.page (and_parts (nat_le 1 task.settings.page) (nat_le task.settings.page 500) is.page).0 in omega (arith, low)

-- the world after a run has a machine, and the task is one over the types that are served now
pub record IsAfterRun (task : Task) (w : World) : Type 0 where
  pub machine : IsMachine w.hub.types w.hub.machine
  pub still : IsStillTask w.hub.types task

pub after_run : Lasts → (types : List ServedShape) (task : Task) (before : List WorldEvent) (w : World) (earlier : List Report) → AreObjectTypes types → IsTask types task → Runs task 1 (start types) before w earlier
    → IsAfterRun task w
after_run lasts types task before w earlier shapes is run =
    let led = runs_run task 1 (start types) before w earlier run in
    record {
      machine = lasts.machines (start types).hub w.hub led.0 (lasts.begins types shapes) led.1;
      still = lasts.tasks (start types).hub w.hub led.0 task (task.t.shape, is) led.1;
    }

-- it is ready for the list
pub ready : PagesAreAnswered → (task : Task) (w : World) (pages : ℕ) → IsAfterRun task w → FitsIn task w.hub.machine pages → IsListable task w.hub.machine → HasRoom w.hub.connections pages → IsReady task w pages
ready laws task w pages after held listable room =
    let types : List ServedShape = w.hub.types in
    let shaped : Task = with_shape task after.still.0 in
    record {
      some = some_page types shaped after.still.1;
      fits = is_list_of (wanted_by task) task.settings.kind (listed_now task w.hub.machine) (selected_read types shaped after.still.1 w.hub.machine after.machine w.hub.machine.current) listable.few;
      comes = page_comes laws task w.hub after.still.0 after.still.1 after.machine listable;
      held = held;
      room = room;
    }

pub reports_come : PagesAreAnswered → Lasts → ReportsCanCome
reports_come laws lasts types task before w earlier pages shapes is run held listable room =
    report_comes task w (suc (length before)) pages (ready laws task w pages (after_run lasts types task before w earlier shapes is run) held listable room)

pub lists_come : PagesAreAnswered → Lasts → ListsComeAnew
lists_come laws lasts types task before w earlier pages shapes is run silent anew behind held listable room =
    revision_comes task w (suc (length before)) pages silent anew behind (ready laws task w pages (after_run lasts types task before w earlier shapes is run) held listable room)
