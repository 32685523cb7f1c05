-- Whatever happens, what the client keeps and reports is what the machine had.
use Rattle.std.specs.Prelude.{ℕ, List, [], ◌∷◌, ⊤}
use Rattle.api_types.specs.TypesFile.{ServedShape}
use Rattle.history.specs.History.{History}
use Rattle.verbs.specs.Machine.{AreObjectTypes}
use Rattle.world_laws.specs.Tasks.{IsTask, Task}
use Rattle.world_laws.specs.Reports.{AreRight, IsKeptRight, IsRight, Report, Runs, last_reported}
use Rattle.world_laws.specs.World.{World, WorldEvent, start}

-- For every list of events, from the start: each report of a revision has exactly the machine's objects of that revision, and no report
-- is of a lower revision than one before it; and what the client keeps after the last event is the machine's of its revision, which is
-- not below that of the last report. A prefix of a run is a run, so the second holds at each moment. The types are those of the start;
-- events may serve others.
abbrev pub Headline : Type 0
Headline =
    (types : List ServedShape) (task : Task) (es : List WorldEvent) (v : World) (reports : List Report)
    → AreObjectTypes types → IsTask types task → Runs task 1 (start types) es v reports
    → AreRight task 1 reports × IsKeptRight task (last_reported 1 reports) v.hub.machine v.client.cache

-- each report has exactly this one history's objects of its revision, and no report is of a lower revision than one before it
abbrev pub AreOfHistory : Task → ℕ → History → List Report → Type 0
AreOfHistory task lo machine [] = ⊤
AreOfHistory task lo machine (r ∷ rs) = IsRight task lo machine r.now × AreOfHistory task r.now.revision machine rs

-- For every list of events, from the start: all reports are of the history as it is at the end.
abbrev pub OneHistory : Type 0
OneHistory =
    (types : List ServedShape) (task : Task) (es : List WorldEvent) (v : World) (reports : List Report)
    → AreObjectTypes types → IsTask types task → Runs task 1 (start types) es v reports → AreOfHistory task 1 v.hub.machine reports
