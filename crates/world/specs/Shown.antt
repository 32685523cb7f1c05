-- What a trace shows of the client of a run, copy by copy.
use Rattle.std.specs.Prelude.{◌≡◌, ℕ, List, [], ◌∷◌, map, string_bytes, ⊤}
use Rattle.std.specs.FinMap as fin
use Rattle.std.specs.List.{All}
use Rattle.indexer.specs.Objects.{Stored, shared_of}
use Rattle.reflector.specs.MirrorViews.{keyed}
use Rattle.reflector.specs.MirrorRepresentsViews.{keys_in}
use Rattle.summary.specs.Counts.{counts_of}
use Rattle.summary.specs.Summary.{counts_in}
use Rattle.api_types.specs.TypesFile.{ServedShape}
use Rattle.world_laws.specs.Reports.{AreRight, Report, Runs}
use Rattle.world_laws.specs.Tasks.{IsTask, RunSettings, Task}
use Rattle.world_laws.specs.World.{World, WorldEvent, replies, start}
use Rattle.world.specs.Views.{reply_seen}
use Rattle.world.specs.Shots.{ShowsIndex}
use Rattle.world.specs.declared.trace.Report as shown
use Rattle.world.specs.declared.trace.Trace.{Trace}

-- the report of the client's revision and objects after an event: its objects in order, each index by its name, and its counts by the label
pub record Shows {I : Type 0} (keys : I → Stored → List (List ℕ)) (indexes : List I) (names : List (List ℕ)) (label : List ℕ) (x : shown.Report) (r : Report) : Type 0 where
  pub event : x.event ≡ r.event
  pub revision : x.revision ≡ r.now.revision
  pub objects : map shared_of x.objects.items ≡ map (λ e. e.1) (fin.entries r.now.objects)
  pub named : map (λ s. string_bytes s.name) x.indexes.items ≡ names
  pub shots : All (ShowsIndex (keyed (keys_in keys indexes) r.now.objects) names) x.indexes.items
  pub counts : counts_in x.counts ≡ counts_of label r.now.objects

-- one for one and in order
abbrev pub AllShow : {I : Type 0} → (I → Stored → List (List ℕ)) → List I → List (List ℕ) → List ℕ → List shown.Report → List Report → Type 0
AllShow keys indexes names label [] [] = ⊤
AllShow keys indexes names label [] (r ∷ rs) = ⊥
AllShow keys indexes names label (x ∷ xs) [] = ⊥
AllShow keys indexes names label (x ∷ xs) (r ∷ rs) = Shows keys indexes names label x r × AllShow keys indexes names label xs rs

-- all that was written on each connection, those that were opened for requests, and the reports
pub record Traces {I : Type 0} (keys : I → Stored → List (List ℕ)) (indexes : List I) (names : List (List ℕ)) (label : List ℕ) (w : World) (emitted : List Report) (t : Trace) : Type 0 where
  pub written : map reply_seen t.written.items ≡ replies w
  pub requested : t.requested.items ≡ w.requested
  pub reports : AllShow keys indexes names label t.reports.items emitted

-- the events lead from the start to an end, and the trace shows what was written and what the client had: the task is that of the settings,
-- and each report is right of the machine as it was after its event
pub record ShowsRun {I : Type 0} (keys : I → Stored → List (List ℕ)) (indexes : List I) (names : List (List ℕ)) (types : List ServedShape) (settings : RunSettings) (events : List WorldEvent) (t : Trace) : Type 0 where
  pub task : Task
  pub lawful : IsTask types task
  pub asked : task.settings ≡ settings
  pub end : World
  pub reports : List Report
  pub runs : Runs task 1 (start types) events end reports
  pub shows : Traces keys indexes names settings.label end reports t
  pub right : AreRight task 1 reports
