-- What a run shows: the whole promise of `run`, said of what it hands out.
use Rattle.std.specs.Prelude.{◌≡◌, ◌≤◌, ℕ, List, map, string_bytes}
use Rattle.std.specs.Cmp.Lexicographic.{slice_cmp}
use Rattle.std.specs.FinMap as fin
use Rattle.std.specs.List.{All, filter, flat_map, zip}
use Rattle.std.specs.List.Sorted.{IsNonDecreasing}
use Rattle.std.specs.Ordering.{nat_cmp}
use Rattle.api_types.specs.TypesFile.{ServedShape}
use Rattle.history.specs.History.{History}
use Rattle.history.specs.Seen.{seen_at}
use Rattle.indexer.specs.Objects.{Place, Stored, is_among, shared_of}
use Rattle.line_laws.specs.Listed.{AreReadAs}
use Rattle.reflector.specs.Client.{by_place, place_in}
use Rattle.summary.specs.Counts.{counts_of}
use Rattle.summary.specs.Summary.{counts_in}
use Rattle.world_laws.specs.Reports as reported
use Rattle.world_laws.specs.Tasks.{IsTask, RunSettings, Task, selection, wanted_by}
use Rattle.world_laws.specs.World.{World, WorldEvent, replies, start}
use Rattle.world.specs.Views.{reply_seen}
use Rattle.world.specs.Shots.{key_seen}
use Rattle.world.specs.declared.trace.IndexShot.{IndexShot}
use Rattle.world.specs.declared.trace.Report.{Report}
use Rattle.world.specs.declared.trace.Trace.{Trace}

-- ---- a report

-- its objects, in their order
abbrev pub objects_in : Report → List Stored
objects_in r = map shared_of r.objects.items

-- an event's number, and a revision
abbrev pub moment_in : Report → ℕ × ℕ
moment_in r = (r.event, r.revision)

abbrev pub moment_of : reported.Report → ℕ × ℕ
moment_of r = (r.event, r.now.revision)

-- a copy of an index: its name, its keys, and under each the places of objects
abbrev pub shot_seen : IndexShot → List ℕ × List (List ℕ × List Place)
shot_seen s = (string_bytes s.name, map key_seen s.keys.items)

-- where the objects stand that have this key, in their order
abbrev pub places_under : (Stored → List (List ℕ)) → List Stored → List ℕ → List Place
places_under keys objects key = map place_in (filter (λ o. is_among (keys o) key) objects)

-- the index of objects by their keys: each key that some object has, with the places of all that have it
abbrev pub index_of : (Stored → List (List ℕ)) → List Stored → fin.FinMap (slice_cmp nat_cmp) (List Place)
index_of keys objects = fin.from_entries (map (λ key. (key, places_under keys objects key)) (flat_map keys objects))

-- the report is the state of the history at its revision: just the objects of the task's type, namespace and selector that stood then, each
-- with its text; the index of these objects by each function, under its name; and how many of them have each value of the task's label
pub record IsStateOf {I : Type 0} (keys : I → Stored → List (List ℕ)) (functions : List I) (names : List (List ℕ)) (task : Task) (history : History) (r : Report) : Type 0 where
  pub come : r.revision ≤ history.current
  pub objects : AreReadAs (wanted_by task) (fin.entries (seen_at (selection task) history.changes r.revision)) (objects_in r)
  pub indexes : map shot_seen r.indexes.items ≡ zip names (map (λ b. fin.entries (index_of (keys b) (objects_in r))) functions)
  pub counts : counts_in r.counts ≡ counts_of task.settings.label (fin.from_entries (by_place (objects_in r)))

-- ---- the run

-- the task is the one of the settings, and the events lead from the start to one end. The trace has all that was written there on each
-- connection, and the connections that requests opened. Just where the client's revision is its first or has risen there is a report, and
-- each is a state of one history, the machine's at the end; no revision is below one that was reported before it
pub record IsTraceOf {I : Type 0} (keys : I → Stored → List (List ℕ)) (functions : List I) (names : List (List ℕ)) (types : List ServedShape) (settings : RunSettings) (events : List WorldEvent) (t : Trace) : Type 0 where
  pub task : Task
  pub lawful : IsTask types task
  pub asked : task.settings ≡ settings
  pub end : World
  pub reports : List reported.Report
  pub reaches : reported.Runs task 1 (start types) events end reports
  pub bytes : map reply_seen t.written.items ≡ replies end
  pub ids : t.requested.items ≡ end.requested
  pub when : map moment_in t.reports.items ≡ map moment_of reports
  pub states : All (IsStateOf keys functions names task end.hub.machine) t.reports.items
  pub never_falls : IsNonDecreasing (map (λ r. r.revision) t.reports.items)
