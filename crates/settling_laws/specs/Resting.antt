-- That a controller which catches up and reconciles comes to rest: step by step, and by what stands in the world where it begins.
use Rattle.std.specs.Prelude.{◌≡◌, ◌≢◌, ℕ, suc, ◌+◌, ◌*◌, ◌<◌, ◌≤◌, List, length, Some, IsUtf8}
use Rattle.std.specs.FinMap as fin
use Rattle.api_types.specs.TypesFile.{ServedShape}
use Rattle.verbs.specs.Machine.{AreObjectTypes, IsNamed}
use Rattle.httpedge.specs.Connections.{highest, max_open, open_count}
use Rattle.reflector.specs.Client.{Cache, Objects}
use Rattle.summary.specs.Counts.{Summed, summed_of}
use Rattle.world_laws.specs.Reports.{IsStateAt, Report, Runs}
use Rattle.world_laws.specs.Tasks.{IsTask, Task, wanted_by}
use Rattle.world_laws.specs.World.{World, WorldEvent, start}
use Rattle.liveness_laws.specs.Leading.{IsCaughtUp, LeadsTo}
use Rattle.liveness_laws.specs.Listable.{FitsIn, HasRoom, IsListable, OthersLeaveRoom, listed_now, others_of}
use Rattle.settling_laws.specs.Applying.{CanBeStored, FitIntoBody, ServesSummaries}
use Rattle.settling_laws.specs.Rest.{IsAtRest}
use Rattle.settling_laws.specs.Settling.{CanReconcile, SettlesTo, StaysSettled, applied_machine, place_key}

-- what a client needs to catch up, with so many pages of its list
pub record CanCatchUp (task : Task) (w : World) (pages : ℕ) : Type 0 where
  pub fits : FitsIn task w.hub.machine pages
  pub listable : IsListable task w.hub.machine
  pub room : OthersLeaveRoom w (3 + pages)

-- moves of the schedule, no more than catching up takes, lead to a world where the client has the machine's revision and its objects
abbrev pub Catches : Task → ℕ → World → ℕ → Type 0
Catches task i w pages = LeadsTo task i w (20 + 3 * pages) (IsCaughtUp task)

-- from a world that a Reconcile led to, catching up leads to one where another changes nothing
abbrev pub Rests : Task → ℕ → World → Type 0
Rests task i w = (pages : ℕ) → CanCatchUp task w pages → (caught : Catches task i w pages) × (HasRoom caught.end.hub.connections 1 → StaysSettled task caught.end)

-- the client keeps a revision, and where a Reconcile can be done it leads to an object that says the counts, and from there on to rest
pub record ReconcilesToRest (task : Task) (kind i : ℕ) (w : World) : Type 0 where
  pub now : Cache
  pub kept : w.client.cache ≡ Some now
  pub settles : CanReconcile task kind w now → (settled : SettlesTo task kind w now) × Rests task (suc i) settled.end

-- From the world after any run, whatever happened in it, where the object isn't of the type that is counted: catching up, a Reconcile, catching up and another, of which the last changes nothing. What each needs is said of the
-- world where it happens.
abbrev pub ComesToRestInSteps : Type 0
ComesToRestInSteps =
    (types : List ServedShape) (task : Task) (before : List WorldEvent) (w : World) (earlier : List Report) (pages kind : ℕ)
    → AreObjectTypes types → IsTask types task → kind ≢ task.settings.kind → Runs task 1 (start types) before w earlier → CanCatchUp task w pages
    → (caught : Catches task (suc (length before)) w pages) × ReconcilesToRest task kind (suc (length before) + length caught.moves) caught.end

-- ---- by what stands in the world where it begins

-- where these are the counts of the objects that stand: they fit into a body, the object with them can be stored, and then too the list can come whole
pub record CanSay (task : Task) (kind : ℕ) (w : World) (s : Summed) : Type 0 where
  pub fit : FitIntoBody s task.settings.summary
  pub stored : CanBeStored w.hub.types w.hub.machine (place_key task kind) s
  pub listable : IsListable task (applied_machine task kind w s)

-- what a world needs for its controller to come to rest, with so many pages of its list
pub record CanComeToRest (task : Task) (kind pages : ℕ) (w : World) : Type 0 where
  -- the list can come whole
  pub fits : FitsIn task w.hub.machine pages
  pub listable : IsListable task w.hub.machine
  -- the type is served as it is printed, the object's namespace and name are ones that an object may have, and the label is a text
  pub serves : ServesSummaries w.hub.types kind
  pub named : IsNamed (place_key task kind)
  pub label : IsUtf8 task.settings.label
  -- the counts can be said that a client has of the objects that stand
  pub say : (o : Objects) → IsStateAt (wanted_by task) (listed_now task w.hub.machine) o → CanSay task kind w (summed_of task.settings.label o)
  -- ids are left: for each event one
  pub ids : highest (fin.keys w.hub.connections) + (2 * (20 + 3 * pages) + 2) ≤ 18446744073709551615
  -- others leave three connections: the client's own, and one for each Reconcile
  pub room : open_count (others_of w.hub.connections w.connection) + 2 < max_open

-- catching up, a Reconcile and catching up come to rest, and another Reconcile changes nothing
pub record RestComes (task : Task) (kind i : ℕ) (w : World) (pages : ℕ) : Type 0 where
  pub caught : Catches task i w pages
  pub settled : SettlesTo task kind caught.end caught.goal.now
  pub again : Catches task (suc (i + length caught.moves)) settled.end pages
  pub rest : IsAtRest task kind again.end again.goal.now
  pub stays : StaysSettled task again.end

-- From the world after any run, whatever happened in it, where the object isn't of the type that is counted.
abbrev pub ComesToRest : Type 0
ComesToRest =
    (types : List ServedShape) (task : Task) (before : List WorldEvent) (w : World) (earlier : List Report) (pages kind : ℕ)
    → AreObjectTypes types → IsTask types task → kind ≢ task.settings.kind → Runs task 1 (start types) before w earlier → CanComeToRest task kind pages w
    → RestComes task kind (suc (length before)) w pages
