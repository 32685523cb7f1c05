-- What a Reconcile leads to, where the client has caught up, and what another after it changes.
use Rattle.std.specs.Prelude.{◌≡◌, ◌≢◌, ℕ, suc, true, List, length, Some, IsUtf8}
use Rattle.std.specs.FinMap as fin
use Rattle.api_types.specs.TypesFile.{ServedShape}
use Rattle.history.specs.History.{History, Key, current_objects}
use Rattle.api_request.specs.Calls.{at_tick}
use Rattle.httpedge.specs.Connections.{Connection}
use Rattle.reflector.specs.Client.{Cache}
use Rattle.reflector.specs.Run.{taken}
use Rattle.summary.specs.Counts.{Summed, summed_of}
use Rattle.verbs.specs.Machine.{AreObjectTypes, AreUnicode, IsNamed}
use Rattle.verbs.specs.Step.{step}
use Rattle.liveness_laws.specs.Listable.{HasRoom, listed_now}
use Rattle.world_laws.specs.Moves.{is_current}
use Rattle.world_laws.specs.Reports.{IsStateAt, Report, Runs}
use Rattle.world_laws.specs.Tasks.{IsTask, Task, wanted_by}
use Rattle.world_laws.specs.World.{Steps, World, WorldEvent, reconcile, start}
use Rattle.settling_laws.specs.Applying.{CanBeStored, FitIntoBody, HasCounts, ServesSummaries, apply_call, key_of}

-- the counts of the objects that the client keeps
abbrev pub counts : Task → Cache → Summed
counts task now = summed_of task.settings.label now.objects

-- where they are to stand
abbrev pub place_key : Task → ℕ → Key
place_key task kind = key_of kind task.settings.summary

-- ---- what a Reconcile needs. Each of it can be had

pub record CanReconcile (task : Task) (kind : ℕ) (w : World) (now : Cache) : Type 0 where
  -- the type is served as it is printed
  pub serves : ServesSummaries w.hub.types kind
  -- the object's namespace and name are ones that an object may have
  pub named : IsNamed (place_key task kind)
  -- the label is a text, and so is what stands
  pub label : IsUtf8 task.settings.label
  pub unicode : AreUnicode w.hub.machine.changes
  -- the counts fit into a body
  pub fit : FitIntoBody (counts task now) task.settings.summary
  -- the object with them is within an object's limits, and a revision is left
  pub stored : CanBeStored w.hub.types w.hub.machine (place_key task kind) (counts task now)
  -- the hub has room for one connection more
  pub room : HasRoom w.hub.connections 1

-- ---- what it leads to

-- the machine after an apply of these counts
abbrev pub applied_machine : Task → ℕ → World → Summed → History
applied_machine task kind w s = (step w.hub.types w.hub.machine (at_tick w.hub.last_tick (apply_call kind s task.settings.summary))).1

-- the event leads to a world in which the object says the counts of the objects that stand at the revision. The types, the clock and the client's cache are as they were, and
-- so is each connection
pub record SettlesTo (task : Task) (kind : ℕ) (w : World) (now : Cache) : Type 0 where
  pub end : World
  pub steps : Steps task w reconcile end
  pub objects : IsStateAt (wanted_by task) (listed_now task w.hub.machine) now.objects
  pub counted : HasCounts w.hub.types w.hub.machine end.hub.machine (place_key task kind) (counts task now)
  pub applied : end.hub.machine ≡ applied_machine task kind w (counts task now)
  pub types : end.hub.types ≡ w.hub.types
  pub clock : end.hub.last_tick ≡ w.hub.last_tick
  pub client : end.client ≡ taken w.client
  pub connection : end.connection ≡ w.connection
  pub others : (id : ℕ) (c : Connection) → fin.get w.hub.connections id ≡ Some c → fin.get end.hub.connections id ≡ Some c

-- From the world after any run, whatever others did in it, in which the client has the machine's revision.
abbrev pub Settles : Type 0
Settles =
    (types : List ServedShape) (task : Task) (before : List WorldEvent) (w : World) (earlier : List Report) (now : Cache) (kind : ℕ)
    → AreObjectTypes types → IsTask types task → Runs task 1 (start types) before w earlier
    → w.client.cache ≡ Some now → is_current w ≡ true → CanReconcile task kind w now → SettlesTo task kind w now

-- ---- and again

-- a Reconcile changes nothing: the machine is as it was, there is no revision, and no line is written
pub record StaysSettled (task : Task) (w : World) : Type 0 where
  pub end : World
  pub steps : Steps task w reconcile end
  pub machine : end.hub.machine ≡ w.hub.machine
  pub others : (id : ℕ) (c : Connection) → fin.get w.hub.connections id ≡ Some c → fin.get end.hub.connections id ≡ Some c

-- what the client counts stands as it did, and so does the object with the counts, whatever else was written
pub record IsUntouched (task : Task) (kind : ℕ) (w v : World) : Type 0 where
  pub counted : listed_now task v.hub.machine ≡ listed_now task w.hub.machine
  pub object : fin.get (current_objects v.hub.machine) (place_key task kind) ≡ fin.get (current_objects w.hub.machine) (place_key task kind)
  pub types : v.hub.types ≡ w.hub.types

-- The object isn't of the type that is counted. After that Reconcile, in the world after any run that goes on from there, where what it left is untouched and the client has caught up, another one changes nothing.
abbrev pub SettledStays : Type 0
SettledStays =
    (types : List ServedShape) (task : Task) (before between : List WorldEvent) (w mid v : World) (earlier later : List Report) (now next : Cache) (kind : ℕ)
    → AreObjectTypes types → IsTask types task → kind ≢ task.settings.kind → Runs task 1 (start types) before w earlier
    → w.client.cache ≡ Some now → is_current w ≡ true → CanReconcile task kind w now → Steps task w reconcile mid
    → Runs task (suc (suc (length before))) mid between v later → IsUntouched task kind mid v
    → v.client.cache ≡ Some next → is_current v ≡ true → HasRoom v.hub.connections 1
    → StaysSettled task v
