-- Rest: a world in which a Reconcile changes nothing.
use Rattle.std.specs.Prelude.{◌≡◌, ◌≢◌, ℕ, suc, true, List, length, Some}
use Rattle.std.specs.FinMap as fin
use Rattle.api_types.specs.TypesFile.{ServedShape}
use Rattle.history.specs.History.{current_objects}
use Rattle.verbs.specs.Machine.{AreObjectTypes, IsNamed}
use Rattle.reflector.specs.Client.{Cache}
use Rattle.world_laws.specs.Moves.{is_current}
use Rattle.world_laws.specs.Reports.{Report, Runs}
use Rattle.world_laws.specs.Tasks.{IsTask, Task}
use Rattle.world_laws.specs.World.{Steps, World, WorldEvent, reconcile, start}
use Rattle.liveness_laws.specs.Listable.{HasRoom}
use Rattle.settling_laws.specs.Applying.{FitIntoBody, ServesSummaries, state_at}
use Rattle.settling_laws.specs.Said.{IsSayable, with_counts}
use Rattle.settling_laws.specs.Settling.{CanReconcile, IsUntouched, StaysSettled, counts, place_key}

-- the client has the machine's revision, and an apply of its counts would make of the object just the object that stands
pub record IsAtRest (task : Task) (kind : ℕ) (w : World) (now : Cache) : Type 0 where
  pub kept : w.client.cache ≡ Some now
  pub current : is_current w ≡ true
  pub stands : fin.contains_key (current_objects w.hub.machine) (place_key task kind) ≡ true
  pub said : with_counts (counts task now) (state_at w.hub.types w.hub.machine (place_key task kind)) ≡ state_at w.hub.types w.hub.machine (place_key task kind)

-- the apply of the counts can be asked: as of `CanReconcile`, but that nothing has to be stored
pub record CanAsk (task : Task) (kind : ℕ) (w : World) (now : Cache) : Type 0 where
  pub serves : ServesSummaries w.hub.types kind
  pub named : IsNamed (place_key task kind)
  pub sayable : IsSayable (counts task now)
  pub fit : FitIntoBody (counts task now) task.settings.summary
  pub room : HasRoom w.hub.connections 1

-- At rest, after any run, a Reconcile changes nothing.
abbrev pub RestStays : Type 0
RestStays =
    (types : List ServedShape) (task : Task) (before : List WorldEvent) (w : World) (earlier : List Report) (now : Cache) (kind : ℕ)
    → AreObjectTypes types → Runs task 1 (start types) before w earlier → IsAtRest task kind w now → CanAsk task kind w now → StaysSettled task w

-- Whatever happens after it, where what is counted and the object stand as they did and the client has caught up, it is at rest again.
abbrev pub RestLasts : Type 0
RestLasts =
    (types : List ServedShape) (task : Task) (before between : List WorldEvent) (w v : World) (earlier later : List Report) (now next : Cache) (kind : ℕ)
    → AreObjectTypes types → IsTask types task → Runs task 1 (start types) before w earlier → IsAtRest task kind w now
    → Runs task (suc (length before)) w between v later → IsUntouched task kind w v → v.client.cache ≡ Some next → is_current v ≡ true → IsAtRest task kind v next

-- After a Reconcile, in the world after any run that goes on from there, where what it left is untouched and the client has caught up, the client is at rest. The object isn't of the type that is counted.
abbrev pub SettledRests : Type 0
SettledRests =
    (types : List ServedShape) (task : Task) (before between : List WorldEvent) (w mid v : World) (earlier later : List Report) (now next : Cache) (kind : ℕ)
    → AreObjectTypes types → IsTask types task → kind ≢ task.settings.kind → Runs task 1 (start types) before w earlier
    → w.client.cache ≡ Some now → is_current w ≡ true → CanReconcile task kind w now → Steps task w reconcile mid
    → Runs task (suc (suc (length before))) mid between v later → IsUntouched task kind mid v
    → v.client.cache ≡ Some next → is_current v ≡ true → IsAtRest task kind v next
