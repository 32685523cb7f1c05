-- That moves of the schedule lead a client on, whatever it was doing: to where the machine is, or to where it awaits no reply.
use Rattle.std.specs.Prelude.{◌≡◌, ◌⊎◌, ℕ, zero, suc, ◌+◌, ◌*◌, ◌≤◌, true, false, List, length, Some}
use Rattle.std.specs.FinMap as fin
use Rattle.api_types.specs.TypesFile.{ServedShape}
use Rattle.verbs.specs.Machine.{AreObjectTypes}
use Rattle.httpedge.specs.Connections.{Connection, highest, open_count}
use Rattle.httpedge.specs.Steps.{State, with_turn}
use Rattle.httpedge.specs.Watches.{ticked}
use Rattle.indexer.specs.Objects.{Stored}
use Rattle.reflector.specs.Client.{Cache, SyncPhase, first, next, streaming}
use Rattle.liveness_laws.specs.Listable.{FitsIn, HasRoom, IsListable, OthersLeaveRoom, listed_now}
use Rattle.world_laws.specs.Moves.{Pursues, is_current}
use Rattle.liveness_laws.specs.Progress.{RevisionComes, is_own}
use Rattle.world_laws.specs.Reports.{IsStateAt, Report, Runs}
use Rattle.world_laws.specs.Tasks.{IsTask, Task, wanted_by}
use Rattle.world_laws.specs.World.{World, WorldEvent, start}

-- ---- what stays

-- a connection after so many ticks at a clock that stands still: bookmarks that are due are written
abbrev pub ticked_times : State → ℕ → Connection → Connection
ticked_times s zero c = c
ticked_times s (suc n) c = with_turn (ticked s.types s.last_tick) (ticked_times s n c)

-- each connection of another peer that was there is as it was, but for bookmarks that were due
abbrev pub OthersTick : World → World → Type 0
OthersTick w v = (id : ℕ) (c : Connection) → fin.get w.hub.connections id ≡ Some c → is_own w.connection id ≡ false → (n : ℕ) × (fin.get v.hub.connections id ≡ Some (ticked_times w.hub n c))

-- and each of them is another peer's still
abbrev pub OthersRemain : World → World → Type 0
OthersRemain w v = (id : ℕ) (c : Connection) → fin.get w.hub.connections id ≡ Some c → is_own w.connection id ≡ false → is_own v.connection id ≡ false

-- the machine, its types and the clock are as they were
abbrev pub ServerStays : World → World → Type 0
ServerStays w v = (v.hub.machine ≡ w.hub.machine) × (v.hub.types ≡ w.hub.types) × (v.hub.last_tick ≡ w.hub.last_tick)

-- ---- where moves lead to

-- the client awaits no reply. At most so many requests were sent, and at most so many more connections are open than before: a watch that the client has given up is open until it leaves it, with its next
-- request. The client's connection is none that was another peer's
pub record IsIdle (w v : World) (sends : ℕ) : Type 0 where
  pub silent : v.client.is_awaiting_reply ≡ false
  pub ids : highest (fin.keys v.hub.connections) ≤ highest (fin.keys w.hub.connections) + sends
  pub room : open_count v.hub.connections ≤ open_count w.hub.connections + sends
  pub others : OthersRemain w v

-- the client is where the machine is, or awaits no reply, and is in such a phase
abbrev pub IsCurrentOrIdle : ℕ → (SyncPhase → Type 0) → World → World → Type 0
IsCurrentOrIdle sends InPhase w v = (is_current v ≡ true) ⊎ (IsIdle w v sends × InPhase v.client.sync)

-- at most so many moves of the schedule lead to such a world
pub record LeadsTo (task : Task) (i : ℕ) (w : World) (most : ℕ) (Goal : World → Type 0) : Type 0 where
  pub moves : List WorldEvent
  pub end : World
  pub reports : List Report
  pub pursues : Pursues task i w moves end reports
  pub bound : length moves ≤ most
  pub server : ServerStays w end
  pub others : OthersTick w end
  pub goal : Goal end

-- ---- the laws

-- From the world after any run in which the client is between two pages of the list that stands now, the moves of the schedule lead to the machine's current revision.
abbrev pub ListsGoOn : Type 0
ListsGoOn =
    (types : List ServedShape) (task : Task) (before : List WorldEvent) (w : World) (earlier : List Report) (pages revision : ℕ) (token : List ℕ) (paged : List Stored)
    → AreObjectTypes types → IsTask types task → Runs task 1 (start types) before w earlier
    → w.client.is_awaiting_reply ≡ false → w.client.sync ≡ next revision token paged → revision ≡ w.hub.machine.current → is_current w ≡ false
    → FitsIn task w.hub.machine pages → IsListable task w.hub.machine → HasRoom w.hub.connections pages → RevisionComes task (suc (length before)) w pages

abbrev pub AnyPhase : SyncPhase → Type 0
AnyPhase phase = (phase ≡ phase)

-- a list of the machine's revision, or the first page of one
abbrev pub IsListPhase : ℕ → SyncPhase → Type 0
IsListPhase current first = (current ≡ current)
IsListPhase current (next revision token paged) = (revision ≡ current)
IsListPhase current streaming = ⊥

-- From the world after any run in which the client awaits a page, of which a part may have come, at most two moves end the reply.
abbrev pub RepliesEnd : Type 0
RepliesEnd =
    (types : List ServedShape) (task : Task) (before : List WorldEvent) (w : World) (earlier : List Report)
    → AreObjectTypes types → IsTask types task → Runs task 1 (start types) before w earlier
    → w.client.is_awaiting_reply ≡ true → IsListPhase w.hub.machine.current w.client.sync → is_current w ≡ false
    → LeadsTo task (suc (length before)) w 2 (IsCurrentOrIdle 0 AnyPhase w)

-- From the world after any run in which the client reads a watch, of which any part may be on the way, at most so many moves lead to the machine's current revision, or the watch is given up.
abbrev pub WatchesGoOn : Type 0
WatchesGoOn =
    (types : List ServedShape) (task : Task) (before : List WorldEvent) (w : World) (earlier : List Report)
    → AreObjectTypes types → IsTask types task → Runs task 1 (start types) before w earlier
    → w.client.is_awaiting_reply ≡ true → w.client.sync ≡ streaming → is_current w ≡ false
    → LeadsTo task (suc (length before)) w 8 (IsCurrentOrIdle 0 AnyPhase w)

-- From the world after any run in which the client is to watch from a revision that isn't forgotten, at most so many moves lead to the machine's current revision, or to where the client asks for the first page next.
abbrev pub WatchesCatchUp : Type 0
WatchesCatchUp =
    (types : List ServedShape) (task : Task) (before : List WorldEvent) (w : World) (earlier : List Report) (now : Cache)
    → AreObjectTypes types → IsTask types task → Runs task 1 (start types) before w earlier
    → w.client.is_awaiting_reply ≡ false → w.client.sync ≡ streaming → w.client.cache ≡ Some now → is_current w ≡ false → w.hub.machine.compacted ≤ now.revision
    → HasRoom w.hub.connections 1
    → LeadsTo task (suc (length before)) w 8 (IsCurrentOrIdle 1 (λ phase. phase ≡ first) w)

-- ---- all of it

-- the client has the machine's revision, and its objects are the machine's of it
pub record IsCaughtUp (task : Task) (v : World) : Type 0 where
  pub now : Cache
  pub kept : v.client.cache ≡ Some now
  pub is_current : now.revision ≡ v.hub.machine.current
  pub objects : IsStateAt (wanted_by task) (listed_now task v.hub.machine) now.objects

-- From the world after any run, whatever the client was doing in it, the moves of the schedule lead to the machine's current revision and its objects, without a restart.
abbrev pub CatchesUp : Type 0
CatchesUp =
    (types : List ServedShape) (task : Task) (before : List WorldEvent) (w : World) (earlier : List Report) (pages : ℕ)
    → AreObjectTypes types → IsTask types task → Runs task 1 (start types) before w earlier
    → FitsIn task w.hub.machine pages → IsListable task w.hub.machine → OthersLeaveRoom w (3 + pages)
    → LeadsTo task (suc (length before)) w (20 + 3 * pages) (IsCaughtUp task)
