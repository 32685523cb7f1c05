-- That a watch tells all, however few lines it may write at a time.
use Rattle.std.specs.Prelude.{◌≡◌, ℕ, suc, ◌+◌, ◌*◌, ◌<◌, ◌≤◌, ◌==◌, Bool, true, false, List, length, Some}
use Rattle.std.specs.List.{list_all}
use Rattle.api_types.specs.TypesFile.{ServedShape}
use Rattle.history.specs.History.{History}
use Rattle.history.specs.Seen.{SeenChange, seen_changes}
use Rattle.verbs.specs.Machine.{AreObjectTypes}
use Rattle.httpedge.specs.Steps as edge
use Rattle.reflector.specs.Client.{Cache, first, streaming}
use Rattle.liveness_laws.specs.Leading.{IsCurrentOrIdle, OthersTick, ServerStays}
use Rattle.liveness_laws.specs.Listable.{HasRoom}
use Rattle.world_laws.specs.Moves.{is_current}
use Rattle.world_laws.specs.Reports.{Report, Runs}
use Rattle.world_laws.specs.Tasks.{IsTask, Task, selection}
use Rattle.world_laws.specs.World.{World, WorldEvent, cut, other, reconcile, request, restart, send, start, to_client, to_server}

-- what the task's watch is to tell from a revision: a line for each of these changes
abbrev pub changes_after : Task → History → ℕ → List SeenChange
changes_after task m revision = seen_changes (selection task) m.changes revision m.current

-- a watch writes at most so many lines, or the clock ticks and stands still
abbrev pub is_turn : ℕ → ℕ → edge.Event → Bool
is_turn max last_tick (edge.pumps id n) = n == max
is_turn max last_tick (edge.ticks ms) = ms == last_tick
is_turn max last_tick (edge.opens id) = false
is_turn max last_tick (edge.comes id bytes) = false
is_turn max last_tick (edge.goes id) = false
is_turn max last_tick (edge.compacts c) = false
is_turn max last_tick (edge.retypes file) = false

-- such a turn, or the client asks, or bytes move between it and the server. Nobody writes an object, and nothing is cut
abbrev pub is_telling : ℕ → ℕ → WorldEvent → Bool
is_telling max last_tick (other e) = is_turn max last_tick e
is_telling max last_tick send = true
is_telling max last_tick (to_server n) = true
is_telling max last_tick (to_client n) = true
is_telling max last_tick (request bytes) = false
is_telling max last_tick cut = false
is_telling max last_tick restart = false
is_telling max last_tick reconcile = false

-- at most so many such events lead to such a world. They change nothing else
pub record Tells (task : Task) (i : ℕ) (w : World) (max most : ℕ) (Goal : World → Type 0) : Type 0 where
  pub events : List WorldEvent
  pub end : World
  pub reports : List Report
  pub runs : Runs task i w events end reports
  pub each : list_all (is_telling max w.hub.last_tick) events ≡ true
  pub bound : length events ≤ most
  pub server : ServerStays w end
  pub others : OthersTick w end
  pub goal : Goal end

-- From the world after any run in which the client is to watch from a revision that isn't forgotten: turns of so many lines each, in which there is room for one line more than is to be told, lead to the
-- machine's current revision, or to where the client asks for the first page next. Each of them takes two events, with that by which its bytes come; three more bring the request and the head of the reply,
-- and two a bookmark.
abbrev pub WatchesTell : Type 0
WatchesTell =
    (types : List ServedShape) (task : Task) (before : List WorldEvent) (w : World) (earlier : List Report) (now : Cache) (max turns : ℕ)
    → AreObjectTypes types → IsTask types task → Runs task 1 (start types) before w earlier
    → w.client.is_awaiting_reply ≡ false → w.client.sync ≡ streaming → w.client.cache ≡ Some now → is_current w ≡ false → w.hub.machine.compacted ≤ now.revision
    → length (changes_after task w.hub.machine now.revision) < turns * max
    → HasRoom w.hub.connections 1
    → Tells task (suc (length before)) w max (2 * turns + 5) (IsCurrentOrIdle 1 (λ phase. phase ≡ first) w)
