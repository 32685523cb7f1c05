-- That a client comes to the machine's current revision: what a schedule leads to, and what it leaves as it was.
use Rattle.std.specs.Prelude.{◌≡◌, ℕ, suc, ◌+◌, ◌*◌, ◌<◌, ◌≤◌, ◌==◌, Bool, true, false, List, [], ◌∷◌, length, Option, Some, None}
use Rattle.std.specs.FinMap as fin
use Rattle.std.specs.List.{list_all}
use Rattle.api_types.specs.TypesFile.{ServedShape}
use Rattle.verbs.specs.Machine.{AreObjectTypes}
use Rattle.httpedge.specs.Connections.{Connection}
use Rattle.indexer.specs.Objects.{Stored}
use Rattle.reflector.specs.Client.{Cache, first, next, streaming}
use Rattle.liveness_laws.specs.Listable.{FitsIn, HasRoom, IsListable}
use Rattle.world_laws.specs.Moves.{Pursues, is_current}
use Rattle.world_laws.specs.Reports.{Report, Runs, reports_between}
use Rattle.world_laws.specs.Tasks.{IsTask, Task}
use Rattle.world_laws.specs.World.{ClientConnection, Steps, World, WorldEvent, cut, other, reconcile, request, restart, send, start, to_client, to_server}

-- ---- what stays

-- the id is that of the client's connection
abbrev pub is_own : Option ClientConnection → ℕ → Bool
is_own None id = false
is_own (Some own) id = own.id == id

-- each connection of another peer that was there is as it was, with all that was written on it
abbrev pub OthersStay : World → World → Type 0
OthersStay w v = (id : ℕ) (c : Connection) → fin.get w.hub.connections id ≡ Some c → is_own w.connection id ≡ false → fin.get v.hub.connections id ≡ Some c

-- the client asks, or bytes move between it and the server
abbrev pub is_transfer : WorldEvent → Bool
is_transfer send = true
is_transfer (to_server n) = true
is_transfer (to_client n) = true
is_transfer (other e) = false
is_transfer (request bytes) = false
is_transfer cut = false
is_transfer restart = false
is_transfer reconcile = false

-- ---- what the schedule leads to

-- the moves of the schedule, at most three for each page of the list, lead to the machine's current revision, which is reported with the last of them
-- where it is the client's first or has risen. The machine, its types and the clock are as they were, and so is each other peer's connection
pub record RevisionComes (task : Task) (i : ℕ) (w : World) (pages : ℕ) : Type 0 where
  pub moves : List WorldEvent
  pub end : World
  pub now : Cache
  pub last : ℕ
  pub is_last : suc last ≡ i + length moves
  pub pursues : Pursues task i w moves end (reports_between last w.hub.machine w.client.cache (Some now))
  pub kept : end.client.cache ≡ Some now
  pub is_current : now.revision ≡ w.hub.machine.current
  pub transfers : list_all is_transfer moves ≡ true
  pub bound : length moves ≤ 3 * pages
  pub machine : end.hub.machine ≡ w.hub.machine
  pub types : end.hub.types ≡ w.hub.types
  pub tick : end.hub.last_tick ≡ w.hub.last_tick
  pub others : OthersStay w end

-- the same after a restart: there is one report
pub record ReportComes (task : Task) (i : ℕ) (w : World) (pages : ℕ) : Type 0 where
  pub begun : World
  pub restarts : Steps task w restart begun
  pub comes : RevisionComes task (suc i) begun pages
  pub runs : Runs task i w (restart ∷ comes.moves) comes.end (record { event = i + length comes.moves; machine = w.hub.machine; now = comes.now } ∷ [])
  pub is_current : comes.now.revision ≡ w.hub.machine.current
  pub machine : comes.end.hub.machine ≡ w.hub.machine
  pub types : comes.end.hub.types ≡ w.hub.types
  pub tick : comes.end.hub.last_tick ≡ w.hub.last_tick
  pub others : OthersStay w comes.end

-- From the world after any run, whatever the client was doing in it.
abbrev pub ReportsCanCome : Type 0
ReportsCanCome =
    (types : List ServedShape) (task : Task) (before : List WorldEvent) (w : World) (earlier : List Report) (pages : ℕ)
    → AreObjectTypes types → IsTask types task → Runs task 1 (start types) before w earlier
    → FitsIn task w.hub.machine pages → IsListable task w.hub.machine → HasRoom w.hub.connections pages → ReportComes task (suc (length before)) w pages

-- Without a restart, where the client awaits no reply and asks for the first page next: so it does after it gave a reply up, a list was cut, or its token or
-- its watch had expired.
abbrev pub ListsComeAnew : Type 0
ListsComeAnew =
    (types : List ServedShape) (task : Task) (before : List WorldEvent) (w : World) (earlier : List Report) (pages : ℕ)
    → AreObjectTypes types → IsTask types task → Runs task 1 (start types) before w earlier
    → w.client.is_awaiting_reply ≡ false → w.client.sync ≡ first → is_current w ≡ false
    → FitsIn task w.hub.machine pages → IsListable task w.hub.machine → HasRoom w.hub.connections pages → RevisionComes task (suc (length before)) w pages

-- ---- what is given up

-- at most three moves, of which none is reported, give up what the client was about, and the moves behind them lead to the machine's current revision. The client keeps what it had
-- until then
pub record ComesAnew (task : Task) (i : ℕ) (w : World) (pages : ℕ) : Type 0 where
  pub given_up : List WorldEvent
  pub mid : World
  pub gives_up : Pursues task i w given_up mid []
  pub few : length given_up ≤ 3
  pub number : ℕ
  pub is_number : number ≡ i + length given_up
  pub comes : RevisionComes task number mid pages
  pub kept : mid.client.cache ≡ w.client.cache
  pub machine : comes.end.hub.machine ≡ w.hub.machine
  pub types : comes.end.hub.types ≡ w.hub.types
  pub tick : comes.end.hub.last_tick ≡ w.hub.last_tick
  pub others : OthersStay w comes.end

-- Without a restart, where the client is in the middle of a list of another revision than the machine has, between two pages or in one: its connection is cut, and the list begins anew. Between
-- two pages that takes one connection more.
abbrev pub PastListsAreGivenUp : Type 0
PastListsAreGivenUp =
    (types : List ServedShape) (task : Task) (before : List WorldEvent) (w : World) (earlier : List Report) (pages revision : ℕ) (token : List ℕ) (paged : List Stored)
    → AreObjectTypes types → IsTask types task → Runs task 1 (start types) before w earlier
    → w.client.sync ≡ next revision token paged → (revision == w.hub.machine.current) ≡ false → is_current w ≡ false
    → FitsIn task w.hub.machine pages → IsListable task w.hub.machine → HasRoom w.hub.connections (suc pages) → ComesAnew task (suc (length before)) w pages

-- Without a restart, where the client is to watch from a revision that is forgotten: the server answers 410, or 431 where the request is too long, and the list begins anew.
abbrev pub ExpiredWatchesAreGivenUp : Type 0
ExpiredWatchesAreGivenUp =
    (types : List ServedShape) (task : Task) (before : List WorldEvent) (w : World) (earlier : List Report) (pages : ℕ) (now : Cache)
    → AreObjectTypes types → IsTask types task → Runs task 1 (start types) before w earlier
    → w.client.is_awaiting_reply ≡ false → w.client.sync ≡ streaming → w.client.cache ≡ Some now → now.revision < w.hub.machine.compacted
    → FitsIn task w.hub.machine pages → IsListable task w.hub.machine → HasRoom w.hub.connections (suc pages) → ComesAnew task (suc (length before)) w pages
