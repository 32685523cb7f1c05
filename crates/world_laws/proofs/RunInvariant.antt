-- What holds of a hub and a client between events: the client follows the machine, and what stands on its connection answers what it asked.
use Rattle.std.specs.Prelude.{◌≡◌, ◌⊎◌, ℕ, ◌≤◌, Bool, true, false, List, [], ◌∷◌, ◌++◌, length, map, take, Option, Some, None, ⊤}
use Rattle.std.specs.FinMap as fin
use Rattle.std.specs.List.{All}
use Rattle.history.specs.History.{History}
use Rattle.verbs.specs.Machine.{IsMachine}
use Rattle.requests.specs.ReplyBytes.{chunks, watch_head}
use Rattle.httpedge.specs.Connections.{Connection, Connections, Phase, waiting, watching, ended, gone}
use Rattle.httpedge.specs.Watches.{Watch}
use Rattle.reflector.specs.Client.{Client, streaming}
use Rattle.reflector.specs.FollowsLaws.{Follows}
use Rattle.reflector.specs.Requests.{request_of}
use Rattle.wireclient.specs.LineLaws.{IsLine, with_feed}
use Rattle.wireclient.specs.Reads.{Items, has_closed}
use Rattle.wireclient.specs.Reply.{ReplyItem, head, line}
use Rattle.world_laws.proofs.Mirror.{server_of}
use Rattle.world_laws.proofs.Passes.{IsTaskWatch}
use Rattle.world_laws.specs.Tasks.{IsStillTask, Task, client_settings, wanted_by}
use Rattle.world_laws.specs.World.{ClientConnection, World}

-- the client still reads its watch: its head and these lines were written, and the watch stands at this revision
pub record IsRead (task : Task) (machine : History) (c : Client) (to : ℕ) (items : List ReplyItem) (written : List ℕ) (w : Watch) : Type 0 where
  pub own : IsTaskWatch task w
  pub position : w.cursor.position ≡ to
  pub come : to ≤ machine.current
  pub sync : c.sync ≡ streaming
  pub texts : List (List ℕ)
  pub lines : All IsLine texts
  pub is_written : written ≡ watch_head 200 ++ chunks (map with_feed texts) false
  pub are : items ≡ head 200 ∷ map line texts

-- by how the connection stands: nothing was written yet, and what came and what didn't is the request; it watches, and the client reads on
-- or reads no more; or nothing more is written
abbrev pub ReadInvariant : Task → History → Client → List ℕ → ℕ → List ReplyItem → List ℕ → Phase → Type 0
ReadInvariant task machine c unsent to items written (waiting prefix) = (written ≡ []) × (prefix ++ unsent ≡ request_of (client_settings task) c)
ReadInvariant task machine c unsent to items written (watching w) = IsRead task machine c to items written w ⊎ (has_closed items ≡ true)
ReadInvariant task machine c unsent to items written ended = ⊤
ReadInvariant task machine c unsent to items written (gone had_ended) = ⊤

-- what was written on the client's connection are the items that were told and those that are still to come, and these answer what it asks
pub record IsServed (task : Task) (machine : History) (m : ℕ) (c : Client) (own : ClientConnection) (conn : Connection) : Type 0 where
  pub within : own.handed ≤ length conn.written
  pub sent : List ReplyItem
  pub coming : List ReplyItem
  pub to : ℕ
  pub read : Items (take own.handed conn.written) sent
  pub all : Items conn.written (sent ++ coming)
  pub follows : Follows (server_of task machine) (wanted_by task) m c coming to
  pub represents : ReadInvariant task machine c own.unsent to (sent ++ coming) conn.written conn.phase

abbrev pub IsServedOn : Task → History → ℕ → Client → ClientConnection → Option Connection → Type 0
IsServedOn task machine m c own None = ⊥
IsServedOn task machine m c own (Some conn) = IsServed task machine m c own conn

-- by whether the client asks: only then it has a connection that matters
abbrev pub Goes : Task → History → ℕ → Client → Bool → Option ClientConnection → Connections → Type 0
Goes task machine m c false own all = Follows (server_of task machine) (wanted_by task) m c [] 0
Goes task machine m c true None all = ⊥
Goes task machine m c true (Some own) all = IsServedOn task machine m c own (fin.get all own.id)

-- m is the highest revision that the client ever reported, or 1; the task is one over the types that are served now, and the machine is theirs
pub record RunInvariant (task : Task) (m : ℕ) (w : World) : Type 0 where
  pub begun : 1 ≤ m
  pub task_is : IsStillTask w.hub.types task
  pub machine : IsMachine w.hub.types w.hub.machine
  pub goes : Goes task w.hub.machine m w.client w.client.is_awaiting_reply w.connection w.hub.connections
