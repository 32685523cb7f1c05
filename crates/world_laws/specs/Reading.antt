-- What is read in an event of the world, and in events in turn.
use Rattle.std.specs.Prelude.{◌≡◌, ℕ, List, [], ◌∷◌, ◌++◌, take, drop, Option, Some, None, IfSome, Vec, option_and_then, option_map, ⊤}
use Rattle.std.specs.declared.alloc.Global.{Global}
use Rattle.httpedge.specs.Runs.{bytes_at}
use Rattle.httpedge.specs.Steps as edge
use Rattle.summary.specs.Apply.{apply_request}
use Rattle.summary.specs.Counts.{summed_of}
use Rattle.world_laws.specs.Tasks.{Task}
use Rattle.world_laws.specs.World.{Steps, World, WorldEvent, cut, other, reconcile, reply_on, request, restart, send, to_client, to_server}

-- all the bytes of a connection that the server reads, where some come on one that waits for them
abbrev pub server_reads : Task → World → WorldEvent → Option (List ℕ)
server_reads task w (other e) = bytes_at w.hub e
server_reads task w (request bytes) = Some bytes
server_reads task w send = None
server_reads task w (to_server n) = option_and_then (λ own. bytes_at w.hub (edge.comes own.id (take n own.unsent))) w.connection
server_reads task w (to_client n) = None
server_reads task w cut = None
server_reads task w restart = None
server_reads task w reconcile = option_map (λ now. apply_request (summed_of task.settings.label now.objects) task.settings.summary.0 task.settings.summary.1) w.client.cache

-- all the bytes of its connection that the client has read then, where some come to it
abbrev pub client_reads : World → WorldEvent → Option (List ℕ)
client_reads w (other e) = None
client_reads w (request bytes) = None
client_reads w send = None
client_reads w (to_server n) = None
client_reads w (to_client n) = option_map (λ own. take own.handed (reply_on w own) ++ take n (drop own.handed (reply_on w own))) w.connection
client_reads w cut = None
client_reads w restart = None
client_reads w reconcile = None

-- ---- events in turn

-- two pieces of bytes that lie in memory
abbrev pub bytes_in : Vec ℕ Global × Vec ℕ Global → List ℕ × List ℕ
bytes_in b = (b.0.items, b.1.items)

-- of each event in turn, from this world on: where the server reads bytes these are the first, and where the client does the second
abbrev pub AreRead : Task → World → List WorldEvent → List (List ℕ × List ℕ) → Type 0
AreRead task w [] read = ⊤
AreRead task w (e ∷ es) [] = ⊥
AreRead task w (e ∷ es) (b ∷ bs) =
    IfSome (server_reads task w e) (λ bytes. bytes ≡ b.0) × IfSome (client_reads w e) (λ bytes. bytes ≡ b.1) × ((v : World) → Steps task w e v → AreRead task v es bs)
