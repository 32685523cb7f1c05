-- What the server's side of a run stands for.
use Rattle.std.specs.Prelude.{◌≡◌, ℕ, Bool, ◌&&◌, nat_le, List, [], ◌∷◌, length, map, Option, Some, None}
use Rattle.std.specs.FinMap as fin
use Rattle.httpedge.specs.Connections.{ended_on, written_on}
use Rattle.httpedge.specs.Runs.{Steps}
use Rattle.httpedge.specs.Steps as edge
use Rattle.world_laws.specs.World.{ClientConnection}
use Rattle.world.specs.Recording.{Records}
use Rattle.world.specs.declared.server.Server.{Server}

-- its hub is in this state, and the ids are those of all connections
abbrev pub Serves : Server → edge.State → Type 0
Serves server s = Records server.recording s × (server.ids.items ≡ fin.keys s.connections)

-- the id that an event opens, if it isn't refused
abbrev pub opened_by : edge.Event → List ℕ
opened_by (edge.opens id) = id ∷ []
opened_by _ = []

-- the client leaves its connection, if it has one
abbrev pub Left : Option ClientConnection → edge.State → edge.State → Type 0
Left None s t = t ≡ s
Left (Some own) s t = Steps s (edge.goes own.id) t

abbrev pub is_over_in : edge.State → ℕ → ℕ → Bool
is_over_in s id handed = ended_on s.connections id && nat_le (length (written_on s.connections id)) handed

-- an id, and what was written on its connection
abbrev pub written_at : edge.State → ℕ → ℕ × List ℕ
written_at s id = (id, written_on s.connections id)

-- by its id, what was written on each connection
abbrev pub all_written : edge.State → List (ℕ × List ℕ)
all_written s = map (λ e. (e.0, e.1.written)) (fin.entries s.connections)
