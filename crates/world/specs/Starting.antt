-- The start of a run at a revision.
use Rattle.std.specs.Prelude.{ℕ, List}
use Rattle.api_types.specs.TypesFile.{ServedShape}
use Rattle.history.specs.History.{fresh}
use Rattle.httpedge.specs.Steps as edge
use Rattle.world_laws.specs.World.{World, start}

-- a server without connections and objects at this revision, and a client that keeps nothing
abbrev pub start_at : ℕ → List ServedShape → World
start_at revision types = record (start types) { hub = edge.start types (fresh revision) }
