-- What the moves show by which a client comes to the machine's current revision.
use Rattle.std.specs.Prelude.{◌≡◌, ◌<◌, ◌≤◌, ℕ, true, List, length, map}
use Rattle.indexer.specs.Objects.{Stored}
use Rattle.world_laws.specs.Moves.{Pursues, is_current}
use Rattle.world_laws.specs.Reports.{Report}
use Rattle.world_laws.specs.Tasks.{Task}
use Rattle.world_laws.specs.World.{World}
use Rattle.world.specs.Views.{event_seen}
use Rattle.world.specs.Shown.{AllShow}
use Rattle.world.specs.declared.moves.Moves.{Moves}

-- the events, numbered from i on, lead from one world to another, each the next move of the world where it happens, and the reports are of these. At most so many are made; where fewer
-- are, the client has the revision that the machine has
pub record ShowsMoves {I : Type 0} (keys : I → Stored → List (List ℕ)) (indexes : List I) (names : List (List ℕ)) (task : Task) (i most : ℕ) (w v : World) (x : Moves) : Type 0 where
  pub reports : List Report
  pub pursues : Pursues task i w (map event_seen x.events.items) v reports
  pub shown : AllShow keys indexes names task.settings.label x.reports.items reports
  pub bound : length x.events.items ≤ most
  pub ends : length x.events.items < most → is_current v ≡ true
