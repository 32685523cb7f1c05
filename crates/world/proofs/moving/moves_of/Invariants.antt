use Rattle.std.proofs.Common.{◌≡◌, ◌+◌, ◌-◌, ◌≤◌, List, suc, length, map}
use Rattle.reflector.specs.Client.{kept}
use Rattle.reflector.specs.InformerViews.{indexes_in, names_in}
use Rattle.world_laws.specs.Moves.{Pursues}
use Rattle.world_laws.specs.Reports.{Report}
use Rattle.world_laws.specs.Tasks.{Task}
use Rattle.world_laws.specs.World as worlds
use Rattle.world.specs.Views.{event_seen}
use Rattle.world.specs.Represents.{WorldRepresents, setup_in}
use Rattle.world.specs.Shown.{AllShow}
use Rattle.world.proofs.moving.moves_of.Given as goal

abbrev pub invariant-loop-count : goal.invariant-loop-count
invariant-loop-count g l =
    (setup_in l.world.client ≡ setup_in l.fn.world.client)
    × (l.count ≡ l.before + length l.events.items)
    × (length l.events.items ≤ l.most - l.before)
    × ((task : Task) (w : worlds.World) → WorldRepresents (λ b s. g.I.IndexBy.keys b s) task (kept w.client.cache) l.fn.world w
    → (v : worlds.World) × (rs : List Report) × Pursues task (suc l.before) w (map event_seen l.events.items) v rs
    × WorldRepresents (λ b s. g.I.IndexBy.keys b s) task (kept v.client.cache) l.world v
    × AllShow (λ b s. g.I.IndexBy.keys b s) (indexes_in l.fn.world.client) (names_in l.fn.world.client) task.settings.label l.reports.items rs)
