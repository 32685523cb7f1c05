use Rattle.std.proofs.Common.{◌≡◌, List, map, take}
use Rattle.reflector.specs.Client.{kept}
use Rattle.reflector.specs.InformerViews.{indexes_in, names_in}
use Rattle.world_laws.specs.Reports.{Report, Runs}
use Rattle.world_laws.specs.Tasks.{Task}
use Rattle.world_laws.specs.World as worlds
use Rattle.world.specs.Views.{event_seen}
use Rattle.world.specs.Represents.{WorldRepresents, setup_in}
use Rattle.world.specs.Shown.{AllShow}
use Rattle.world.proofs.running.take_all.Given as goal

abbrev pub invariant-loop-index : goal.invariant-loop-index
invariant-loop-index g l =
    (setup_in l.world.client ≡ setup_in l.fn.world.client)
    × ((task : Task) (w : worlds.World) → WorldRepresents (λ b s. g.I.IndexBy.keys b s) task (kept w.client.cache) l.fn.world w
    → (v : worlds.World) × (rs : List Report) × Runs task 1 w (map event_seen (take l.index l.events)) v rs
    × WorldRepresents (λ b s. g.I.IndexBy.keys b s) task (kept v.client.cache) l.world v
    × AllShow (λ b s. g.I.IndexBy.keys b s) (indexes_in l.fn.world.client) (names_in l.fn.world.client) task.settings.label l.reports.items rs)
