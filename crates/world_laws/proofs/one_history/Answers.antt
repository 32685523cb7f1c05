use Rattle.world_laws.proofs.OneHistory.{of_one_history}
use Rattle.world_laws.specs.World.{start}
use Rattle.world_laws.proofs.one_history.Goals as goal

pub returns : goal.returns
returns c = λ types task es v reports shapes is_task runs.
    of_one_history (record { all = c.machines_grow.ensures.all; stays = c.machines_grow.ensures.stays }) task 1 1 (start types) es v reports runs
    (c.headline.ensures types task es v reports shapes is_task runs).0
