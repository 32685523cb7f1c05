use Rattle.world_laws.proofs.Shaped.{still_lasts}
use Rattle.world_laws.proofs.tasks_last.Goals as goal

pub returns : goal.returns
returns c = λ s t hs task is runs. still_lasts s.types t.types task (c.machines_grow.ensures.all s t hs runs).types is
