use Rattle.world_laws.proofs.OneWorld.{one_run}
use Rattle.world_laws.proofs.one_world.Goals as goal

pub returns : goal.returns
returns c = λ task i w v u es reports others first other. one_run c.one_reading.ensures.items task i w es v u reports others first other
