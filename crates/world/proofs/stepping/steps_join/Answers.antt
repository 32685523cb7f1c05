use Rattle.world.proofs.Joining.{step_joins}
use Rattle.world.proofs.stepping.steps_join.Goals as goal

pub returns : goal.returns
returns c = λ task w e v steps id. step_joins c.written_stays.ensures.grows task w e v steps id
