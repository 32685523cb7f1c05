use Rattle.world_laws.proofs.Made.{made, needed, one}
use Rattle.world_laws.proofs.tasks_are_made.Goals as goal

pub returns : goal.returns
returns c = record { made = made; needed = needed; one = one }
