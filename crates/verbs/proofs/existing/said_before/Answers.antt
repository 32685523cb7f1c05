use Rattle.verbs.proofs.Said.{empty_well_typed}
use Rattle.verbs.proofs.existing.said_before.Goals as goal

pub returns-in_default-clause-well_typed : goal.returns-in_default-clause-well_typed
returns-in_default-clause-well_typed c = empty_well_typed _ c.empty.result.tree c.empty.result.managers c.empty.ensures.tree c.empty.ensures.managers
