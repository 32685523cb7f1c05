use Rattle.ownership.proofs.Sharing.{other_values_conflict, same_values_are_shared}
use Rattle.ownership.proofs.laws.same_values_are_shared.Goals as goal

pub returns-clause-shares : goal.returns-clause-shares
returns-clause-shares c = same_values_are_shared

pub returns-clause-conflicts : goal.returns-clause-conflicts
returns-clause-conflicts c = other_values_conflict
