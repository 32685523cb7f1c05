use Rattle.verbs.proofs.Promise.{managers_own_their_sides, writes_leave_other_side}
use Rattle.verbs.proofs.laws.status_is_apart.Goals as goal

pub returns-clause-leaves : goal.returns-clause-leaves
returns-clause-leaves c = writes_leave_other_side

pub returns-clause-sides : goal.returns-clause-sides
returns-clause-sides c = managers_own_their_sides
