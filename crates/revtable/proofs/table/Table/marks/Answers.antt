use Rattle.std.proofs.Common.{subst}
use Rattle.history.specs.Kept.{IsPruned}
use Rattle.revtable.proofs.table.Table.marks.Goals as goal

pub returns-clause-sound : goal.returns-clause-sound
returns-clause-sound c = subst IsPruned c.self.view_is c.self.invariant.0.pruned
