use Rattle.ownership.proofs.Sameness.{lengths_differ}
use Rattle.ownership.proofs.same.are_same_entries.Goals as goal

pub returns-then-mine-theirs : goal.returns-then-mine-theirs
returns-then-mine-theirs c = lengths_differ c.args.mine.now c.args.theirs.now c.if-mine-theirs.true
