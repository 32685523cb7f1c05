use Rattle.verbs.proofs.Promise.{updates_take_changes}
use Rattle.verbs.proofs.laws.updates_take_changes.Goals as goal

pub returns : goal.returns
returns c = updates_take_changes
