use Rattle.verbs.proofs.Changed.{dry_runs_change_nothing, others_are_run}
use Rattle.verbs.proofs.laws.dry_runs_change_nothing.Goals as goal

pub returns-clause-dry : goal.returns-clause-dry
returns-clause-dry c = dry_runs_change_nothing

pub returns-clause-others : goal.returns-clause-others
returns-clause-others c = others_are_run
