use Rattle.verbs.proofs.Machines.{plans_by_views}
use Rattle.verbs.proofs.laws.plans_by_views.Goals as goal

pub returns : goal.returns
returns c = plans_by_views
