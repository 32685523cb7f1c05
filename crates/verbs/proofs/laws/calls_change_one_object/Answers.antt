use Rattle.verbs.proofs.Changed.{calls_change_one_object, gets_change_nothing, refusals_change_nothing}
use Rattle.verbs.proofs.laws.calls_change_one_object.Goals as goal

pub returns-clause-refusals : goal.returns-clause-refusals
returns-clause-refusals c = refusals_change_nothing

pub returns-clause-gets : goal.returns-clause-gets
returns-clause-gets c = gets_change_nothing

pub returns-clause-one : goal.returns-clause-one
returns-clause-one c = calls_change_one_object
