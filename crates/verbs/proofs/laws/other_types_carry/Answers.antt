use Rattle.verbs.proofs.Retypings.{retypings_carry_objects, retypings_keep_machines, retypings_leave_texts, same_types_change_nothing}
use Rattle.verbs.proofs.laws.other_types_carry.Goals as goal

pub returns-clause-keep : goal.returns-clause-keep
returns-clause-keep c = retypings_keep_machines

pub returns-clause-carry : goal.returns-clause-carry
returns-clause-carry c = retypings_carry_objects

pub returns-clause-stay : goal.returns-clause-stay
returns-clause-stay c = retypings_leave_texts

pub returns-clause-same : goal.returns-clause-same
returns-clause-same c = same_types_change_nothing
