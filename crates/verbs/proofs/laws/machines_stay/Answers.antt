use Rattle.verbs.proofs.Machines.{calls_keep_machines, compactions_keep_machines, machines_begin}
use Rattle.verbs.proofs.Promise.{plans_are_short, plans_come_next, steps_keep_machines}
use Rattle.verbs.proofs.laws.machines_stay.Goals as goal

pub returns-clause-begins : goal.returns-clause-begins
returns-clause-begins c = machines_begin

pub returns-clause-next : goal.returns-clause-next
returns-clause-next c = plans_come_next

pub returns-clause-short : goal.returns-clause-short
returns-clause-short c = plans_are_short

pub returns-clause-stays : goal.returns-clause-stays
returns-clause-stays c = steps_keep_machines

pub returns-clause-calls : goal.returns-clause-calls
returns-clause-calls c = calls_keep_machines

pub returns-clause-compacts : goal.returns-clause-compacts
returns-clause-compacts c = compactions_keep_machines
