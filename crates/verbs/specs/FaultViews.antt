-- What a fault of the store comes to.
use Rattle.revtable.specs.declared.fault.Fault.{Fault as TheirFault}
use Rattle.revtable.specs.declared.fault.Fault.TheVariants as theirs
use Rattle.verbs.specs.declared.fault.Fault.{Fault}
use Rattle.verbs.specs.declared.fault.Fault.TheVariants.{Memory, Store}

abbrev pub fault_of : TheirFault → Fault
fault_of theirs.Memory = Memory
fault_of theirs.Store = Store
