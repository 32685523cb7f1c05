-- What fails below the hub, as the hub says it.
use Rattle.verbs.specs.declared.fault.Fault as below
use Rattle.verbs.specs.declared.fault.Fault.TheVariants as failed
use Rattle.verbs.specs.declared.fault.RetypeFault.{RetypeFault}
use Rattle.verbs.specs.declared.fault.RetypeFault.TheVariants as retype_fault
use Rattle.httpedge.specs.declared.fault.HubFailure.{HubFailure}
use Rattle.httpedge.specs.declared.fault.HubFailure.TheVariants.{Memory, Store}
use Rattle.httpedge.specs.declared.fault.HubFault.{HubFault}
use Rattle.httpedge.specs.declared.fault.HubFault.TheVariants.{Refused, Failed}
use Rattle.httpedge.specs.declared.fault.HubRefusal.TheVariants.{NotLawful, NotTypes, TooFewRevisions}

abbrev pub hub_failure_of : below.Fault → HubFailure
hub_failure_of failed.Memory = Memory
hub_failure_of failed.Store = Store
hub_failure_of failed.Unreadable = Store

abbrev pub hub_fault_of : below.Fault → HubFault
hub_fault_of fault = Failed (hub_failure_of fault)

-- what a refusal of other types comes to
abbrev pub retyping_fault_of : RetypeFault → HubFault
retyping_fault_of (retype_fault.NotTypes fault) = Refused (NotTypes fault)
retyping_fault_of retype_fault.NotLawful = Refused NotLawful
retyping_fault_of retype_fault.TooFewRevisions = Refused TooFewRevisions
retyping_fault_of (retype_fault.Failed fault) = hub_fault_of fault
