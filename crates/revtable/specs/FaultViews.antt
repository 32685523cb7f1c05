-- What a fault of SQLite is told as.
use Rattle.sqlite.specs.declared.error.Error.{Error}
use Rattle.sqlite.specs.declared.error.Error.TheVariants.{SqliteFailure}
use Rattle.sqlite.specs.declared.error.ErrorCode.{ErrorCode}
use Rattle.sqlite.specs.declared.error.ErrorCode.TheVariants.{OutOfMemory}
use Rattle.revtable.specs.declared.fault.Fault.{Fault}
use Rattle.revtable.specs.declared.fault.Fault.TheVariants.{Memory, Store}

abbrev pub fault_by : ErrorCode → Fault
fault_by OutOfMemory = Memory
fault_by _ = Store

-- out of memory as that, and everything else as a refusal of the statement
abbrev pub fault_of : Error → Fault
fault_of (SqliteFailure code) = fault_by code
fault_of _ = Store
