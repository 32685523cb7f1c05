-- How `ssa-server` tells what it found.
use Rattle.std.specs.Prelude.{ℕ}
use Rattle.programs.specs.ReplayProgram as runs
use Rattle.server_program.specs.declared.fault.ServerFault.{ServerFault}
use Rattle.server_program.specs.declared.fault.ServerFault.TheVariants as fault

-- the exit status: 2 for disturbances, 3 for the file of the first objects, 6 for the sockets or the clock, else that of the run's fault
abbrev pub status_of : ServerFault → ℕ
status_of (fault.Run f) = runs.status_of f
status_of fault.Disturbances = 2
status_of fault.DisturbsInTurn = 2
status_of (fault.ObjectsFile path e) = 3
status_of (fault.Object path line why) = 3
status_of (fault.Socket e) = 6
status_of (fault.Clock e) = 6
