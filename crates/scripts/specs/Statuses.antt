-- How a program that plays a script tells what it found.
use Rattle.std.specs.Prelude.{ℕ}
use Rattle.programs.specs.ReplayProgram as runs
use Rattle.programs.specs.declared.run_fault.RunFault.TheVariants as run
use Rattle.scripts.specs.declared.program_fault.ProgramFault.{ProgramFault}
use Rattle.scripts.specs.declared.program_fault.ProgramFault.TheVariants as fault
use Rattle.scripts.specs.declared.replay_fault.ReplayFault.{ReplayFault}
use Rattle.scripts.specs.declared.replay_fault.ReplayFault.TheVariants as replay
use Rattle.scripts.specs.declared.script.ScriptFault.{ScriptFault}
use Rattle.scripts.specs.declared.script.ScriptFault.TheVariants as script

-- the exit status: 2 for the type or the settings, 3 for the script's file or the input, 4 for one of the script's lines, 6 for the link, else that of the run's fault
abbrev pub status_of : ProgramFault → ℕ
status_of (fault.Run f) = runs.status_of f
status_of fault.Form = runs.wrong_usage
status_of (fault.ScriptFile path e) = 3
status_of (fault.Script n why) = 4
status_of fault.NoType = runs.wrong_usage
status_of (fault.Settings n) = runs.wrong_usage
status_of fault.Link = 6
status_of (fault.Input e) = 3

abbrev pub script_fault_reported : ScriptFault → ProgramFault
script_fault_reported (script.BadEvent n why) = fault.Script n why
script_fault_reported script.Memory = fault.Run run.Memory

abbrev pub replay_fault_reported : ReplayFault → ProgramFault
replay_fault_reported replay.Memory = fault.Run run.Memory
replay_fault_reported replay.Store = fault.Run run.Store
replay_fault_reported (replay.Settings n) = fault.Settings n
replay_fault_reported replay.Link = fault.Link
replay_fault_reported (replay.Write e) = fault.Run (run.Output e)
