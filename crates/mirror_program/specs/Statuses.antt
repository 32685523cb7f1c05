-- How `ssa-mirror` tells what it found.
use Rattle.std.specs.Prelude.{◌≡◌, ◌⊎◌, ℕ}
use Rattle.programs.specs.ReplayProgram as runs
use Rattle.programs.specs.declared.run_fault.RunFault.TheVariants as run
use Rattle.mirroring.specs.declared.fault.MirrorFault.{MirrorFault}
use Rattle.mirroring.specs.declared.fault.MirrorFault.TheVariants as mirror
use Rattle.mirror_program.specs.declared.fault.ProgramFault.{ProgramFault}
use Rattle.mirror_program.specs.declared.fault.ProgramFault.TheVariants as fault

-- the exit status: that of the run's fault, else that of wrong usage
abbrev pub status_of : ProgramFault → ℕ
status_of (fault.Run f) = runs.status_of f
status_of fault.Form = runs.wrong_usage
status_of fault.NoType = runs.wrong_usage
status_of (fault.Selector f) = runs.wrong_usage
status_of (fault.Settings f) = runs.wrong_usage

-- the exit status after a mirror's fault: 6 for a connection that can't be dialled, 1 for the output, 5 for memory, which a dial may lack too
abbrev pub IsEndedBy : MirrorFault → ProgramFault → Type 0
IsEndedBy (mirror.Dial e) f = (status_of f ≡ 6) ⊎ (f ≡ fault.Run run.Memory)
IsEndedBy (mirror.Output e) f = status_of f ≡ 1
IsEndedBy mirror.Memory f = status_of f ≡ 5
