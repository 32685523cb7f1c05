use Rattle.std.specs.Prelude.{map, take}
use Rattle.std.specs.List.{AllByRecursion}
use Rattle.world_laws.specs.Reading.{bytes_in}
use Rattle.world_laws.proofs.EachRuns.{LeadsOn}
use Rattle.world_laws.proofs.runs.each_runs.Given as goal

-- so far each event in which two of these are read leads on
abbrev pub invariant-loop-server : goal.invariant-loop-server
invariant-loop-server l = AllByRecursion LeadsOn (map bytes_in (take l.server-index l.read))
