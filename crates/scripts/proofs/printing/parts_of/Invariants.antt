use Rattle.std.proofs.Common.{◌≡◌, ◌++◌, map, take}
use Rattle.scripts.specs.Output.{reported}
use Rattle.scripts.specs.Parts.{part_seen}
use Rattle.scripts.proofs.printing.parts_of.Given as goal

abbrev pub invariant-loop-report : goal.invariant-loop-report
invariant-loop-report l = map part_seen l.parts.items ≡ map part_seen l.initial.parts.items ++ map reported (take l.report-index l.report-items)
