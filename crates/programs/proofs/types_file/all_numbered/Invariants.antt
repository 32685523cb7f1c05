use Rattle.std.proofs.Common.{List, ◌++◌}
use Rattle.programs.specs.ReplayProgram.{AreNumbered}
use Rattle.programs.specs.declared.types_refusal.TypesRefusal.{TypesRefusal}
use Rattle.programs.proofs.types_file.all_numbered.Given as goal

abbrev pub invariant-loop-reported : goal.invariant-loop-reported
invariant-loop-reported l = (more : List TypesRefusal) → AreNumbered l.reported-iterator.rest.items more → AreNumbered l.fn.all.items (l.refusals.items ++ more)
