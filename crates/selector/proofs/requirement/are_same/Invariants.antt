use Rattle.std.proofs.Common.{◌≡◌, map, take}
use Rattle.selector.specs.Views.{requirement_of}
use Rattle.selector.proofs.requirement.are_same.Given as goal

abbrev pub invariant-loop-i : goal.invariant-loop-i
invariant-loop-i l = map requirement_of (take l.i l.ones) ≡ map requirement_of (take l.i l.others)
