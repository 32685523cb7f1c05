use Rattle.std.proofs.Common.{◌≡◌, map, take}
use Rattle.selector.specs.Views.{requirement_of}
use Rattle.selector.proofs.requirement.copy_all.Given as goal

abbrev pub invariant-loop-requirement : goal.invariant-loop-requirement
invariant-loop-requirement l = map requirement_of l.copies.items ≡ map requirement_of (take l.requirement-index l.requirements)
