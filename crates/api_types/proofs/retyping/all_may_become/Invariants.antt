use Rattle.std.proofs.Common.{◌≡◌, drop, map}
use Rattle.api_types.specs.Retyping.{types_may_become}
use Rattle.api_types.specs.Served.{served}
use Rattle.api_types.proofs.retyping.all_may_become.Given as goal

-- what is said of the types that are left is said of all
abbrev pub invariant-loop-served : goal.invariant-loop-served
invariant-loop-served l = types_may_become (map served (drop l.served-index l.types)) (map served l.left) ≡ types_may_become (map served l.types) (map served l.others)
