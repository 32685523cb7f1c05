use Rattle.std.proofs.Common.{◌≡◌, drop, map}
use Rattle.api_types.specs.ServedViews.{served}
use Rattle.discovery.specs.Paths.{first_at, first_from}
use Rattle.discovery.proofs.document.first_at.Given as goal

-- what is found among those that are left is what is found among all
abbrev pub invariant-loop-one : goal.invariant-loop-one
invariant-loop-one l = (l.number ≡ l.one-index) × (first_from l.number l.path (map served (drop l.one-index l.all)) ≡ first_at l.path (map served l.all))
