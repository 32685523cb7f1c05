use Rattle.std.proofs.Common.{◌≡◌, drop, map}
use Rattle.std.specs.List.{fold}
use Rattle.api_types.specs.ServedViews.{served}
use Rattle.discovery.specs.Groups.{firsts, with_first}
use Rattle.discovery.proofs.likeness.firsts.Given as goal

abbrev pub invariant-loop-one : goal.invariant-loop-one
invariant-loop-one l = fold (with_first l.likeness) (map (λ t. served t.now) l.found.items) (map served (drop l.one-index l.types)) ≡ firsts l.likeness (map served l.types)
