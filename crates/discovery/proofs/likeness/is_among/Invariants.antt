use Rattle.std.proofs.Common.{◌≡◌, drop, map}
use Rattle.std.specs.List.{list_any}
use Rattle.api_types.specs.ServedViews.{served}
use Rattle.discovery.specs.Groups.{is_like}
use Rattle.discovery.proofs.likeness.is_among.Given as goal

abbrev pub invariant-loop-one : goal.invariant-loop-one
invariant-loop-one l =
    list_any (is_like l.likeness (served l.other)) (map (λ t. served t.now) (drop l.one-index l.found)) ≡ list_any (is_like l.likeness (served l.other)) (map (λ t. served t.now) l.found)
