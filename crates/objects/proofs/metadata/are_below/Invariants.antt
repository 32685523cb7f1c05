use Rattle.std.proofs.Common.{◌≡◌}
use Rattle.serde_json.specs.View.{members_view}
use Rattle.objects.specs.InOrder.{are_below}
use Rattle.objects.proofs.metadata.are_below.Given as goal

-- all are below if what is left is
abbrev pub invariant-loop-known : goal.invariant-loop-known
invariant-loop-known l = are_below l.name (members_view l.known-iterator) ≡ are_below l.name (members_view l.members.entries)
