use Rattle.std.proofs.Common.{map}
use Rattle.api_types.specs.ServedViews.{served}
use Rattle.discovery.specs.Documents.{add_group, items_by}
use Rattle.discovery.proofs.Loops.{ItemsSoFar}
use Rattle.discovery.proofs.groups.put_groups.Given as goal

abbrev pub invariant-loop-of : goal.invariant-loop-of
invariant-loop-of l = ItemsSoFar (λ ys. items_by (add_group (map served l.types)) (map (λ t. served t.now) ys)) l.groups l.fn.writer l.of-index l.writer
