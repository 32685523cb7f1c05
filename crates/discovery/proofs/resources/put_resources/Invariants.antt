use Rattle.std.proofs.Common.{map}
use Rattle.api_types.specs.ServedViews.{served}
use Rattle.discovery.specs.Documents.{add_resources, items_by}
use Rattle.discovery.proofs.Loops.{ItemsSoFar}
use Rattle.discovery.proofs.resources.put_resources.Given as goal

abbrev pub invariant-loop-one : goal.invariant-loop-one
invariant-loop-one l = ItemsSoFar (λ ys. items_by (add_resources (served l.of)) (map served ys)) l.types l.fn.writer l.one-index l.writer
