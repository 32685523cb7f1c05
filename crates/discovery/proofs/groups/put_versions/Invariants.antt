use Rattle.std.proofs.Common.{map}
use Rattle.api_types.specs.ServedViews.{served}
use Rattle.discovery.specs.Documents.{add_version, items_by}
use Rattle.discovery.proofs.Loops.{ItemsSoFar}
use Rattle.discovery.proofs.groups.put_versions.Given as goal

abbrev pub invariant-loop-one : goal.invariant-loop-one
invariant-loop-one l = ItemsSoFar (λ ys. items_by (add_version (served l.of)) (map (λ t. served t.now) ys)) l.versions l.fn.writer l.one-index l.writer
