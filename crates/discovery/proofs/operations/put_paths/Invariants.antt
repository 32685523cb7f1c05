use Rattle.std.proofs.Common.{map}
use Rattle.api_types.specs.ServedViews.{served}
use Rattle.discovery.specs.Documents.{members_by}
use Rattle.discovery.specs.OpenApi.{add_path}
use Rattle.discovery.proofs.Loops.{MembersSoFar}
use Rattle.discovery.proofs.operations.put_paths.Given as goal

abbrev pub invariant-loop-one : goal.invariant-loop-one
invariant-loop-one l = MembersSoFar (λ ys. members_by (add_path (served l.of)) (map served ys)) l.types l.fn.writer l.one-index l.writer
