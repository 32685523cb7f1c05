use Rattle.std.proofs.Common.{map}
use Rattle.api_types.specs.ServedViews.{served}
use Rattle.discovery.specs.Documents.{members_by}
use Rattle.discovery.specs.OpenApi.{add_schema}
use Rattle.discovery.proofs.Loops.{MembersSoFar}
use Rattle.discovery.proofs.type_schema.put_schemas.Given as goal

abbrev pub invariant-loop-one : goal.invariant-loop-one
invariant-loop-one l = MembersSoFar (λ ys. members_by (add_schema (served l.of)) (map (λ t. served t.now) ys)) l.types l.fn.writer l.one-index l.writer
