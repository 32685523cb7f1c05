use Rattle.schema.specs.Shape.{fields_in}
use Rattle.discovery.specs.OpenApi.{own_fields}
use Rattle.discovery.proofs.Loops.{MembersSoFar}
use Rattle.discovery.proofs.type_schema.put_fields.Given as goal

abbrev pub invariant-loop-name : goal.invariant-loop-name
invariant-loop-name l = MembersSoFar (λ ys. own_fields (fields_in ys)) l.fields l.fn.writer l.name-index l.writer
