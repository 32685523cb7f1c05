use Rattle.schema.specs.Shape.{fields_in}
use Rattle.discovery.specs.OpenApi.{properties_of}
use Rattle.discovery.proofs.Loops.{MembersSoFar}
use Rattle.discovery.proofs.schemas.+schemas.Given as goal

abbrev pub invariant-put_properties-loop-name : goal.invariant-put_properties-loop-name
invariant-put_properties-loop-name l = MembersSoFar (λ ys. properties_of (fields_in ys)) l.fields l.fn.writer l.name-index l.writer
