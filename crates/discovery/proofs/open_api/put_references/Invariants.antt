use Rattle.std.proofs.Common.{map}
use Rattle.api_types.specs.ServedViews.{served}
use Rattle.discovery.specs.Documents.{members_by}
use Rattle.discovery.specs.OpenApi.{add_reference}
use Rattle.discovery.proofs.Loops.{MembersSoFar}
use Rattle.discovery.proofs.open_api.put_references.Given as goal

abbrev pub invariant-loop-one : goal.invariant-loop-one
invariant-loop-one l = MembersSoFar (λ ys. members_by add_reference (map (λ t. served t.now) ys)) l.versions l.fn.writer l.one-index l.writer
