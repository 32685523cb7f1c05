use Rattle.std.proofs.Common.{ℕ, List, subst, ◌∙◌}
use Rattle.requests.specs.Pendings.{Finds}
use Rattle.httpedge.proofs.connection.receive_body.Goals as goal

pub returns-clause-ok : goal.returns-clause-ok
returns-clause-ok c = λ types m before more represents is awaits.
    c.decided.ensures.ok types m represents (subst (λ (b : List ℕ). Finds types b c.in_ok-decision.decision) c.bytes.ensures (c.in_ok-decision.ensures types before more (c.bytes.ensures ∙ is) awaits))
