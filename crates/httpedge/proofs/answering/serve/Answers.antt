use Rattle.std.proofs.Common.{◌≡◌, refl, subst}
use Rattle.api_request.specs.Calls.{Plan}
use Rattle.verbs.specs.Machine.{after}
use Rattle.api_request.specs.Views.{plan_of}
use Rattle.verbs.specs.Views.{ApiRepresents}
use Rattle.requests.specs.Replies.{answer_bytes}
use Rattle.httpedge.proofs.Results.{on_err}
use Rattle.httpedge.proofs.answering.serve.Goals as goal

pub returns-clause-ok : goal.returns-clause-ok
returns-clause-ok c = λ types m represents.
    subst (λ (p : Plan). (c.in_ok-bytes.bytes.items ≡ answer_bytes p.answer (plan_of c.in_ok-plan.plan).answer.watch) × ((plan_of c.in_ok-plan.plan).answer.status ≡ p.answer.status) × ((plan_of c.in_ok-plan.plan).answer.watch ≡ p.answer.watch)
    × ApiRepresents c.commit.new.self types (after m p.changes))
    (c.in_ok-plan.ensures.planned types m represents)
    (c.in_ok-bytes.ensures, refl, refl, c.in_ok-commit.ensures.ok types m (c.plan.ensures.same types m represents) (c.in_ok-plan.ensures.next types m represents))

pub returns-in_err-plan-clause-err : goal.returns-in_err-plan-clause-err
returns-in_err-plan-clause-err c = λ types m represents. on_err c.from_residual.result (c.plan.ensures.same types m represents)

pub returns-in_err-bytes-clause-err : goal.returns-in_err-bytes-clause-err
returns-in_err-bytes-clause-err c = λ types m represents. on_err c.from_residual-in_err-bytes.result (c.plan.ensures.same types m represents)

pub returns-in_err-commit-clause-err : goal.returns-in_err-commit-clause-err
returns-in_err-commit-clause-err c = λ types m represents. on_err c.from_residual-in_err-commit.result (c.in_err-commit.ensures.err types m (c.plan.ensures.same types m represents))
