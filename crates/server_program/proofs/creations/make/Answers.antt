use Rattle.std.proofs.Common.{◌≡◌, rules}
use Rattle.api_request.specs.Views.{call_of, plan_of}
use Rattle.server_program.proofs.Creating.{creates_by}
use Rattle.server_program.proofs.creations.make.Goals as goal

pub returns-clause-ok : goal.returns-clause-ok
returns-clause-ok c = λ types m line stands creation.
    let is : c.in_ok-plan.plan.answer.status ≡ 201 = search rules in
    creates_by types m line (call_of c.args.call.now) (plan_of c.in_ok-plan.plan) c.commit.new.self creation (c.in_ok-plan.ensures.planned types m stands) is
    (c.in_ok-commit.ensures.ok types m (c.plan.ensures.same types m stands) (c.in_ok-plan.ensures.next types m stands))
