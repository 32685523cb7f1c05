use Rattle.api_request.specs.Calls.{Plan}
use Rattle.api_request.specs.Validated.{refused_for}
use Rattle.api_request.proofs.Refusals.{refuses_fails}
use Rattle.verbs.proofs.answering.refused_for.Goals as goal

pub returns-clause-planned : goal.returns-clause-planned
returns-clause-planned c =
    let message = c.args.message.now in
    c.plan_for.ensures.plan_for (refused_for c.args.reason message) (refuses_fails Plan c.refused_for.result c.args.reason message c.refused_for.ensures)
