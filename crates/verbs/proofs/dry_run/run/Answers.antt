use Rattle.std.proofs.Common.{sym}
use Rattle.api_types.specs.Served.{types_view}
use Rattle.api_request.specs.Calls.{type_at}
use Rattle.api_request.specs.Views.{call_of, plan_of}
use Rattle.verbs.specs.DryRuns.{is_dry_run}
use Rattle.verbs.specs.Views.{objects_in}
use Rattle.verbs.proofs.Runs.{no_change_runs}
use Rattle.verbs.proofs.dry_run.run.Goals as goal

pub returns-then-is_none-clause-run : goal.returns-then-is_none-clause-run
returns-then-is_none-clause-run c =
    let call = call_of c.args.call.now in
    sym (no_change_runs (is_dry_run (type_at (types_view c.args.types.now) call.target) call) (objects_in c.args.store.now) (plan_of c.args.plan) (c.is_none.ensures.0 c.if-is_none.true))
