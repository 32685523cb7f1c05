use Rattle.std.proofs.Common.{◌≡◌, ◌∙◌, ◌==◌, ap, sym, subst}
use Rattle.std.specs.Result.{IfOk}
use Rattle.serde_json.specs.Data.{object}
use Rattle.serde_json.specs.View.{view}
use Rattle.api_request.specs.Status.{status_members}
use Rattle.api_request.proofs.Statuses.{some_causes}
use Rattle.api_request.proofs.status.status_with_causes.Goals as goal

pub returns : goal.returns
returns c =
    let vs = c.args.causes.items in
    subst (λ x. IfOk c.status_with_some.result (λ v. view v ≡ x))
    (ap object (some_causes vs (status_members c.args.reason c.args.message.now) (ap (λ n. n == 0) (sym c.args.causes.ok.0) ∙ sym c.is_empty.ensures ∙ c.if-is_empty.false)))
    c.status_with_some.ensures
