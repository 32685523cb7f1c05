use Rattle.std.proofs.Common.{sym, ap, ◌∙◌}
use Rattle.reflector.proofs.Queries.{with_filled}
use Rattle.reflector.proofs.requests.append_selector.Goals as goal

pub returns-in_ok-append_pair-clause-form : goal.returns-in_ok-append_pair-clause-form
returns-in_ok-append_pair-clause-form c =
    let is = c.in_ok-append_pair.ensures.ok in
    ap (λ q. q.form) is ∙ with_filled c.args.selector.now c.args.query.now.form (sym c.is_empty.ensures ∙ c.if-not-is_empty.true)
