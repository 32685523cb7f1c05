use Rattle.std.proofs.Common.{ap}
use Rattle.reflector.proofs.requests.append_bookmarks.Goals as goal

pub returns-clause-form : goal.returns-clause-form
returns-clause-form c =
    let is = c.in_ok-append_pair.ensures.ok in
    ap (λ q. q.form) is
