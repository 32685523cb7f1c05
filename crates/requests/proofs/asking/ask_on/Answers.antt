use Rattle.std.proofs.Common.{List, ℕ, drop, sym, ap, subst, ◌∙◌}
use Rattle.requests.specs.Pendings.{Finds, body_call}
use Rattle.requests.proofs.Saying.{finds_more}
use Rattle.requests.proofs.asking.ask_on.Goals as goal

pub returns : goal.returns
returns c = λ types prefix more is awaits.
    let p = c.args.pending in
    let asked = c.in_ok-asked.asked in
    subst (λ (b : List ℕ). Finds types b asked) (sym is)
    (finds_more types prefix more p asked awaits (c.in_ok-asked.ensures.asks ∙ ap (body_call p) (c.bytes_after-rest.ensures ∙ ap (drop p.head) is)) c.in_ok-asked.ensures.carries)
