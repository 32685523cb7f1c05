use Rattle.std.proofs.Common.{◌∙◌, None, ap, cond, subst}
use Rattle.world.specs.Views.{event_seen}
use Rattle.world.specs.Stepping.{Refuses, opens_own}
use Rattle.world.proofs.Refusals.{opened_refused, opened_taken}
use Rattle.world.proofs.stepping.opened_by.Goals as goal

pub returns-in-Some : goal.returns-in-Some
returns-in-Some c = λ why refuses. opened_refused (opens_own (event_seen c.args.event.now)) c.args.next _ why (subst (λ r. Refuses r why) c.in-Some.is refuses)

pub returns-in-None : goal.returns-in-None
returns-in-None c = λ why refuses.
    let next = c.args.next in
    c.if_meant.ensures ∙ ap (λ b. cond b next None) c.opens_own.ensures ∙ opened_taken (opens_own (event_seen c.args.event.now)) next why (subst (λ r. Refuses r why) c.in-None.is refuses)
