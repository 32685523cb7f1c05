use Rattle.std.proofs.Common.{ap, subst}
use Rattle.std.specs.declared.result.Result.TheVariants.{Err}
use Rattle.httpedge.specs.HubViews.{ReportsFile, event_of, refusal_of}
use Rattle.httpedge.specs.declared.effect.Effect.{Effect}
use Rattle.httpedge.specs.declared.fault.HubFault.{HubFault}
use Rattle.world.proofs.Kept.{ended, leads, refuses}
use Rattle.world.proofs.recording.hand.Goals as goal

pub returns-in-Ok-clause-handled : goal.returns-in-Ok-clause-handled
returns-in-Ok-clause-handled c = λ s represents.
    let led = c.in-Ok.ensures.follows s represents in
    (led.1, (c.in-Ok.ensures.refused s represents, led.4), led.5)

pub returns-in-Err-Refused-clause-handled : goal.returns-in-Err-Refused-clause-handled
returns-in-Err-Refused-clause-handled c = λ s represents.
    let step = c.in-Err-Refused in
    let e = event_of c.args.event.now in
    let why = refusal_of step.why in
    let is = ap ended step.field-0-is in
    let led = step.ensures.follows s represents in
    (led.1, (refuses s e _ why is (step.ensures.refused s represents), leads s led.1 e led.0 _ why is led.2 led.3), led.5)

pub returns-in-Err-Refused-clause-reported : goal.returns-in-Err-Refused-clause-reported
returns-in-Err-Refused-clause-reported c =
    let step = c.in-Err-Refused in
    subst (λ (f : HubFault). ReportsFile {A = Effect} (event_of c.args.event.now) (Err f)) step.field-0-is step.ensures.reported
