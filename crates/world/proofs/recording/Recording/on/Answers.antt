use Rattle.std.proofs.Common.{ℕ}
use Rattle.std.specs.FinMap as fin
use Rattle.std.proofs.lemmas.Result.{IfOk-weaker}
use Rattle.httpedge.specs.HubViews.{event_of}
use Rattle.world.specs.Recording.{IsKept, kept_on}
use Rattle.world.proofs.Kept.{kept_stays, none_goes, steps_of}
use Rattle.world.proofs.recording.Recording.on.Goals as goal

pub returns-in-Gone-clause-handled : goal.returns-in-Gone-clause-handled
returns-in-Gone-clause-handled c = λ s records. rw c.in-Gone.is (c.go.ensures.handled s records)

pub returns-in-Gone-clause-reported : goal.returns-in-Gone-clause-reported
returns-in-Gone-clause-reported c = rw c.in-Gone.is c.go.ensures.reported

pub returns-in-Open-clause-handled : goal.returns-in-Open-clause-handled
returns-in-Open-clause-handled c = λ s records.
    let e = event_of c.args.event.now in
    IfOk-weaker c.hand.result _ _ (λ h led.
    let t = led.0 in
    let kept : (q : ℕ) → IsKept (kept_on c.args.self.now q) (fin.get t.connections q) =
    λ q. kept_stays c.all_is_out.ensures.one_stays c.gone_stays.ensures.stays s t e (none_goes c.args.event.now c.in-Open.is) (steps_of s e h t led.1) q (kept_on c.args.self.now q) (records.1 q) in
    (t, led.1, (led.2, kept)))
    (c.hand.ensures.handled s records.0)
