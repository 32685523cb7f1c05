use Rattle.std.proofs.Common.{[], ◌∙◌, ap, refl, subst, sym}
use Rattle.std.specs.Prelude.{option_map}
use Rattle.reflector.specs.InformerViews.{settings_in}
use Rattle.reflector.specs.Run.{asked}
use Rattle.mirroring.proofs.Following.{due_now, prefix_same, not_none_due, turns_once}
use Rattle.mirroring.proofs.turning.turn.Goals as goal

pub returns-clause-emitted : goal.returns-clause-emitted
returns-clause-emitted g c = λ d is idle.
    let settings = settings_in c.args.informer.now in
    let due = due_now settings d _ idle.0 (ap (option_map (λ v. v.items)) (sym c.in-Some.is) ∙ c.in_ok-request.ensures.due d is.0 is.1 is.2) in
    let request = c.deref.ensures.value ∙ due in
    let dialled = subst (λ r. g.D.Dial.dials c.args.dialer.now r c.in-Ok.reader c.dial.new.self) request c.in-Ok.ensures in
    let received = c.receive-done.ensures.received d (c.in_ok-request.ensures.asked d is.0 is.1 is.2 idle.0) idle.1 (c.in_ok-request.ensures.relist_reason d is.0 is.1 is.2 idle.0) in
    turns_once c.receive-done.result (λ b s. g.I.IndexBy.keys b s) (λ a q r b. g.D.Dial.dials a q r b) (λ r. g.D.Reader.Read.remaining r) (settings_in c.next_request.new.self) settings
    c.args.dialer.now c.dial.new.self d c.in-Ok.reader c.receive-done.new.reader c.receive-done.new.informer c.closed-2.new.self (g.W.Write.contents c.args.out.now) (g.W.Write.contents c.receive-done.new.out)
    c.in_ok-request.ensures.settings dialled c.closed-2.ensures.closed c.closed-2.ensures.relist_reason received

pub returns-clause-fault : goal.returns-clause-fault
returns-clause-fault g c = λ d is idle.
    prefix_same c.receive-done.result (settings_in c.next_request.new.self).wanted (settings_in c.args.informer.now).wanted d (g.W.Write.contents c.args.out.now) (g.W.Write.contents c.receive-done.new.out)
    (ap (λ s. s.wanted) c.in_ok-request.ensures.settings) (c.receive-done.ensures.fault d (c.in_ok-request.ensures.asked d is.0 is.1 is.2 idle.0) idle.1 (c.in_ok-request.ensures.relist_reason d is.0 is.1 is.2 idle.0))

pub returns-in-Err-clause-undialled : goal.returns-in-Err-clause-undialled
returns-in-Err-clause-undialled g c = λ d is idle undialled.
    (([], [], c.closed.ensures.closed (asked d) [] [] (c.in_ok-request.ensures.asked d is.0 is.1 is.2 idle.0)), refl)

pub returns-in_default-clause-emitted : goal.returns-in_default-clause-emitted
returns-in_default-clause-emitted g c = λ d is idle.
    absurd (not_none_due (settings_in c.args.informer.now) d idle.0 (ap (option_map (λ v. v.items)) (sym c.in_default.is) ∙ c.in_ok-request.ensures.due d is.0 is.1 is.2))
