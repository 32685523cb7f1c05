use Rattle.std.proofs.Common.{[], ◌∙◌, ap, inl, inr, refl, subst, sym, true≢false}
use Rattle.std.specs.Prelude.{option_map}
use Rattle.reflector.specs.InformerViews.{settings_in}
use Rattle.reflector.specs.Run.{asked, closed}
use Rattle.mirroring.specs.Turns.{Is, is_undialled}
use Rattle.mirroring.specs.declared.fault.MirrorFault.TheVariants.{Memory}
use Rattle.mirroring.proofs.Texts.{error_is}
use Rattle.mirroring.proofs.Following.{due_now, not_none_due}
use Rattle.mirroring.proofs.Replies.{left_nothing, left_once, replies_once}
use Rattle.mirroring.proofs.syncing.turn_until.Goals as goal

pub returns-clause-replied : goal.returns-clause-replied
returns-clause-replied g c = λ d is idle.
    let settings = settings_in c.args.informer.now in
    let due = due_now settings d _ idle (ap (option_map (λ v. v.items)) (sym c.in-Some.is) ∙ c.in_ok-request.ensures.due d is.0 is.1 is.2) in
    let request = c.deref.ensures.value ∙ due in
    let dialled = subst (λ r. g.D.Dial.dials c.args.dialer.now r c.in-Ok.reader c.dial.new.self) request c.in-Ok.ensures in
    let received = c.receive_until-done.ensures.received d (c.in_ok-request.ensures.asked d is.0 is.1 is.2 idle) (c.in_ok-request.ensures.relist_reason d is.0 is.1 is.2 idle) in
    replies_once c.receive_until-done.result (λ b s. g.I.IndexBy.keys b s) (λ a q r b. g.D.Dial.dials a q r b) (λ r. g.D.Reader.Read.remaining r) (settings_in c.next_request.new.self) settings
    c.args.dialer.now c.dial.new.self d c.in-Ok.reader c.receive_until-done.new.reader c.receive_until-done.new.informer c.closed-2.new.self
    c.in_ok-request.ensures.settings dialled c.closed-2.ensures.closed c.closed-2.ensures.relist_reason received

pub returns-clause-left : goal.returns-clause-left
returns-clause-left g c = λ d is idle.
    let settings = settings_in c.args.informer.now in
    left_once c.receive_until-done.result is_undialled (λ b s. g.I.IndexBy.keys b s) (settings_in c.next_request.new.self).wanted settings.wanted d c.receive_until-done.new.informer c.closed-2.new.self
    (ap (λ s. s.wanted) c.in_ok-request.ensures.settings) c.closed-2.ensures.closed c.receive_until-done.ensures.dialled
    (c.receive_until-done.ensures.left d (c.in_ok-request.ensures.asked d is.0 is.1 is.2 idle) (c.in_ok-request.ensures.relist_reason d is.0 is.1 is.2 idle))

pub returns-in-Err-clause-left : goal.returns-in-Err-clause-left
returns-in-Err-clause-left g c = λ d is idle. (
  [],
  closed (asked d),
  left_nothing _ (settings_in c.args.informer.now).wanted d (closed (asked d)) _ (inr (inl refl)) ([], [], c.closed.ensures.closed (asked d) [] [] (c.in_ok-request.ensures.asked d is.0 is.1 is.2 idle)),
  λ undialled. refl,
)

pub returns-in_err-request-clause-left : goal.returns-in_err-request-clause-left
returns-in_err-request-clause-left g c = λ d is idle.
    error_is c.from_residual.result Memory _ c.from_residual.ensures.1 (
      [],
      d,
      left_nothing _ (settings_in c.args.informer.now).wanted d d _ (inl refl) (subst (λ i. Is (λ b s. g.I.IndexBy.keys b s) i d) (sym c.in_err-request.ensures.refused) is),
      λ undialled. absurd (true≢false (sym undialled)),
    )

pub returns-in_default-clause-replied : goal.returns-in_default-clause-replied
returns-in_default-clause-replied g c = λ d is idle.
    absurd (not_none_due (settings_in c.args.informer.now) d idle (ap (option_map (λ v. v.items)) (sym c.in_default.is) ∙ c.in_ok-request.ensures.due d is.0 is.1 is.2))
