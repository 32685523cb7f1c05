use Rattle.std.proofs.Common.{[], ◌≡◌, ◌≤◌, ◌∙◌, add-one, false, length, refl, subst, sym, true, true≢false, arith}
use Rattle.std.specs.Prelude.{◌<◌}
use Rattle.reflector.specs.InformerViews.{settings_in}
use Rattle.reflector.specs.Run.{closed}
use Rattle.mirroring.specs.Syncs.{all_replied, has_reached}
use Rattle.mirroring.specs.Turns.{Answers, LearnsReason}
use Rattle.mirroring.proofs.Ahead.{closed_keeps}
use Rattle.mirroring.proofs.Replies.{catches_more, faults_then, idle_after}
use Rattle.mirroring.proofs.Texts.{error_is}
use Rattle.mirroring.proofs.syncing.catch_up.Goals as goal

pub turns-init : goal.turns-init
turns-init g c = (omega arith, c.closed.ensures.settings, λ d is. ([], refl, refl, (is.0, is.1, c.closed.ensures.closed d is.0 is.1 is.2)))

pub turns-preserved : goal.turns-preserved
turns-preserved g c = (
  subst (λ k. k ≤ c.args.turns) (sym (add-one c.turns.made)) c.turns-test.true,
  c.turn_until.ensures.settings ∙ c.turns.invariant.1,
  λ d is.
      let (replies, many, hands, runs) = c.turns.invariant.2 d is in
      let settings = settings_in c.args.informer.now in
      let e = all_replied settings.wanted (closed d) replies in
      let idle = idle_after settings.wanted (closed d) replies (closed_keeps d).0 in
      let behind : has_reached c.args.least e.cache ≡ false = sym (c.has_reached.ensures e.cache (c.revision.ensures e runs.0 runs.1 runs.2)) ∙ c.if-has_reached.false in
      catches_more (λ b s. g.I.IndexBy.keys b s) (Answers (λ a q r b. g.D.Dial.dials a q r b) (λ r. g.D.Reader.Read.remaining r)) (λ a t b. g.D.Dial.learns a t b) settings (settings_in c.turns.informer) c.args.least c.turns.made _
      c.args.dialer.now c.turns.dialer c.turn_until.new.dialer c.report_relist_reason.new.dialer (closed d) c.turn_until.new.informer replies c.turns.invariant.1 (add-one c.turns.made) many hands behind
      (c.in_ok-turn_until.ensures.replied e runs idle)
      (subst (λ t. LearnsReason (λ a t b. g.D.Dial.learns a t b) t c.turn_until.new.dialer c.report_relist_reason.new.dialer) c.relist_reason.ensures c.report_relist_reason.ensures),
)

pub returns-in_err-turn_until-clause-fault : goal.returns-in_err-turn_until-clause-fault
returns-in_err-turn_until-clause-fault g c = λ d is.
    let (replies, many, hands, runs) = c.turns.invariant.2 d is in
    let settings = settings_in c.args.informer.now in
    let e = all_replied settings.wanted (closed d) replies in
    let idle = idle_after settings.wanted (closed d) replies (closed_keeps d).0 in
    let behind : has_reached c.args.least e.cache ≡ false = sym (c.has_reached.ensures e.cache (c.revision.ensures e runs.0 runs.1 runs.2)) ∙ c.if-has_reached.false in
    error_is c.from_residual.result _ _ c.from_residual.ensures.1
    (faults_then (λ b s. g.I.IndexBy.keys b s) (Answers (λ a q r b. g.D.Dial.dials a q r b) (λ r. g.D.Reader.Read.remaining r)) (λ a t b. g.D.Dial.learns a t b) settings (settings_in c.turns.informer) c.args.least c.args.turns
    c.args.dialer.now c.turns.dialer (closed d) c.turn_until.new.informer replies _ c.turns.invariant.1 (closed_keeps d).0 hands behind (subst (λ k. k < c.args.turns) (sym many) c.turns-test.true)
    (c.in_err-turn_until.ensures.left e runs idle))

pub returns-then-has_reached-clause-made : goal.returns-then-has_reached-clause-made
returns-then-has_reached-clause-made g c = λ d is.
    let (replies, many, hands, runs) = c.turns.invariant.2 d is in
    let settings = settings_in c.args.informer.now in
    let e = all_replied settings.wanted (closed d) replies in
    let reached : has_reached c.args.least e.cache ≡ true = sym (c.has_reached.ensures e.cache (c.revision.ensures e runs.0 runs.1 runs.2)) ∙ c.if-has_reached.true in
    (replies, many, (hands, runs, subst (λ k. k ≤ c.args.turns) (sym many) c.turns.invariant.0, λ behind. absurd (true≢false (sym reached ∙ behind))))

pub returns-clause-made : goal.returns-clause-made
returns-clause-made g c = λ d is.
    let (replies, many, hands, runs) = c.turns.invariant.2 d is in
    let most = c.turns.invariant.0 in
    let over = c.turns-test.false in
    let all : length replies ≡ c.args.turns = omega (arith, most, over, many) in
    (replies, all, (hands, runs, omega (arith, all), λ behind. all))

pub returns-then-has_reached-clause-few : goal.returns-then-has_reached-clause-few
returns-then-has_reached-clause-few g c = c.turns.invariant.0
