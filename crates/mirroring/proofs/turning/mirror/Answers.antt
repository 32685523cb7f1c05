use Rattle.std.proofs.Common.{[], ◌≡◌, ◌≤◌, ◌∙◌, add-one, ap, subst, sym, arith}
use Rattle.std.specs.Io.KnownBytes.{Appends}
use Rattle.reflector.specs.InformerViews.{settings_in}
use Rattle.reflector.specs.Run.{taken}
use Rattle.mirroring.specs.Printing.{mirror_text}
use Rattle.mirroring.specs.Turns.{Answers, LearnsReason, Turns}
use Rattle.mirroring.proofs.Following.{prefix_then, mirrors_then, once_same, part_same}
use Rattle.mirroring.proofs.Texts.{error_is, on_err}
use Rattle.mirroring.proofs.turning.mirror.Goals as goal

pub returns-in_err-turn-clause-fault : goal.returns-in_err-turn-clause-fault
returns-in_err-turn-clause-fault g c = λ d is idle.
    let (m, first, did, run, quiet, before, emitted) = c.turns.invariant.2 d is idle in
    let none : (taken m).notices ≡ [] = λ i. [] in
    let prefix = part_same _ (settings_in c.args.informer.now).wanted (taken m) _ _ (ap (λ s. s.wanted) c.turns.invariant.1) (c.in_err-turn.ensures.fault (taken m) run (quiet, none)) in
    on_err _ _
    (prefix_then (Answers (λ a q r b. g.D.Dial.dials a q r b) (λ r. g.D.Reader.Read.remaining r)) (λ a t b. g.D.Dial.learns a t b) (settings_in c.args.informer.now) m c.turns.counter c.args.turns c.args.dialer.now c.turns.dialer
    d first (g.W.Write.contents c.args.out.now) (g.W.Write.contents c.turns.out) (g.W.Write.contents c.turn.new.out) c.turns-test.true did before emitted prefix)

pub turns-preserved : goal.turns-preserved
turns-preserved g c = (
  subst (λ k. k ≤ c.args.turns) (sym (add-one c.turns.counter)) c.turns-test.true,
  c.turn.ensures.settings ∙ c.turns.invariant.1,
  λ d is idle.
      let (m, first, did, run, quiet, before, emitted) = c.turns.invariant.2 d is idle in
      let none : (taken m).notices ≡ [] = λ i. [] in
      let once = once_same (λ b s. g.I.IndexBy.keys b s) (Answers (λ a q r b. g.D.Dial.dials a q r b) (λ r. g.D.Reader.Read.remaining r)) (settings_in c.turns.informer) (settings_in c.args.informer.now)
      c.turns.dialer (taken m) c.turn.new.dialer c.turn.new.informer (g.W.Write.contents c.turns.out) (g.W.Write.contents c.turn.new.out) c.turns.invariant.1
      (c.in_ok-turn.ensures.emitted (taken m) run (quiet, none)) in
      mirrors_then (Answers (λ a q r b. g.D.Dial.dials a q r b) (λ r. g.D.Reader.Read.remaining r)) (λ a t b. g.D.Dial.learns a t b) (settings_in c.args.informer.now) m (λ b s. g.I.IndexBy.keys b s) c.turns.counter _
      c.args.dialer.now c.turns.dialer c.turn.new.dialer c.report_relist_reason.new.dialer d first c.turn.new.informer (g.W.Write.contents c.args.out.now) (g.W.Write.contents c.turns.out) (g.W.Write.contents c.turn.new.out)
      (add-one c.turns.counter) did before emitted once
      (subst (λ t. LearnsReason (λ a t b. g.D.Dial.learns a t b) t c.turn.new.dialer c.report_relist_reason.new.dialer) c.relist_reason.ensures c.report_relist_reason.ensures),
)

pub returns-clause-emitted : goal.returns-clause-emitted
returns-clause-emitted g c = λ d is idle.
    let (m, first, did, run, quiet, before, emitted) = c.turns.invariant.2 d is idle in
    let most = c.turns.invariant.0 in
    let over = c.turns-test.false in
    let all : c.turns.counter ≡ c.args.turns = omega (arith, most, over) in
    (m, first, subst (λ k. Turns (Answers (λ a q r b. g.D.Dial.dials a q r b) (λ r. g.D.Reader.Read.remaining r)) (λ a t b. g.D.Dial.learns a t b) (settings_in c.args.informer.now) k c.args.dialer.now d c.turns.dialer m first) all did, run, emitted)

pub returns-in_err-made-clause-fault : goal.returns-in_err-made-clause-fault
returns-in_err-made-clause-fault g c = λ d is idle. on_err _ _ (c.in_err-made.ensures.fault d is idle)

pub returns-in_err-made-clause-undialled : goal.returns-in_err-made-clause-undialled
returns-in_err-made-clause-undialled g c = λ d is idle. error_is c.from_residual.result _ _ c.from_residual.ensures.1 (c.in_err-made.ensures.undialled d is idle)

pub returns-in_err-turn-clause-undialled : goal.returns-in_err-turn-clause-undialled
returns-in_err-turn-clause-undialled g c = λ d is idle.
    let (m, first, did, run, quiet, before, emitted) = c.turns.invariant.2 d is idle in
    let none : (taken m).notices ≡ [] = λ i. [] in
    error_is c.from_residual-in_err-turn.result _ _ c.from_residual-in_err-turn.ensures.1
    (λ undialled.
    let (then, same) = c.in_err-turn.ensures.undialled (taken m) run (quiet, none) undialled in (
      c.turns.counter,
      c.turns-test.true,
      c.turns.dialer,
      m,
      first,
      did,
      then,
      subst (λ o. Appends (g.W.Write.contents c.args.out.now) (g.W.Write.contents o) (mirror_text first m.notices)) (sym same) emitted,
    ))
