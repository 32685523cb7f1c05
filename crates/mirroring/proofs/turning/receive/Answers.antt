use Rattle.std.proofs.Common.{◌≡◌, ◌∙◌, ap, refl, subst, sym, true}
use Rattle.std.specs.Io.KnownBytes.{Consumes}
use Rattle.reflector.specs.Client.{Client}
use Rattle.reflector.specs.InformerViews.{settings_in}
use Rattle.reflector.specs.Run.{asked, receives_all, taken}
use Rattle.mirroring.proofs.Texts.{prefix_all, prefix_more, received_more, on_err}
use Rattle.mirroring.proofs.turning.receive.Goals as goal

pub returns-in_err-piece-clause-fault : goal.returns-in_err-piece-clause-fault
returns-in_err-piece-clause-fault g c = λ d runs none calm. on_err _ _ (prefix_all _ (settings_in c.args.informer.now).wanted d _ _ _ _ _ (c.pieces.invariant.1 d runs none calm))

pub returns-in_err-take_piece-clause-fault : goal.returns-in_err-take_piece-clause-fault
returns-in_err-take_piece-clause-fault g c = λ d runs none calm.
    let (bytes, items, is, read, run, emitted, why) = c.pieces.invariant.1 d runs none calm in
    let wanted = (settings_in c.args.informer.now).wanted in
    let now : Client = receives_all wanted (asked d) items in
    let asks : now.is_awaiting_reply ≡ true = sym (c.is_awaiting_reply.ensures (taken now) bytes items run) ∙ c.if-not-is_awaiting_reply.false in
    let prefix = c.in_err-take_piece.ensures.fault (taken now) bytes items run is asks refl in
    on_err _ _ (prefix_more wanted _ d _ _ _ bytes items (ap (λ s. s.wanted) c.pieces.invariant.0) none asks emitted prefix)

pub pieces-preserved : goal.pieces-preserved
pieces-preserved g c = (
  c.take_piece.ensures.settings ∙ c.pieces.invariant.0,
  λ d runs none calm.
      let (bytes, items, is, read, run, emitted, why) = c.pieces.invariant.1 d runs none calm in
      let wanted = (settings_in c.args.informer.now).wanted in
      let now : Client = receives_all wanted (asked d) items in
      let asks : now.is_awaiting_reply ≡ true = sym (c.is_awaiting_reply.ensures (taken now) bytes items run) ∙ c.if-not-is_awaiting_reply.false in
      let more = c.in_ok-take_piece.ensures.emitted (taken now) bytes items run is asks refl in
      received_more _ wanted _ d _ _ _ _ _ _ _ bytes items c.deref.result.now (ap (λ s. s.wanted) c.pieces.invariant.0) none asks read emitted
      (subst (Consumes _ _) (sym c.deref.ensures.value) c.in_ok-piece.ensures) more,
)
