use Rattle.std.proofs.Common.{◌≡◌, ◌∙◌, ap, subst, sym, true}
use Rattle.std.specs.Io.KnownBytes.{Consumes}
use Rattle.reflector.specs.Client.{Client}
use Rattle.reflector.specs.InformerViews.{settings_in}
use Rattle.reflector.specs.Run.{asked, receives_all}
use Rattle.mirroring.proofs.Replies.{got_more, left_given_up, left_open}
use Rattle.mirroring.proofs.Texts.{on_err}
use Rattle.mirroring.proofs.syncing.receive_until.Goals as goal

pub returns-in_err-piece-clause-left : goal.returns-in_err-piece-clause-left
returns-in_err-piece-clause-left g c = λ d runs calm. on_err _ _ (left_open _ (settings_in c.args.informer.now).wanted d _ _ _ (c.pieces.invariant.1 d runs calm))

pub returns-in_err-feed-clause-left : goal.returns-in_err-feed-clause-left
returns-in_err-feed-clause-left g c = λ d runs calm.
    let (bytes, items, is, read, run, why) = c.pieces.invariant.1 d runs calm in
    let wanted = (settings_in c.args.informer.now).wanted in
    let left = c.in_err-feed.ensures.given_up (receives_all wanted (asked d) items) bytes items run in
    on_err _ _ (left_given_up _ wanted _ d _ bytes items c.deref.result.now left.0 (ap (λ s. s.wanted) c.pieces.invariant.0) left.1 left.2)

pub pieces-preserved : goal.pieces-preserved
pieces-preserved g c = (
  c.feed.ensures.settings ∙ c.pieces.invariant.0,
  λ d runs calm.
      let (bytes, items, is, read, run, why) = c.pieces.invariant.1 d runs calm in
      let wanted = (settings_in c.args.informer.now).wanted in
      let now : Client = receives_all wanted (asked d) items in
      let asks : now.is_awaiting_reply ≡ true = sym (c.is_awaiting_reply.ensures now bytes items run) ∙ c.if-not-is_awaiting_reply.false in
      let more = c.in_ok-feed.ensures.received now bytes items run asks in
      got_more _ wanted _ d _ _ _ _ bytes items c.deref.result.now more.0 (ap (λ s. s.wanted) c.pieces.invariant.0) asks read (subst (Consumes _ _) (sym c.deref.ensures.value) c.in_ok-piece.ensures) more.1 more.2
      (c.in_ok-feed.ensures.relist_reason now bytes items more.0 run asks more.1),
)
