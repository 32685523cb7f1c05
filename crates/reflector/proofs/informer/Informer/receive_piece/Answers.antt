use Rattle.std.proofs.Common.{◌≡◌, None, List, [], map, is_some, ap, refl, sym, subst, ◌∙◌}
use Rattle.std.proofs.lemmas.Result.{on_err_weaker, on_ok_weaker}
use Rattle.wireclient.specs.Reply.{ReplyItem}
use Rattle.wireclient.specs.Views.{reply_item_of}
use Rattle.reflector.specs.InformerViews.{RepresentsExceptReader, settings_in}
use Rattle.reflector.specs.ReadingViews.{AreReceived, IsRead, reader_of}
use Rattle.reflector.specs.Run.{receives_all}
use Rattle.reflector.specs.MirrorRepresentsViews.{MirrorRepresents}
use Rattle.reflector.specs.RelistReasons.{relist_reason_after}
use Rattle.reflector.proofs.ReceivedItems.{on_err}
use Rattle.reflector.proofs.Informing.{none_received, some_received}
use Rattle.reflector.proofs.informer.Informer.receive_piece.Goals as goal

pub returns-clause-received : goal.returns-clause-received
returns-clause-received g c = λ cl bytes emitted run awaiting_reply.
    let wanted = (settings_in c.args.self.now).wanted in
    let was_read = subst (λ r. IsRead (reader_of r) bytes emitted) c.in-Open.is run.read in
    let is_read = c.in_ok-items.ensures bytes emitted was_read in
    let items = c.in_ok-items.items.items in
    on_ok_weaker c.receive_all.result
    (λ k. (
      map reply_item_of items,
      c.receive_all.ensures.read _ _ is_read,
      is_read.1,
      subst (λ xs. RepresentsExceptReader g.I.IndexBy.keys c.receive_all.new.self (receives_all wanted cl (map reply_item_of xs)) (relist_reason_after wanted cl None (map reply_item_of xs))) c.deref.ensures.value k,
    ))
    (c.receive_all.ensures.received cl None (record { mirror = run.kept.mirror; sync = run.kept.sync; awaiting_reply = subst (λ r. is_some (reader_of r) ≡ cl.is_awaiting_reply) c.in-Open.is run.kept.awaiting_reply; relist_reason = refl }))

pub returns-clause-some : goal.returns-clause-some
returns-clause-some g c = λ cl bytes emitted run.
    let was_read = subst (λ r. IsRead (reader_of r) bytes emitted) c.in-Open.is run.read in
    on_err_weaker c.receive_all.result
    (λ h. (h.0, some_received bytes emitted (map reply_item_of c.in_ok-items.items.items) c.args.piece.now h.0 h.1 (c.in_ok-items.ensures bytes emitted was_read).1 (ap (map reply_item_of) (sym c.deref.ensures.value) ∙ h.2), h.3))
    (c.receive_all.ensures.some cl None (record { mirror = run.kept.mirror; sync = run.kept.sync; awaiting_reply = subst (λ r. is_some (reader_of r) ≡ cl.is_awaiting_reply) c.in-Open.is run.kept.awaiting_reply; relist_reason = refl }))

pub returns-in_err-items-clause-some : goal.returns-in_err-items-clause-some
returns-in_err-items-clause-some g c = λ cl bytes emitted run.
    let was_read = subst (λ r. IsRead (reader_of r) bytes emitted) c.in-Open.is run.read in
    on_err c.from_residual.result ((received : List ReplyItem) × AreReceived bytes emitted c.args.piece.now received × MirrorRepresents g.I.IndexBy.keys c.args.self.now.mirror (receives_all (settings_in c.args.self.now).wanted cl received))
    ([], none_received bytes emitted c.args.piece.now was_read.1, run.kept.mirror)
