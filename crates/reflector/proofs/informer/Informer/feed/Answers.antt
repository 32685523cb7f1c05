use Rattle.std.proofs.Common.{◌++◌, None, ◌∙◌, [], ap, refl}
use Rattle.std.proofs.lemmas.List.{append_cancel_left}
use Rattle.wireclient.proofs.Determined.{items_once}
use Rattle.reflector.specs.InformerViews.{settings_in}
use Rattle.reflector.specs.RelistReasons.{relist_reason_after}
use Rattle.reflector.proofs.Informing.{not_read}
use Rattle.reflector.proofs.informer.Informer.feed.Goals as goal

pub returns-in-Ok-clause-received : goal.returns-in-Ok-clause-received
returns-in-Ok-clause-received g c = λ cl bytes emitted run awaiting_reply.
    let h = c.in-Ok.ensures.received cl bytes emitted run awaiting_reply in
    (h.0, h.2, record { kept = record { mirror = h.3.mirror; sync = h.3.sync; awaiting_reply = h.3.awaiting_reply; relist_reason = refl }; read = h.1 })

pub returns-in-Ok-clause-relist_reason : goal.returns-in-Ok-clause-relist_reason
returns-in-Ok-clause-relist_reason g c = λ cl bytes emitted response run awaiting_reply is.
    let h = c.in-Ok.ensures.received cl bytes emitted run awaiting_reply in
    h.3.relist_reason ∙ ap (relist_reason_after (settings_in c.args.self.now).wanted cl None) (append_cancel_left emitted h.0 response (items_once (bytes ++ c.args.piece.now) (emitted ++ h.0) (emitted ++ response) h.2 is))

pub returns-in-Err-clause-given_up : goal.returns-in-Err-clause-given_up
returns-in-Err-clause-given_up g c = λ cl bytes emitted run.
    let h = c.in-Err.ensures.some cl bytes emitted run in
    let k = c.give_up.ensures.given_up _ h.2 in
    (h.0, h.1, record { kept = record { mirror = k.mirror; sync = k.sync; awaiting_reply = k.awaiting_reply; relist_reason = refl }; read = not_read _ [] [] k.awaiting_reply })
