use Rattle.std.proofs.Common.{sym, ap, ◌∙◌}
use Rattle.std.specs.Prelude.{OnOk}
use Rattle.wireclient.specs.Views.{reply_item_of}
use Rattle.reflector.specs.ReceivedViews.{is_streaming, list_relist_reason, response_of, page_reason_after, watch_relist_reason}
use Rattle.reflector.specs.InformerViews.{RepresentsExceptReader, settings_in}
use Rattle.reflector.proofs.ReceivedItems.{is_watch, of_idle, of_listed, of_watched}
use Rattle.reflector.proofs.Informing.{without_reason}
use Rattle.reflector.proofs.informer.Informer.receive.Goals as goal

pub returns-then-not-is_open-clause-received : goal.returns-then-not-is_open-clause-received
returns-then-not-is_open-clause-received g c = λ cl t k.
    of_idle (settings_in c.args.self.now).wanted cl (reply_item_of c.args.item.now) (RepresentsExceptReader g.I.IndexBy.keys c.args.self.now) t (sym k.awaiting_reply ∙ sym c.is_open.ensures ∙ c.if-not-is_open.true) k

pub returns-then-is_streaming-clause-received : goal.returns-then-is_streaming-clause-received
returns-then-is_streaming-clause-received g c = λ cl t k.
    let is_open = sym c.is_open.ensures ∙ c.if-not-is_open.false in
    let awaiting_reply = sym k.awaiting_reply ∙ is_open in
    let follows = is_watch cl.sync (sym (ap is_streaming k.sync) ∙ sym c.is_streaming.ensures ∙ c.if-is_streaming.true) in
    of_watched (settings_in c.args.self.now).wanted cl (reply_item_of c.args.item.now) (λ d u. OnOk c.receive_watch.result (RepresentsExceptReader g.I.IndexBy.keys c.receive_watch.new.self d u))
    (response_of c.in_ok-response.response) (watch_relist_reason cl.cache c.in_ok-response.response) t awaiting_reply follows c.in_ok-response.ensures.said (c.in_ok-response.ensures.relist_reason cl.cache)
    (c.receive_watch.ensures.received cl (without_reason g.I.IndexBy.keys c.args.self.now cl t is_open k) follows awaiting_reply)

pub returns-clause-received : goal.returns-clause-received
returns-clause-received g c = λ cl t k.
    let is_open = sym c.is_open.ensures ∙ c.if-not-is_open.false in
    of_listed (settings_in c.args.self.now).wanted cl (reply_item_of c.args.item.now) (λ d u. OnOk c.receive_list.result (RepresentsExceptReader g.I.IndexBy.keys c.receive_list.new.self d u))
    (response_of c.in_ok-response-2.response) (list_relist_reason (page_reason_after cl.sync) c.in_ok-response-2.response) t (sym k.awaiting_reply ∙ is_open) (sym (ap is_streaming k.sync) ∙ sym c.is_streaming.ensures ∙ c.if-is_streaming.false)
    c.in_ok-response-2.ensures.said (c.in_ok-response-2.ensures.relist_reason (page_reason_after cl.sync)) (c.receive_list.ensures.received cl (without_reason g.I.IndexBy.keys c.args.self.now cl t is_open k))
