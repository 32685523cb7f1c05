use Rattle.std.proofs.Common.{◌+◌, map, take, drop, sym, ap, subst, ◌∙◌, take-append-drop, take_all}
use Rattle.std.proofs.lemmas.List.{map-append}
use Rattle.wireclient.specs.Views.{reply_item_of}
use Rattle.reflector.specs.ReceivedViews.{ReceivedSome}
use Rattle.reflector.specs.InformerViews.{RepresentsExceptReader, settings_in}
use Rattle.reflector.specs.Run.{receives, receives_all}
use Rattle.reflector.specs.RelistReasons.{relist_reason_after, relist_reason_with}
use Rattle.reflector.proofs.ReceivedItems.{next_received, on_err}
use Rattle.reflector.proofs.RelistReasons.{next_relist_reason}
use Rattle.reflector.proofs.informer.Informer.receive_all.Goals as goal

pub loop-item-preserved : goal.loop-item-preserved
loop-item-preserved g c =
    let before = c.loop-item.invariant in
    let now = c.in_ok-receive.ensures in
    let wanted = (settings_in c.args.self.now).wanted in
    let items = c.args.items.now in
    let i = c.loop-item.item-index in
    let x = reply_item_of c.item-item.result in
    record {
      received = λ cl t k.
          let d = receives_all wanted cl (map reply_item_of (take i items)) in
          let u = relist_reason_after wanted cl t (map reply_item_of (take i items)) in
          subst (λ e. RepresentsExceptReader g.I.IndexBy.keys c.receive.new.self e (relist_reason_after wanted cl t (map reply_item_of (take (i + 1) items)))) (sym (next_received reply_item_of wanted cl items i c.item-item.result c.loop-item-test.true c.item-item.is))
          (subst (RepresentsExceptReader g.I.IndexBy.keys c.receive.new.self (receives wanted d x)) (sym (next_relist_reason reply_item_of wanted cl t items i c.item-item.result c.loop-item-test.true c.item-item.is))
          (subst (λ w. RepresentsExceptReader g.I.IndexBy.keys c.receive.new.self (receives w d x) (relist_reason_with w d u x)) (ap (λ s. s.wanted) before.setup.settings) (now.received d u (before.received cl t k))));
      read = λ bytes emitted is. now.read bytes emitted (before.read bytes emitted is);
      setup = record { settings = now.setup.settings ∙ before.setup.settings; indexes = now.setup.indexes ∙ before.setup.indexes; names = now.setup.names ∙ before.setup.names };
    }

pub returns-in_err-receive-clause-some : goal.returns-in_err-receive-clause-some
returns-in_err-receive-clause-some g c = λ cl t k.
    let wanted = (settings_in c.args.self.now).wanted in
    let items = c.args.items.now in
    let i = c.loop-item.item-index in
    on_err _ (ReceivedSome g.I.IndexBy.keys wanted c.receive.new.self.mirror cl (map reply_item_of items)) (
      map reply_item_of (take i items),
      map reply_item_of (drop i items),
      sym (ap (map reply_item_of) (take-append-drop i items)) ∙ map-append reply_item_of (take i items) (drop i items),
      c.in_err-receive.ensures.refused (receives_all wanted cl (map reply_item_of (take i items))) (c.loop-item.invariant.received cl t k).mirror,
    )

pub returns-clause-received : goal.returns-clause-received
returns-clause-received g c = λ cl t k.
    let wanted = (settings_in c.args.self.now).wanted in
    subst (λ xs. RepresentsExceptReader g.I.IndexBy.keys c.loop-item.self (receives_all wanted cl (map reply_item_of xs)) (relist_reason_after wanted cl t (map reply_item_of xs))) (take_all c.loop-item.item-index c.args.items.now c.loop-item-test.false)
    (c.loop-item.invariant.received cl t k)
