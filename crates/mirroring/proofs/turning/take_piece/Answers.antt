use Rattle.std.proofs.Common.{◌∙◌, refl}
use Rattle.reflector.specs.Client.{Client}
use Rattle.reflector.specs.InformerViews.{settings_in}
use Rattle.reflector.specs.Run.{receives_all}
use Rattle.mirroring.proofs.Texts.{emits_all, emits_prefix, gives_up}
use Rattle.mirroring.proofs.turning.take_piece.Goals as goal

pub returns-in_err-feed-clause-fault : goal.returns-in_err-feed-clause-fault
returns-in_err-feed-clause-fault g c = λ d bytes items runs is asks none. gives_up _ (settings_in c.args.informer.now).wanted d bytes items _ is

pub returns-clause-emitted : goal.returns-clause-emitted
returns-clause-emitted g c = λ d bytes items runs is asks none.
    let received = c.in_ok-feed.ensures.received d bytes items runs asks in
    let wanted = (settings_in c.args.informer.now).wanted in
    let e : Client = receives_all wanted d received.0 in
    emits_all c.tell.result c.tell.result _ wanted d bytes items c.args.piece.now _ received.0 _ _ _ refl received.1 (c.tell.ensures.taken e _ _ received.2) refl
    (c.tell.ensures.relist_reason ∙ c.in_ok-feed.ensures.relist_reason d bytes items received.0 runs asks received.1) (c.tell.ensures.told d.cache e _ _ received.2 (c.revision-was.ensures d bytes items runs))

pub returns-clause-fault : goal.returns-clause-fault
returns-clause-fault g c = λ d bytes items runs is asks none.
    let received = c.in_ok-feed.ensures.received d bytes items runs asks in
    let wanted = (settings_in c.args.informer.now).wanted in
    let e : Client = receives_all wanted d received.0 in
    emits_prefix c.tell.result wanted d bytes items c.args.piece.now received.0 _ _ _ received.1 refl (c.tell.ensures.prefix d.cache e _ _ received.2 (c.revision-was.ensures d bytes items runs))
