use Rattle.std.proofs.Common.{◌∙◌, ap, subst, sym}
use Rattle.httpedge.specs.HubViews.{event_of}
use Rattle.world_laws.specs.World.{is_by_peer_on}
use Rattle.world.specs.Recording.{ReportsFile}
use Rattle.world.proofs.Worlds.{grown, handed_stays, not_by, unless_by}
use Rattle.world.proofs.Refusals.{by_peer, not_by_peer}
use Rattle.world.proofs.world.World.other.Goals as goal

pub returns-then-is_by_peer_on-clause-happens : goal.returns-then-is_by_peer_on-clause-happens
returns-then-is_by_peer_on-clause-happens g c = λ task o w represents.
    let e = event_of c.args.event.now in
    (w, not_by _ w e (sym (c.is_by_peer_on.ensures ∙ ap (λ own. is_by_peer_on own e) represents.connection) ∙ c.if-is_by_peer_on.true), represents, λ begin since. since)

pub returns-clause-happens : goal.returns-clause-happens
returns-clause-happens g c = λ task o w represents.
    let e = event_of c.args.event.now in
    let took = c.in_ok-on.ensures.steps w.hub represents.hub in
    let k = represents.client in (
      record w { hub = took.0 },
      unless_by _ w e took.0 (sym (c.is_by_peer_on.ensures ∙ ap (λ own. is_by_peer_on own e) represents.connection) ∙ c.if-is_by_peer_on.false) took.1,
      record { hub = took.2; requested = represents.requested; connection = represents.connection; client = (k.0, k.1, k.2, handed_stays w.client.is_awaiting_reply k.0 w.connection w.hub took.0 (grown c.written_stays.ensures.grows w.hub took.0 e took.1) k.3); wanted = represents.wanted; reaches = represents.reaches; few = represents.few; counted = represents.counted; label = represents.label; place = represents.place },
      took.3,
    )

pub returns-then-is_by_peer_on-clause-refused : goal.returns-then-is_by_peer_on-clause-refused
returns-then-is_by_peer_on-clause-refused g c = λ task o w represents.
    let e = event_of c.args.event.now in
    by_peer _ _ (sym (c.is_by_peer_on.ensures ∙ ap (λ own. is_by_peer_on own e) represents.connection) ∙ c.if-is_by_peer_on.true)

pub returns-clause-refused : goal.returns-clause-refused
returns-clause-refused g c = λ task o w represents.
    let e = event_of c.args.event.now in
    not_by_peer _ _ _ (sym (c.is_by_peer_on.ensures ∙ ap (λ own. is_by_peer_on own e) represents.connection) ∙ c.if-is_by_peer_on.false)
    (c.by_hub.ensures.refuses w.hub e (c.in_ok-on.ensures.refused w.hub represents.hub))

pub returns-clause-fault : goal.returns-clause-fault
returns-clause-fault g c = subst (ReportsFile (event_of c.args.event.now)) (sym c.by_hub.ensures.same) c.in_ok-on.ensures.reported
