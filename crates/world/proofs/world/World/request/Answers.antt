use Rattle.std.proofs.Common.{◌∙◌, ◌++◌, ◌∷◌, [], None, ap, refl, subst, sym}
use Rattle.httpedge.specs.Connections.{next_id}
use Rattle.httpedge.specs.Steps as edge
use Rattle.world_laws.specs.World as worlds
use Rattle.world.proofs.Worlds.{grown, grown_twice, handed_stays, in_one_piece}
use Rattle.world.proofs.Refusals.{id_left, no_id_left}
use Rattle.world.proofs.world.World.request.Goals as goal

pub returns-in_default-clause-happens : goal.returns-in_default-clause-happens
returns-in_default-clause-happens g c = λ task o w represents.
    let none = sym c.in_default.is ∙ c.next_id.ensures w.hub represents.hub in
    (w, subst (λ o. worlds.Requests w o c.args.bytes.now w) none refl, represents, λ begin since. since)

pub returns-clause-happens : goal.returns-clause-happens
returns-clause-happens g c = λ task o w represents.
    let id = c.in-Some.id in
    let next = sym c.in-Some.is ∙ c.next_id.ensures w.hub represents.hub in
    let came = c.in_ok-on_new.ensures w.hub represents.hub in
    let mid = came.0 in
    let t = came.1 in
    let law = c.written_stays.ensures.grows in
    let noted : worlds.World = record w { requested = w.requested ++ id ∷ [] } in
    let comes = subst (λ bytes. worlds.ComesInOnePiece noted id bytes (record noted { hub = t })) c.in_ok-copy.ensures.items (in_one_piece noted id c.in_ok-copy.copy.items mid t came.2 came.3) in
    let more = grown_twice w.hub mid t (grown law w.hub mid (edge.opens id) came.2) (grown law mid t (edge.comes id c.in_ok-copy.copy.items) came.3) in
    let k = represents.client in (
      record noted { hub = t },
      subst (λ o. worlds.Requests w o c.args.bytes.now (record noted { hub = t })) next comes,
      record { hub = came.4; requested = c.in_ok-push.ensures.items ∙ ap (λ ids. ids ++ id ∷ []) represents.requested; connection = represents.connection; client = (k.0, k.1, k.2, handed_stays w.client.is_awaiting_reply k.0 w.connection w.hub t more k.3); wanted = represents.wanted; reaches = represents.reaches; few = represents.few; counted = represents.counted; label = represents.label; place = represents.place },
      came.5,
    )

pub returns-in_default-clause-refused : goal.returns-in_default-clause-refused
returns-in_default-clause-refused g c = λ task o w represents. no_id_left _ _ (sym (sym c.in_default.is ∙ c.next_id.ensures w.hub represents.hub))

pub returns-clause-refused : goal.returns-clause-refused
returns-clause-refused g c = λ task o w represents. id_left (next_id w.hub.connections) c.in-Some.id None None (sym (sym c.in-Some.is ∙ c.next_id.ensures w.hub represents.hub)) refl
