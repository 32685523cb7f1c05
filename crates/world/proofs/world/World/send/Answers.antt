use Rattle.std.proofs.Common.{[], true, None, ◌∙◌, Some, ap, refl, subst, sym, option_map, arith}
use Rattle.httpedge.specs.Connections.{next_id}
use Rattle.reflector.specs.InformerViews as informers
use Rattle.reflector.specs.Requests.{request_of}
use Rattle.reflector.specs.Run.{asked}
use Rattle.world_laws.specs.Tasks.{client_settings, wanted_by}
use Rattle.world_laws.specs.World as worlds
use Rattle.world.specs.Stepping.{if_due}
use Rattle.world.specs.declared.refusal.Refusal.TheVariants as refusal
use Rattle.world.proofs.Worlds.{due_asks, due_waits, handed_if, reaches_asked, leaves}
use Rattle.world.proofs.Refusals.{id_left, no_id_left, none_due, some_due}
use Rattle.world.proofs.world.World.send.Goals as goal

pub returns-in_default-clause-happens : goal.returns-in_default-clause-happens
returns-in_default-clause-happens g c = λ task o w represents.
    let none = sym c.in_default.is ∙ c.next_id.ensures w.hub represents.hub in
    (w, subst (λ d. worlds.Sends w d (informers.due (client_settings task) w.client) w) none refl, represents, λ begin since. since)

pub returns-in_default-2-clause-happens : goal.returns-in_default-2-clause-happens
returns-in_default-2-clause-happens g c = λ task o w represents.
    let k = represents.client in
    let settings = client_settings task in
    let due = sym (ap (option_map (λ v. v.items)) c.in_default-2.is) ∙ c.in_ok-request.ensures.due w.client k.0 k.1 k.2 ∙ ap (λ s. informers.due s w.client) represents.wanted in
    let asks = due_asks w.client.is_awaiting_reply (request_of settings w.client) due in
    let same = c.next_request.ensures.waits w.client k.0 k.1 k.2 asks in
    let next = sym c.in-Some.is ∙ c.next_id.ensures w.hub represents.hub in (
      w,
      subst (λ d. worlds.Sends w d (informers.due settings w.client) w) next (subst (λ d. worlds.Sends w (Some c.in-Some.id) d w) due refl),
      record { hub = represents.hub; requested = represents.requested; connection = represents.connection; client = (k.0, k.1, subst (λ i. informers.InformerRepresents (λ b s. g.I.IndexBy.keys b s) i w.client k.0 k.1) (sym same) k.2, k.3); wanted = c.next_request.ensures.settings ∙ represents.wanted; reaches = represents.reaches; few = represents.few; counted = represents.counted; label = represents.label; place = represents.place },
      λ begin since. since,
    )

pub returns-clause-happens : goal.returns-clause-happens
returns-clause-happens g c = λ task o w represents.
    let k = represents.client in
    let settings = client_settings task in
    let bytes = c.in-Some-2.request.items in
    let due = sym (ap (option_map (λ v. v.items)) c.in-Some-2.is) ∙ c.in_ok-request.ensures.due w.client k.0 k.1 k.2 ∙ ap (λ s. informers.due s w.client) represents.wanted in
    let waits = due_waits w.client.is_awaiting_reply (request_of settings w.client) bytes due in
    let next = sym c.in-Some.is ∙ c.next_id.ensures w.hub represents.hub in
    let left = c.in_ok-leave.ensures w.hub represents.hub in
    let alone : worlds.World = record w { hub = left.0; connection = None } in
    let went = subst (λ own. worlds.Leaves w own alone) represents.connection (leaves w _ left.0 represents.connection left.1) in
    let came = c.in_ok-on.ensures.steps left.0 left.2 in
    let opened : worlds.World = record alone { hub = came.0 } in
    let own : worlds.ClientConnection = record { id = c.in-Some.id; unsent = bytes; handed = 0 } in
    let v : worlds.World = record opened { client = asked w.client; connection = Some own } in (
      v,
      subst (λ d. worlds.Sends w d (informers.due settings w.client) v) next (subst (λ d. worlds.Sends w (Some c.in-Some.id) d v) due (alone, opened, went, (came.0, came.1, refl), refl)),
      record { hub = came.2; requested = represents.requested; connection = refl; client = ([], [], c.in_ok-request.ensures.asked w.client k.0 k.1 k.2 waits, handed_if true [] own came.0 (omega arith) refl); wanted = c.next_request.ensures.settings ∙ represents.wanted; reaches = reaches_asked (wanted_by task) o w.client represents.reaches; few = represents.few; counted = represents.counted; label = represents.label; place = represents.place },
      λ begin since. came.3 begin (left.3 begin since),
    )

pub returns-in_default-clause-refused : goal.returns-in_default-clause-refused
returns-in_default-clause-refused g c = λ task o w represents. no_id_left _ _ (sym (sym c.in_default.is ∙ c.next_id.ensures w.hub represents.hub))

pub returns-in_default-2-clause-refused : goal.returns-in_default-2-clause-refused
returns-in_default-2-clause-refused g c = λ task o w represents.
    let k = represents.client in
    let due = sym (ap (option_map (λ v. v.items)) c.in_default-2.is) ∙ c.in_ok-request.ensures.due w.client k.0 k.1 k.2 ∙ ap (λ s. informers.due s w.client) represents.wanted in
    id_left (next_id w.hub.connections) c.in-Some.id (Some refusal.NothingDue) (if_due (informers.due (client_settings task) w.client)) (sym (sym c.in-Some.is ∙ c.next_id.ensures w.hub represents.hub))
    (none_due (informers.due (client_settings task) w.client) (sym due))

pub returns-clause-refused : goal.returns-clause-refused
returns-clause-refused g c = λ task o w represents.
    let k = represents.client in
    let due = sym (ap (option_map (λ v. v.items)) c.in-Some-2.is) ∙ c.in_ok-request.ensures.due w.client k.0 k.1 k.2 ∙ ap (λ s. informers.due s w.client) represents.wanted in
    id_left (next_id w.hub.connections) c.in-Some.id None (if_due (informers.due (client_settings task) w.client)) (sym (sym c.in-Some.is ∙ c.next_id.ensures w.hub represents.hub))
    (some_due (informers.due (client_settings task) w.client) c.in-Some-2.request.items (sym due))
