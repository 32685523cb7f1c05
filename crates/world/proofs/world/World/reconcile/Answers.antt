use Rattle.std.proofs.Common.{◌∙◌, ℕ, List, None, Some, ap, not, subst, sym, refl}
use Rattle.reflector.specs.Client.{kept}
use Rattle.summary.specs.Apply.{apply_request}
use Rattle.summary.specs.Counts.{summed_of}
use Rattle.httpedge.specs.Connections.{next_id}
use Rattle.httpedge.specs.Steps as edge
use Rattle.world_laws.specs.World as worlds
use Rattle.world.specs.Stepping.{unless_no_id}
use Rattle.world.specs.declared.refusal.Refusal.TheVariants as refusal
use Rattle.world.proofs.Worlds.{grown, grown_twice, handed_stays, in_one_piece, no_counts, no_id, reconciles}
use Rattle.world.proofs.Refusals.{id_left, no_id_left, synced, unsynced}
use Rattle.world.proofs.world.World.reconcile.Goals as goal

pub returns-then-is_none-clause-happens : goal.returns-then-is_none-clause-happens
returns-then-is_none-clause-happens g c = λ task w represents.
    let k = represents.client in
    (w, no_counts task w w.client.cache _ c.revision.result (c.revision.ensures w.client k.0 k.1 k.2) (c.is_none.ensures ∙ ap not c.if-is_none.true), represents, λ begin since. since)

pub returns-in_default-clause-happens : goal.returns-in_default-clause-happens
returns-in_default-clause-happens g c = λ task w represents.
    let none = sym c.in_default.is ∙ c.next_id.ensures w.hub represents.hub in
    (w, subst (λ id. worlds.Reconciles task w w.client.cache id w) none (no_id task w w.client.cache), represents, λ begin since. since)

pub returns-clause-happens : goal.returns-clause-happens
returns-clause-happens g c = λ task w represents.
    let id = c.in-Some.id in
    let next = sym c.in-Some.is ∙ c.next_id.ensures w.hub represents.hub in
    let came = c.in_ok-on_new.ensures w.hub represents.hub in
    let mid = came.0 in
    let t = came.1 in
    let k = represents.client in
    let law = c.written_stays.ensures.grows in
    let bytes = c.in_ok-request.request.items in
    let comes = in_one_piece w id bytes mid t came.2 came.3 in
    let more = grown_twice w.hub mid t (grown law w.hub mid (edge.opens id) came.2) (grown law mid t (edge.comes id bytes) came.3) in
    let counts = summed_of task.settings.label (kept w.client.cache) in
    let v : worlds.World = record w { hub = t } in (
      v,
      subst (λ o. worlds.Reconciles task w w.client.cache o v) next (reconciles task w w.client.cache id bytes v _ (c.revision.ensures w.client k.0 k.1 k.2) (c.is_none.ensures ∙ ap not c.if-is_none.false)
          (c.in_ok-request.ensures ∙ ap (λ s. apply_request s c.as_str.result.now c.as_str-2.result.now) represents.counted
          ∙ ap (λ n. apply_request counts n c.as_str-2.result.now) (c.as_str.ensures.value ∙ ap (λ (p : List ℕ × List ℕ). p.0) represents.place)
          ∙ ap (apply_request counts task.settings.summary.0) (c.as_str-2.ensures.value ∙ ap (λ (p : List ℕ × List ℕ). p.1) represents.place)) comes),
      record { hub = came.4; requested = represents.requested; connection = represents.connection; client = (k.0, k.1, k.2, handed_stays w.client.is_awaiting_reply k.0 w.connection w.hub t more k.3); wanted = represents.wanted; reaches = represents.reaches; few = represents.few; counted = represents.counted; label = represents.label; place = represents.place },
      came.5,
    )

pub returns-then-is_none-clause-refused : goal.returns-then-is_none-clause-refused
returns-then-is_none-clause-refused g c = λ task w represents.
    let k = represents.client in
    unsynced w.client.cache (λ now. now.revision) c.revision.result _ (c.revision.ensures w.client k.0 k.1 k.2) (c.is_none.ensures ∙ ap not c.if-is_none.true)

pub returns-in_default-clause-refused : goal.returns-in_default-clause-refused
returns-in_default-clause-refused g c = λ task w represents.
    let k = represents.client in
    synced w.client.cache (λ now. now.revision) c.revision.result (Some refusal.NoId) (unless_no_id (next_id w.hub.connections) None) (c.revision.ensures w.client k.0 k.1 k.2) (c.is_none.ensures ∙ ap not c.if-is_none.false)
    (no_id_left (next_id w.hub.connections) None (sym (sym c.in_default.is ∙ c.next_id.ensures w.hub represents.hub)))

pub returns-clause-refused : goal.returns-clause-refused
returns-clause-refused g c = λ task w represents.
    let k = represents.client in
    synced w.client.cache (λ now. now.revision) c.revision.result None (unless_no_id (next_id w.hub.connections) None) (c.revision.ensures w.client k.0 k.1 k.2) (c.is_none.ensures ∙ ap not c.if-is_none.false)
    (id_left (next_id w.hub.connections) c.in-Some.id None None (sym (sym c.in-Some.is ∙ c.next_id.ensures w.hub represents.hub)) refl)
