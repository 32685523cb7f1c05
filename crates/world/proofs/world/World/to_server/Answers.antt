use Rattle.std.proofs.Common.{◌≡◌, ◌∙◌, Some, ap, arith, drop, option_map, refl, subst, sym, take}
use Rattle.httpedge.specs.Steps as edge
use Rattle.world_laws.specs.Tasks.{wanted_by}
use Rattle.world_laws.specs.World as worlds
use Rattle.world.specs.Views.{connection_seen}
use Rattle.world.specs.Serving.{is_over_in}
use Rattle.world.specs.Represents.{IsHanded}
use Rattle.world.proofs.Worlds.{delivers, grown, handed_over, handed_stays, handed_still, reaches_over, left_after, nil, not_nil, sent_more}
use Rattle.world.proofs.Refusals.{no_carrier, none_wait, some_wait}
use Rattle.world.proofs.world.World.to_server.Goals as goal

pub returns-in_default-clause-happens : goal.returns-in_default-clause-happens
returns-in_default-clause-happens g c = λ task o w represents.
    let none = sym (ap (option_map connection_seen) c.in_default.is) ∙ represents.connection in
    (w, subst (λ d. worlds.ToServer w c.args.n d w) none refl, represents, λ begin since. since)

pub returns-then-is_empty-clause-happens : goal.returns-then-is_empty-clause-happens
returns-then-is_empty-clause-happens g c = λ task o w represents.
    let l = connection_seen c.in-Some.own in
    let is = sym (ap (option_map connection_seen) c.in-Some.is) ∙ represents.connection in
    let none = nil _ c.in_ok-piece.piece.items (sym c.is_empty.ensures ∙ c.if-is_empty.true) c.in_ok-piece.piece.ok.0 in (
      w,
      subst (λ d. worlds.ToServer w c.args.n d w) is (subst (λ xs. worlds.Delivers w l c.args.n xs w) (sym none ∙ c.in_ok-piece.ensures.piece) refl),
      record { hub = represents.hub; requested = represents.requested; connection = is; client = represents.client; wanted = represents.wanted; reaches = represents.reaches; few = represents.few; counted = represents.counted; label = represents.label; place = represents.place },
      λ begin since. since,
    )

pub returns-clause-happens : goal.returns-clause-happens
returns-clause-happens g c = λ task o w represents.
    let own = c.in-Some.own in
    let l = connection_seen own in
    let n = c.args.n in
    let piece = c.in_ok-piece.piece.items in
    let is = sym (ap (option_map connection_seen) c.in-Some.is) ∙ represents.connection in
    let at = c.in_ok-piece.ensures.piece in
    let some = not_nil _ piece (sym c.is_empty.ensures ∙ c.if-is_empty.false) c.in_ok-piece.piece.ok.0 in
    let came = c.in_ok-on.ensures.steps w.hub represents.hub in
    let t = came.0 in
    let more = grown c.written_stays.ensures.grows w.hub t (edge.comes l.id piece) came.1 in
    let left : drop c.saturating_add-own.result own.request.items ≡ drop n l.unsent = left_after n own.sent own.request.items piece c.saturating_add-own.result at (sent_more n own.sent own.request.items piece _ _ at some c.saturating_add-own.ensures (c.len.ensures ∙ c.in_ok-piece.piece.ok.0) (omega (arith, own.request.ok, own.request.small))) in
    let k = represents.client in
    let over = is_over_in t l.id l.handed in
    let moved : worlds.ClientConnection = record l { unsent = drop n l.unsent } in
    let v = worlds.after_move (record w { hub = t }) moved in
    let kept = handed_stays w.client.is_awaiting_reply k.0 w.connection w.hub t more k.3 in (
      v,
      subst (λ d. worlds.ToServer w n d v) is (subst (λ xs. worlds.Delivers w l n xs v) at (delivers w l n piece t some came.1)),
      record {
        hub = came.2;
        requested = represents.requested;
        connection = ap (λ xs. Some (record l { unsent = xs })) left;
        client = (
          k.0,
          k.1,
          c.close_if_over.ensures.closes t w.client k.0 k.1 came.2 k.2,
          handed_over over w.client k.0 v.connection t (handed_still w.client.is_awaiting_reply k.0 l.id l.handed l.unsent (drop n l.unsent) t (subst (λ d. IsHanded w.client.is_awaiting_reply k.0 d t) (sym is) kept)),
        );
        wanted = ap (λ s. s.settings) c.close_if_over.ensures.setup ∙ represents.wanted;
        reaches = reaches_over over (wanted_by task) o w.client represents.reaches;
        few = represents.few;
        counted = represents.counted;
        label = represents.label;
        place = represents.place;
      },
      came.3,
    )

pub returns-in_default-clause-refused : goal.returns-in_default-clause-refused
returns-in_default-clause-refused g c = λ task o w represents. no_carrier _ _ (sym (sym (ap (option_map connection_seen) c.in_default.is) ∙ represents.connection))

pub returns-then-is_empty-clause-refused : goal.returns-then-is_empty-clause-refused
returns-then-is_empty-clause-refused g c = λ task o w represents.
    let l = connection_seen c.in-Some.own in
    let n = c.args.n in
    let is = sym (ap (option_map connection_seen) c.in-Some.is) ∙ represents.connection in
    let none = nil _ c.in_ok-piece.piece.items (sym c.is_empty.ensures ∙ c.if-is_empty.true) c.in_ok-piece.piece.ok.0 in
    none_wait (λ own. take n own.unsent) w.connection l (sym is) (sym c.in_ok-piece.ensures.piece ∙ none)

pub returns-clause-refused : goal.returns-clause-refused
returns-clause-refused g c = λ task o w represents.
    let l = connection_seen c.in-Some.own in
    let n = c.args.n in
    let is = sym (ap (option_map connection_seen) c.in-Some.is) ∙ represents.connection in
    let piece = c.in_ok-piece.piece.items in
    some_wait (λ own. take n own.unsent) w.connection l piece (sym is) c.in_ok-piece.ensures.piece (not_nil _ piece (sym c.is_empty.ensures ∙ c.if-is_empty.false) c.in_ok-piece.piece.ok.0)
