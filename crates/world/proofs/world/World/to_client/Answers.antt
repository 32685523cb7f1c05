use Rattle.std.proofs.Common.{ℕ, List, ◌++◌, ◌≡◌, ◌∙◌, ◌+◌, Some, ap, cond, drop, length, option_map, refl, subst, sym, take}
use Rattle.reflector.specs.Client.{Client}
use Rattle.reflector.specs.InformerViews as informers
use Rattle.reflector.specs.Run.{closed, receives_all}
use Rattle.wireclient.specs.Reads.{Items}
use Rattle.wireclient.specs.Reply.{ReplyItem}
use Rattle.world_laws.specs.Tasks.{wanted_by}
use Rattle.world_laws.specs.World as worlds
use Rattle.world.specs.Views.{connection_seen}
use Rattle.world.specs.Serving.{is_over_in}
use Rattle.world.specs.Represents.{IsHanded, NoticesReach}
use Rattle.world.proofs.Worlds.{handed_over, hands, items_read, reaches_received, reaches_over, nil, not_nil, received, sent_more}
use Rattle.world.proofs.Refusals.{no_carrier, none_wait, some_wait}
use Rattle.world.proofs.world.World.to_client.Goals as goal

pub returns-in_default-clause-happens : goal.returns-in_default-clause-happens
returns-in_default-clause-happens g c = λ task o w represents.
    let none = sym (ap (option_map connection_seen) c.in_default.is) ∙ represents.connection in
    (w, subst (λ d. worlds.ToClient (wanted_by task) w c.args.n d w) none refl, represents, λ begin since. since)

pub returns-then-is_empty-clause-happens : goal.returns-then-is_empty-clause-happens
returns-then-is_empty-clause-happens g c = λ task o w represents.
    let wanted = wanted_by task in
    let l = connection_seen c.in-Some.own in
    let n = c.args.n in
    let is = sym (ap (option_map connection_seen) c.in-Some.is) ∙ represents.connection in
    let at = c.in_ok-piece.ensures.piece ∙ ap (λ xs. take n (drop l.handed xs)) (c.written-written.ensures w.hub represents.hub) in
    let none = nil _ c.in_ok-piece.piece.items (sym c.is_empty.ensures ∙ c.if-is_empty.true) c.in_ok-piece.piece.ok.0 in (
      w,
      subst (λ d. worlds.ToClient wanted w n d w) is (subst (λ xs. worlds.Hands wanted w l xs w) (sym none ∙ at) refl),
      record { hub = represents.hub; requested = represents.requested; connection = is; client = represents.client; wanted = represents.wanted; reaches = represents.reaches; few = represents.few; counted = represents.counted; label = represents.label; place = represents.place },
      λ begin since. since,
    )

pub returns-clause-happens : goal.returns-clause-happens
returns-clause-happens g c = λ task o w represents.
    let wanted = wanted_by task in
    let l = connection_seen c.in-Some.own in
    let n = c.args.n in
    let piece = c.in_ok-piece.piece.items in
    let is = sym (ap (option_map connection_seen) c.in-Some.is) ∙ represents.connection in
    let is_written = c.written-written.ensures w.hub represents.hub in
    let at = c.in_ok-piece.ensures.piece ∙ ap (λ xs. take n (drop l.handed xs)) is_written in
    let some = not_nil _ piece (sym c.is_empty.ensures ∙ c.if-is_empty.false) c.in_ok-piece.piece.ok.0 in
    let long : c.saturating_add-own.result ≡ l.handed + length piece =
    sent_more n l.handed c.written-written.result.now piece _ _ c.in_ok-piece.ensures.piece some c.saturating_add-own.ensures (c.len.ensures ∙ c.in_ok-piece.piece.ok.0) c.written-written.type_inv.0 in
    let k = represents.client in
    let P : Client → List ℕ → List ReplyItem → Type 0 = λ d bytes emitted. informers.InformerRepresents (λ b s. g.I.IndexBy.keys b s) c.feed.new.self d bytes emitted in
    let h = received P (NoticesReach wanted o) w.client.is_awaiting_reply wanted w.client k.0 piece k.1 n l w.hub refl at some (subst (λ d. IsHanded w.client.is_awaiting_reply k.0 d w.hub) (sym is) k.3)
    (λ asks. items_read _ w.client.is_awaiting_reply k.0 k.1 k.2.kept.awaiting_reply asks k.2.read)
    (λ asks. subst (λ s. (response : List ReplyItem) × Items (k.0 ++ piece) (k.1 ++ response) × P (receives_all s.wanted w.client response) (k.0 ++ piece) (k.1 ++ response)) represents.wanted
    (subst (λ xs. (response : List ReplyItem) × Items (k.0 ++ xs) (k.1 ++ response) × P (receives_all (informers.settings_in c.args.self.now.client).wanted w.client response) (k.0 ++ xs) (k.1 ++ response)) c.deref.ensures.value (c.in_ok-feed.ensures.received w.client k.0 k.1 k.2 asks)))
    (λ waits. subst (λ i. informers.InformerRepresents (λ b s. g.I.IndexBy.keys b s) i w.client k.0 k.1) (sym (c.in_ok-feed.ensures.idle w.client k.0 k.1 k.2 waits).1) k.2)
    represents.reaches
    (λ response. reaches_received wanted o w.client response represents.reaches) in
    let d = h.0 in
    let all = h.2 in
    let moved : worlds.ClientConnection = record l { handed = l.handed + length piece } in
    let over = is_over_in w.hub l.id moved.handed in
    let v = worlds.after_move (record w { client = d }) moved in (
      v,
      subst (λ d. worlds.ToClient wanted w n d v) is (subst (λ xs. worlds.Hands wanted w l xs v) at (hands wanted w l piece d some h.1)),
      record {
        hub = represents.hub;
        requested = represents.requested;
        connection = ap (λ m. Some (record l { handed = m })) long;
        client = (
          all.0,
          all.1,
          subst (λ m. informers.InformerRepresents (λ b s. g.I.IndexBy.keys b s) c.close_if_over.new.client (cond (is_over_in w.hub l.id m) (closed d) d) all.0 all.1) long (c.close_if_over.ensures.closes w.hub d all.0 all.1 represents.hub all.2),
          handed_over over d all.0 v.connection w.hub all.3,
        );
        wanted = ap (λ s. s.settings) c.close_if_over.ensures.setup ∙ c.in_ok-feed.ensures.settings ∙ represents.wanted;
        reaches = reaches_over over wanted o d all.4;
        few = represents.few;
        counted = represents.counted;
        label = represents.label;
        place = represents.place;
      },
      λ begin since. since,
    )

pub returns-in_default-clause-refused : goal.returns-in_default-clause-refused
returns-in_default-clause-refused g c = λ task o w represents. no_carrier _ _ (sym (sym (ap (option_map connection_seen) c.in_default.is) ∙ represents.connection))

pub returns-then-is_empty-clause-refused : goal.returns-then-is_empty-clause-refused
returns-then-is_empty-clause-refused g c = λ task o w represents.
    let l = connection_seen c.in-Some.own in
    let n = c.args.n in
    let is = sym (ap (option_map connection_seen) c.in-Some.is) ∙ represents.connection in
    let at = c.in_ok-piece.ensures.piece ∙ ap (λ xs. take n (drop l.handed xs)) (c.written-written.ensures w.hub represents.hub) in
    let none = nil _ c.in_ok-piece.piece.items (sym c.is_empty.ensures ∙ c.if-is_empty.true) c.in_ok-piece.piece.ok.0 in
    none_wait (λ own. take n (drop own.handed (worlds.reply_on w own))) w.connection l (sym is) (sym at ∙ none)

pub returns-clause-refused : goal.returns-clause-refused
returns-clause-refused g c = λ task o w represents.
    let l = connection_seen c.in-Some.own in
    let n = c.args.n in
    let is = sym (ap (option_map connection_seen) c.in-Some.is) ∙ represents.connection in
    let piece = c.in_ok-piece.piece.items in
    let at = c.in_ok-piece.ensures.piece ∙ ap (λ xs. take n (drop l.handed xs)) (c.written-written.ensures w.hub represents.hub) in
    some_wait (λ own. take n (drop own.handed (worlds.reply_on w own))) w.connection l piece (sym is) at (not_nil _ piece (sym c.is_empty.ensures ∙ c.if-is_empty.false) c.in_ok-piece.piece.ok.0)
