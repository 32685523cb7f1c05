use Rattle.std.proofs.Common.{◌∙◌, None, ap, not, refl, subst}
use Rattle.reflector.specs.Run.{closed}
use Rattle.world_laws.specs.Tasks.{wanted_by}
use Rattle.world_laws.specs.World as worlds
use Rattle.world.specs.Views.{connection_seen}
use Rattle.world.proofs.Worlds.{closed_asks, cuts, handed_none, reaches_closed, no_cut}
use Rattle.world.proofs.Refusals.{connected_some, unconnected_none}
use Rattle.world.proofs.world.World.cut.Goals as goal

pub returns-then-is_none-clause-happens : goal.returns-then-is_none-clause-happens
returns-then-is_none-clause-happens g c = λ task o w represents.
    (w, subst (λ own. worlds.Cuts w own w) represents.connection (no_cut w connection_seen c.args.self.now.connection (c.is_none.ensures ∙ ap not c.if-is_none.true)), represents, λ begin since. since)

pub returns-clause-happens : goal.returns-clause-happens
returns-clause-happens g c = λ task o w represents.
    let k = represents.client in
    let left = c.in_ok-leave.ensures w.hub represents.hub in
    let v : worlds.World = record w { client = closed w.client; hub = left.0; connection = None } in (
      v,
      subst (λ own. worlds.Cuts w own v) represents.connection (cuts w connection_seen c.args.self.now.connection left.0 (c.is_none.ensures ∙ ap not c.if-is_none.false) left.1),
      record {
        hub = left.2;
        requested = represents.requested;
        connection = refl;
        client = (k.0, k.1, c.closed.ensures.closed w.client k.0 k.1 k.2, handed_none (closed w.client).is_awaiting_reply k.0 None left.0 (closed_asks w.client));
        wanted = c.closed.ensures.settings ∙ represents.wanted;
        reaches = reaches_closed (wanted_by task) o w.client represents.reaches;
        few = represents.few;
        counted = represents.counted;
        label = represents.label;
        place = represents.place;
      },
      left.3,
    )

pub returns-then-is_none-clause-refused : goal.returns-then-is_none-clause-refused
returns-then-is_none-clause-refused g c = λ task o w represents. unconnected_none connection_seen c.args.self.now.connection w.connection represents.connection (c.is_none.ensures ∙ ap not c.if-is_none.true)

pub returns-clause-refused : goal.returns-clause-refused
returns-clause-refused g c = λ task o w represents. connected_some connection_seen c.args.self.now.connection w.connection represents.connection (c.is_none.ensures ∙ ap not c.if-is_none.false)
