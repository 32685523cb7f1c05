use Rattle.std.proofs.Common.{◌≡◌, ◌∙◌, Bool, true, false, Some, ap, sym, option_map}
use Rattle.world_laws.specs.World as worlds
use Rattle.world_laws.specs.Moves.{is_old}
use Rattle.world.specs.Views.{connection_seen}
use Rattle.world.proofs.NextMoves.{gives_up, goes_on, sends, sends_unconnected}
use Rattle.world.proofs.world.World.move_by.Goals as goal

pub returns-then-not-is_awaiting_reply : goal.returns-then-not-is_awaiting_reply
returns-then-not-is_awaiting_reply g c = λ task o w represents now.
    let k = represents.client in
    sends w w.client.is_awaiting_reply w.connection (sym (c.is_awaiting_reply.ensures w.client k.0 k.1 k.2) ∙ c.if-not-is_awaiting_reply.true)

pub returns-in_default : goal.returns-in_default
returns-in_default g c = λ task o w represents now. sends_unconnected w w.client.is_awaiting_reply w.connection (sym (ap (option_map connection_seen) c.in_default.is) ∙ represents.connection)

pub returns-then-is_old : goal.returns-then-is_old
returns-then-is_old g c = λ task o w represents now.
    let k = represents.client in
    let awaits = sym (c.is_awaiting_reply.ensures w.client k.0 k.1 k.2) ∙ c.if-not-is_awaiting_reply.false in
    let own = sym (ap (option_map connection_seen) c.in-Some.is) ∙ represents.connection in
    let old = sym (ap (λ n. is_old n w.client.sync) now) ∙ sym (c.is_old.ensures w.client.sync (c.list_revision.ensures w.client k.0 k.1 k.2)) ∙ c.if-is_old.true in
    gives_up w w.client.is_awaiting_reply (connection_seen c.in-Some.own) w.connection awaits own old

pub returns : goal.returns
returns g c = λ task o w represents now.
    let k = represents.client in
    let awaits = sym (c.is_awaiting_reply.ensures w.client k.0 k.1 k.2) ∙ c.if-not-is_awaiting_reply.false in
    let own = sym (ap (option_map connection_seen) c.in-Some.is) ∙ represents.connection in
    let old = sym (ap (λ n. is_old n w.client.sync) now) ∙ sym (c.is_old.ensures w.client.sync (c.list_revision.ensures w.client k.0 k.1 k.2)) ∙ c.if-is_old.false in
    c.move_on.ensures w represents.hub ∙ goes_on w w.client.is_awaiting_reply (connection_seen c.in-Some.own) w.connection awaits own old
