use Rattle.std.proofs.Common.{◌≡◌, ◌∙◌, ap, arith, drop, length, sym}
use Rattle.std.proofs.lemmas.List.{length-drop}
use Rattle.world.specs.Views.{connection_seen}
use Rattle.world.proofs.NextMoves.{asks, carries, rests}
use Rattle.world.proofs.moving.move_on.Goals as goal

pub returns-then-own-written : goal.returns-then-own-written
returns-then-own-written c = λ w serves. carries w (connection_seen c.args.own.now) _ (ap length (c.written-written.ensures w.hub serves)) c.if-own-written.true

pub returns-then-unsent-gt0 : goal.returns-then-unsent-gt0
returns-then-unsent-gt0 c = λ w serves.
    let own = c.args.own.now in
    let left : c.saturating_sub-unsent.result ≡ length (drop own.sent own.request.items) = omega (arith, c.saturating_sub-unsent.ensures, c.len.ensures, own.request.ok, length-drop own.sent own.request.items) in
    asks w (connection_seen own) _ _ (ap length (c.written-written.ensures w.hub serves)) c.if-own-written.false left c.if-unsent-gt0.true

pub returns : goal.returns
returns c = λ w serves.
    let own = c.args.own.now in
    let left : c.saturating_sub-unsent.result ≡ length (drop own.sent own.request.items) = omega (arith, c.saturating_sub-unsent.ensures, c.len.ensures, own.request.ok, length-drop own.sent own.request.items) in
    c.wait_on.ensures w serves ∙ rests w (connection_seen own) _ _ (ap length (c.written-written.ensures w.hub serves)) c.if-own-written.false left c.if-unsent-gt0.false
