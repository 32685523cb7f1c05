-- Which events are the next move of a world: what holds of each of these holds of the next move.
use Rattle.std.proofs.Common.{◌≡◌, ℕ, nat_lt, Bool, true, false, cond, length, Option, Some, None, option_map, refl, subst}
use Rattle.std.specs.FinMap as fin
use Rattle.std.specs.Prelude.{unwrap_or}
use Rattle.watchline.specs.Watches.{is_bookmark_due}
use Rattle.httpedge.specs.Connections.{Connection, Phase, ended, gone, waiting, watching}
use Rattle.httpedge.specs.Steps.{pumps, ticks}
use Rattle.world_laws.specs.Moves.{is_current, is_old, move_by, move_on, next_move, wait_by, wait_on}
use Rattle.world_laws.specs.World.{ClientConnection, World, WorldEvent, cut, other, reply_on, send, to_client, to_server}

-- of what happens on the client's connection, and of a tick
pub record OnOwn (Holds : WorldEvent → Type 0) (own : ClientConnection) : Type 0 where
  pub asks : (n : ℕ) → Holds (to_server n)
  pub reads : (n : ℕ) → Holds (to_client n)
  pub pump : (max : ℕ) → Holds (other (pumps own.id max))
  pub tick : (ms : ℕ) → Holds (other (ticks ms))

module _ (w : World) (Holds : WorldEvent → Type 0) (sends : Holds send) (cuts : Holds cut) (on_own : (own : ClientConnection) → w.connection ≡ Some own → OnOwn Holds own) where
  either : (b : Bool) (e f : WorldEvent) → Holds e → Holds f → Holds (cond b e f)
  either true e f one another = one
  either false e f one another = another

  module _ (own : ClientConnection) (on : OnOwn Holds own) where
    waits : (st : Phase) → Holds (wait_by w own.id st)
    waits (waiting bytes) = cuts
    waits (watching watch) =
        either (nat_lt watch.cursor.position w.hub.machine.current) (other (pumps own.id w.hub.machine.current)) (cond (is_bookmark_due watch.cursor) (other (ticks w.hub.last_tick)) cut) (on.pump w.hub.machine.current)
        (either (is_bookmark_due watch.cursor) (other (ticks w.hub.last_tick)) cut (on.tick w.hub.last_tick) cuts)
    waits ended = cuts
    waits (gone had_ended) = cuts

    wait : (o : Option Connection) → Holds (unwrap_or (option_map (λ c. wait_by w own.id c.phase) o) cut)
    wait None = cuts
    wait (Some c) = waits c.phase

    moves : Holds (move_on w own)
    moves =
        either (nat_lt own.handed (length (reply_on w own))) (to_client (length (reply_on w own))) (cond (nat_lt 0 (length own.unsent)) (to_server (length own.unsent)) (wait_on w own)) (on.reads (length (reply_on w own)))
        (either (nat_lt 0 (length own.unsent)) (to_server (length own.unsent)) (wait_on w own) (on.asks (length own.unsent)) (wait (fin.get w.hub.connections own.id)))

  moves_by : (awaits : Bool) (own : Option ClientConnection) → w.connection ≡ own → Holds (move_by w awaits own)
  moves_by false own has = sends
  moves_by true None has = sends
  moves_by true (Some own) has = either (is_old w.hub.machine.current w.client.sync) cut (move_on w own) cuts (moves own (on_own own has))

  pub next_holds : (e : WorldEvent) → next_move w ≡ Some e → Holds e
  next_holds e is = go (is_current w) is
    where
      same : (f : WorldEvent) → Some f ≡ Some e → Holds f → Holds e
      same f is holds = subst (λ (o : Option WorldEvent). Holds (unwrap_or o f)) is holds

      go : (b : Bool) → cond b None (Some (move_by w w.client.is_awaiting_reply w.connection)) ≡ Some e → Holds e
      go true is = absurd cc
      go false is = same (move_by w w.client.is_awaiting_reply w.connection) is (moves_by w.client.is_awaiting_reply w.connection refl)
