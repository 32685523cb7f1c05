use Rattle.std.proofs.Common.{◌∙◌, None, Some, ap, sym}
use Rattle.std.specs.Prelude.{option_map}
use Rattle.httpedge.specs.HubViews.{event_of}
use Rattle.world.specs.Views.{connection_seen}
use Rattle.world.proofs.NextMoves.{waits}
use Rattle.world.proofs.moving.wait_on.Goals as goal

pub returns-in-Some : goal.returns-in-Some
returns-in-Some c = λ w serves. waits w (connection_seen c.args.own.now) (Some (event_of c.in-Some.turn)) (sym (ap (option_map event_of) c.in-Some.is) ∙ c.next_turn.ensures w.hub serves)

pub returns-in-None : goal.returns-in-None
returns-in-None c = λ w serves. waits w (connection_seen c.args.own.now) None (sym (ap (option_map event_of) c.in-None.is) ∙ c.next_turn.ensures w.hub serves)
