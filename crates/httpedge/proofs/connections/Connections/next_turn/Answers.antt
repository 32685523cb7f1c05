use Rattle.std.proofs.Common.{Some, None, sym, ap, ◌∙◌}
use Rattle.std.specs.Prelude.{option_and_then}
use Rattle.httpedge.specs.ConnectionViews.{phase_in}
use Rattle.httpedge.specs.IdViews.{is_in}
use Rattle.httpedge.specs.NextTurns.{turn_in}
use Rattle.httpedge.proofs.Forgetting.{found_held}
use Rattle.httpedge.proofs.NextTurns.{turn_over}
use Rattle.httpedge.proofs.connections.Connections.next_turn.Goals as goal

pub returns-in-Some : goal.returns-in-Some
returns-in-Some c =
    c.next_turn.ensures
    ∙ ap (λ o. option_and_then (λ d. turn_in c.args.id c.args.current c.args.last_tick (phase_in d)) o) (sym (found_held c.args.self.now c.args.id (Some c.in-Some.connection.now) (sym c.in-Some.ensures.value)))

pub returns-in-None : goal.returns-in-None
returns-in-None c =
    let self = c.args.self.now in
    turn_over c.args.id c.args.current c.args.last_tick (is_in self.ended.ranges c.args.id) (is_in self.cut.ranges c.args.id)
    ∙ ap (λ o. option_and_then (λ d. turn_in c.args.id c.args.current c.args.last_tick (phase_in d)) o) (sym (found_held self c.args.id None (sym c.in-None.ensures.value)))
