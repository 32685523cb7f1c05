use Rattle.std.proofs.Common.{false, Some, None, sym, ap, ◌∙◌}
use Rattle.std.specs.Prelude.{option_map, unwrap_or}
use Rattle.httpedge.specs.ConnectionViews.{is_waiting_in}
use Rattle.httpedge.specs.IdViews.{is_in}
use Rattle.httpedge.proofs.Forgetting.{waiting_over, found_held}
use Rattle.httpedge.proofs.connections.Connections.is_waiting.Goals as goal

pub returns-in-Some : goal.returns-in-Some
returns-in-Some c = c.is_waiting.ensures ∙ ap (λ o. unwrap_or (option_map is_waiting_in o) false) (sym (found_held c.args.self.now c.args.id (Some c.in-Some.connection.now) (sym c.in-Some.ensures.value)))

pub returns-in-None : goal.returns-in-None
returns-in-None c =
    let self = c.args.self.now in
    waiting_over (is_in self.ended.ranges c.args.id) (is_in self.cut.ranges c.args.id) ∙ ap (λ o. unwrap_or (option_map is_waiting_in o) false) (sym (found_held self c.args.id None (sym c.in-None.ensures.value)))
