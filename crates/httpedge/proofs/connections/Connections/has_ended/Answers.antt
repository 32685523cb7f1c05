use Rattle.std.proofs.Common.{false, Some, None, sym, ap, ◌∙◌}
use Rattle.std.specs.Prelude.{option_map, unwrap_or}
use Rattle.httpedge.specs.ConnectionViews.{has_ended_in}
use Rattle.httpedge.proofs.Forgetting.{ended_over, found_held}
use Rattle.httpedge.proofs.connections.Connections.has_ended.Goals as goal

pub returns-in-Some : goal.returns-in-Some
returns-in-Some c = c.has_ended.ensures ∙ ap (λ o. unwrap_or (option_map has_ended_in o) false) (sym (found_held c.args.self.now c.args.id (Some c.in-Some.connection.now) (sym c.in-Some.ensures.value)))

pub returns-in-None : goal.returns-in-None
returns-in-None c =
    let self = c.args.self.now in
    c.unwrap_or.ensures ∙ ap (λ o. unwrap_or o false) c.had_ended_if_over.ensures ∙ ended_over _ _ ∙ ap (λ o. unwrap_or (option_map has_ended_in o) false) (sym (found_held self c.args.id None (sym c.in-None.ensures.value)))
