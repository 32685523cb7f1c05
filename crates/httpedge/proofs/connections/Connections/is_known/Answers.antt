use Rattle.std.proofs.Common.{Some, None, sym, ap, ◌∙◌}
use Rattle.std.specs.Prelude.{is_some}
use Rattle.httpedge.proofs.Forgetting.{found_held, known_over}
use Rattle.httpedge.proofs.connections.Connections.is_known.Goals as goal

pub returns-in-Some : goal.returns-in-Some
returns-in-Some c = ap is_some (sym (found_held c.args.self.now c.args.id (Some _) (sym c.in-Some.ensures.value)))

pub returns-in-None : goal.returns-in-None
returns-in-None c = c.is_some.ensures ∙ ap is_some c.had_ended_if_over.ensures ∙ known_over _ _ ∙ ap is_some (sym (found_held c.args.self.now c.args.id None (sym c.in-None.ensures.value)))
