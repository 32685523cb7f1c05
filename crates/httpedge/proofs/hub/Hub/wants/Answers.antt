use Rattle.std.proofs.Common.{◌∙◌}
use Rattle.httpedge.proofs.Representing.{waiting_is}
use Rattle.httpedge.proofs.hub.Hub.wants.Goals as goal

pub returns : goal.returns
returns c = λ s is. c.is_waiting.ensures ∙ waiting_is s.types _ _ (is.0.connections c.args.id)
