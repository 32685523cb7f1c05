use Rattle.std.proofs.Common.{◌∙◌}
use Rattle.httpedge.proofs.Representing.{ended_is}
use Rattle.httpedge.proofs.hub.Hub.ended.Goals as goal

pub returns : goal.returns
returns c = λ s is. c.has_ended.ensures ∙ ended_is s.types _ _ (is.0.connections c.args.id)
