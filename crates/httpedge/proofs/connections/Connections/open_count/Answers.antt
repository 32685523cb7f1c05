use Rattle.std.proofs.Common.{◌∙◌}
use Rattle.httpedge.proofs.Counting.{counted}
use Rattle.httpedge.proofs.connections.Connections.open_count.Goals as goal

pub returns : goal.returns
returns c = λ shared s held. c.len.ensures.len ∙ counted c.args.self.now.open_ids s.connections c.len.ensures.ordered held.open_is
