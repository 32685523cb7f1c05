use Rattle.std.proofs.Common.{◌∙◌}
use Rattle.httpedge.proofs.Ranging.{covers_is}
use Rattle.httpedge.proofs.ids.Ids.contains.Goals as goal

pub returns : goal.returns
returns c = c.covers.ensures ∙ covers_is c.args.self.now.ranges c.args.id c.before-2.result c.before-2.ensures.ordered c.args.self.now.apart c.before-2.ensures.last
