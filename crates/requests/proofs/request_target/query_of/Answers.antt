use Rattle.std.proofs.Common.{None, lit<}
use Rattle.std.proofs.lemmas.Str.Pattern.{split_once_first}
use Rattle.requests.proofs.RequestTargets.{nothing_after}
use Rattle.requests.proofs.request_target.query_of.Goals as goal

pub returns-in-None : goal.returns-in-None
returns-in-None c = nothing_after c.args.request_target.now (split_once_first 63 c.args.request_target.now None c.in-None.ensures.cases (lit< tt))
