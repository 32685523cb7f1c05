use Rattle.std.proofs.Common.{subst}
use Rattle.api_types.specs.Served.{types_view}
use Rattle.requests.specs.Pendings.{FindsSized}
use Rattle.requests.proofs.asking.ask.Goals as goal

pub returns-in-None : goal.returns-in-None
returns-in-None c = subst (FindsSized (types_view c.args.types.now) c.args.bytes.now) c.in-None.is c.in_ok-ask_sized.ensures

pub returns-in-Some : goal.returns-in-Some
returns-in-Some c = (subst (FindsSized (types_view c.args.types.now) c.args.bytes.now) c.in-Some.is c.in_ok-ask_sized.ensures).0
