use Rattle.std.proofs.Common.{rules}
use Rattle.api_types.specs.Served.{types_view}
use Rattle.api_request.specs.Views.{denied_of}
use Rattle.requests.specs.Views.{request_in}
use Rattle.requests.proofs.RequestSizes.{sized_unadmitted}
use Rattle.requests.proofs.asking.ask_by_head.Goals as goal

pub returns-in-Err-Denied-clause-size : goal.returns-in-Err-Denied-clause-size
returns-in-Err-Denied-clause-size c = sized_unadmitted (types_view c.args.types.now) (request_in c.args.head.now) c.args.head.now.size (denied_of c.in-Err-Denied.denied) (search rules)
