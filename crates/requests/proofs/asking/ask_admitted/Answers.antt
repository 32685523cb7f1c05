use Rattle.api_request.specs.Views.{denied_of, target_of}
use Rattle.requests.specs.Views.{request_in}
use Rattle.requests.proofs.RequestSizes.{body_short, sized_denied}
use Rattle.requests.proofs.asking.ask_admitted.Goals as goal

pub ask_by_length-requires-clause-length : goal.ask_by_length-requires-clause-length
ask_by_length-requires-clause-length c = body_short c.args.method (request_in c.args.head.now) c.in-Ok.length c.in-Ok.ensures

pub returns-in-Err-clause-size : goal.returns-in-Err-clause-size
returns-in-Err-clause-size c = sized_denied c.args.method (request_in c.args.head.now) (target_of c.args.target) c.args.head.now.size (denied_of c.in-Err.denied) c.in-Err.ensures
