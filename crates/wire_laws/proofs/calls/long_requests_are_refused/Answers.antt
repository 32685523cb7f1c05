use Rattle.std.proofs.Common.{refl}
use Rattle.requests.specs.Refusals.{head_too_large, refuse}
use Rattle.wire_laws.proofs.PrintedRequests.{too_long_says}
use Rattle.wire_laws.proofs.calls.long_requests_are_refused.Goals as goal

pub returns : goal.returns
returns c = record {
  reads = too_long_says;
  asks = λ types method request_target body is. (refuse head_too_large, too_long_says method request_target body is, refl);
}
