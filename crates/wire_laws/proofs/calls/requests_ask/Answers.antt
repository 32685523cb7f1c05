use Rattle.wire_laws.proofs.Asking.{bodiless_asks, path_asks, request_asks}
use Rattle.wire_laws.proofs.calls.requests_ask.Goals as goal

pub returns : goal.returns
returns c = record { with_body = request_asks; without_body = bodiless_asks; without_query = path_asks }
