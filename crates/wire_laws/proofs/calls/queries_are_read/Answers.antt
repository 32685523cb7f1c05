use Rattle.wire_laws.proofs.Queries.{pairs_back, path_back}
use Rattle.wire_laws.proofs.calls.queries_are_read.Goals as goal

pub returns : goal.returns
returns c = record { path = path_back; pairs = pairs_back }
