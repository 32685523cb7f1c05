use Rattle.std.proofs.Common.{length}
use Rattle.api_request.proofs.media.+without_trailing.Given as goal

abbrev pub decreases-without_trailing : goal.decreases-without_trailing
decreases-without_trailing l = length l.field.now
