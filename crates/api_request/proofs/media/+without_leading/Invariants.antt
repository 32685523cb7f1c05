use Rattle.std.proofs.Common.{length}
use Rattle.api_request.proofs.media.+without_leading.Given as goal

abbrev pub decreases-without_leading : goal.decreases-without_leading
decreases-without_leading l = length l.field.now
