use Rattle.std.proofs.Common.{length}
use Rattle.discovery.proofs.key_names.+sorted.Given as goal

abbrev pub decreases-sorted : goal.decreases-sorted
decreases-sorted l = length l.names.now
