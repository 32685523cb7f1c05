use Rattle.std.proofs.Common.{length}
use Rattle.api_types.proofs.lawful.+names_differ.Given as goal

abbrev pub decreases-names_differ : goal.decreases-names_differ
decreases-names_differ l = length l.names.now
