use Rattle.std.proofs.Common.{length}
use Rattle.json_patch.proofs.removing.+removed.Given as goal

abbrev pub decreases-removed : goal.decreases-removed
decreases-removed l = length l.tokens.now
