use Rattle.std.proofs.Common.{length}
use Rattle.json_patch.proofs.placing.+placed.Given as goal

abbrev pub decreases-placed : goal.decreases-placed
decreases-placed l = length l.tokens.now
