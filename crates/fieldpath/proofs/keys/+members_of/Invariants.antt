use Rattle.std.proofs.Common.{length}
use Rattle.fieldpath.proofs.keys.+members_of.Given as goal

abbrev pub decreases-members_of : goal.decreases-members_of
decreases-members_of l = length l.fields.now
