use Rattle.std.proofs.Common.{length}
use Rattle.typed.proofs.borrowed_items.+key_members.Given as goal

abbrev pub decreases-key_members : goal.decreases-key_members
decreases-key_members l = length l.names.now
