use Rattle.std.proofs.Common.{◌+◌, ◌*◌, length}
use Rattle.pathmap.proofs.insert.+insert.Given as goal

abbrev pub decreases-insert_at : goal.decreases-insert_at
decreases-insert_at l = 2 * length l.texts.now

abbrev pub decreases-insert_below : goal.decreases-insert_below
decreases-insert_below l = 2 * length l.rest.now + 1
