use Rattle.world_laws.specs.Tasks.{Task}
use Rattle.world_laws.specs.World as worlds
use Rattle.scripts.specs.Piped.{IsAt, Represents}
use Rattle.scripts.proofs.piping.answer_all.Given as goal

abbrev pub invariant-lines : goal.invariant-lines
invariant-lines g l =
    (task : Task) (w : worlds.World) → Represents l.fn.world task w
    → IsAt (g.R.Read.remaining l.fn.reader) (g.R.Read.remaining l.reader) (g.W.Write.contents l.fn.writer) (g.W.Write.contents l.writer) task w l.world l.events
