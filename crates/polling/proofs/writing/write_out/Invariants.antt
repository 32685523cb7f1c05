use Rattle.polling.proofs.Leading.{WritesOut}
use Rattle.polling.proofs.writing.write_out.Given as goal

abbrev pub invariant-writes : goal.invariant-writes
invariant-writes g l = WritesOut l.fn.id (g.W.Write.contents l.fn.writer) (g.W.Write.contents l.writer) l.fn.hub l.hub
