use Rattle.polling.proofs.Leading.{HandsOver}
use Rattle.polling.proofs.reading.hand_over.Given as goal

abbrev pub invariant-reads : goal.invariant-reads
invariant-reads g l = HandsOver l.fn.id (g.R.Read.remaining l.fn.reader) (g.R.Read.remaining l.reader) l.fn.hub l.hub
