use Rattle.discovery.proofs.Loops.{TokensSoFar}
use Rattle.discovery.proofs.put.put.Given as goal

abbrev pub invariant-loop-next : goal.invariant-loop-next
invariant-loop-next l = TokensSoFar l.tokens l.fn.writer l.next-index l.writer
