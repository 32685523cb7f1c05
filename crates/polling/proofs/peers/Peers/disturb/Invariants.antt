use Rattle.polling.specs.Happens.{ReachesUnasked}
use Rattle.polling.proofs.peers.Peers.disturb.Given as goal

abbrev pub invariant-loop-revision : goal.invariant-loop-revision
invariant-loop-revision g l = ReachesUnasked l.fn.self.hub l.self.hub
