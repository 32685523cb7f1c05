use Rattle.polling.specs.Happens.{ReachesUnasked}
use Rattle.polling.proofs.peers.Peers.pump_from.Given as goal

abbrev pub invariant-loop-at : goal.invariant-loop-at
invariant-loop-at g l = ReachesUnasked l.fn.self.hub l.self.hub
