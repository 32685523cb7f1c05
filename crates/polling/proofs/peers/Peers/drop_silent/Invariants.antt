use Rattle.polling.specs.Happens.{ReachesUnasked}
use Rattle.polling.proofs.peers.Peers.drop_silent.Given as goal

abbrev pub invariant-loop-id : goal.invariant-loop-id
invariant-loop-id g l = ReachesUnasked l.fn.self.hub l.self.hub
