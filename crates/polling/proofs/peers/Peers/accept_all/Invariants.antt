use Rattle.polling.specs.Happens.{Reaches}
use Rattle.polling.proofs.peers.Peers.accept_all.Given as goal

abbrev pub invariant-accepts : goal.invariant-accepts
invariant-accepts g l = Reaches l.fn.self.hub l.self.hub
