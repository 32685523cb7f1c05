use Rattle.polling.specs.Happens.{Reaches}
use Rattle.polling.proofs.server.take_reports.Given as goal

abbrev pub invariant-loop-event : goal.invariant-loop-event
invariant-loop-event g l = Reaches l.fn.peers.hub l.peers.hub
