use Rattle.polling.specs.Happens.{Reaches}
use Rattle.polling.specs.ServerViews.{hub_of}
use Rattle.polling.proofs.server.Server.serve.Given as goal

abbrev pub invariant-turns : goal.invariant-turns
invariant-turns g l = Reaches (hub_of l.fn.self) (hub_of l.self)
