use Rattle.std.proofs.Common.{subst, sym}
use Rattle.httpedge.specs.HubViews.{HubRepresents}
use Rattle.httpedge.specs.Steps.{start}
use Rattle.httpedge.specs.declared.hub.Hub.{Hub}
use Rattle.polling.proofs.server.Server.listen.Goals as goal

pub returns : goal.returns
returns g c = λ types m stands. subst (λ (h : Hub). HubRepresents h (start types m)) (sym c.new-peers.ensures) (c.new-hub.ensures types m stands)
