use Rattle.std.proofs.Common.{sym, subst}
use Rattle.httpedge.specs.declared.connection.Connection as conns
use Rattle.httpedge.specs.ConnectionViews.{ConnectionRepresents}
use Rattle.httpedge.proofs.connection.receive_on.Goals as goal

pub returns-clause-ok : goal.returns-clause-ok
returns-clause-ok c = λ types m x serves holds.
    c.in_ok-received.ensures.ok types m x serves.0 (subst (λ (d : conns.Connection). ConnectionRepresents types d x) (sym c.replace-was.ensures.value) holds)
