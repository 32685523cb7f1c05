use Rattle.std.proofs.Common.{ap, subst}
use Rattle.httpedge.specs.declared.connection.Connection as conns
use Rattle.httpedge.specs.ConnectionViews.{ConnectionRepresents, left}
use Rattle.httpedge.proofs.Turning.{dies}
use Rattle.httpedge.proofs.turns.kill_watch.Goals as goal

pub returns-in-Watch : goal.returns-in-Watch
returns-in-Watch c = λ types x watches holds.
    dies types c.in-Watch.field-0 c.in-Watch.out c.replace.result x (subst (λ (d : conns.Connection). ConnectionRepresents types d x) c.in-Watch.is holds) (ap left c.replace.ensures.value)
