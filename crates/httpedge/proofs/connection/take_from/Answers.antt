use Rattle.std.proofs.Common.{subst}
use Rattle.httpedge.specs.declared.connection.Connection as conns
use Rattle.httpedge.specs.ConnectionViews.{ConnectionRepresents}
use Rattle.httpedge.proofs.Representing.{takes_ended, takes_watching}
use Rattle.httpedge.proofs.connection.take_from.Goals as goal

pub returns-in-Ended : goal.returns-in-Ended
returns-in-Ended c = λ types x holds.
    takes_ended types c.in-Ended.out c.take-in-Ended.new.self x c.args.n c.take-in-Ended.ensures (subst (λ (d : conns.Connection). ConnectionRepresents types d x) c.in-Ended.is holds)

pub returns-in-Watch : goal.returns-in-Watch
returns-in-Watch c = λ types x holds.
    takes_watching types c.in-Watch.field-0 c.in-Watch.out c.take.new.self x c.args.n c.take.ensures (subst (λ (d : conns.Connection). ConnectionRepresents types d x) c.in-Watch.is holds)
