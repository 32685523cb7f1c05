use Rattle.std.proofs.Common.{false, sym, ap, subst, ◌∙◌}
use Rattle.std.proofs.lemmas.Bool.{not-true, not-false}
use Rattle.httpedge.specs.declared.connection.Connection as conns
use Rattle.httpedge.specs.declared.connection.Connection.TheVariants as conn
use Rattle.httpedge.specs.ConnectionViews.{ConnectionRepresents, is_watching_in}
use Rattle.httpedge.specs.Steps.{killed_or_ticked}
use Rattle.httpedge.specs.Watches.{ticked}
use Rattle.httpedge.proofs.Making.{idle_turn}
use Rattle.httpedge.proofs.Turning.{goes_on, goes_no_more, turn_did}
use Rattle.httpedge.proofs.turns.tick_on.Goals as goal

pub returns-then-not-change-clause-ticks : goal.returns-then-not-change-clause-ticks
returns-then-not-change-clause-ticks c = λ types m x represents holds.
    goes_on types (ticked types c.args.ms) c.in-Watch.watch c.tick.new.self c.in-Watch.out c.tick.new.out x c.in-Ok.change (not-true c.in-Ok.change.has_ended c.if-not-change.true)
    (subst (λ (d : conns.Connection). ConnectionRepresents types d x) c.in-Watch.is holds) (c.in-Ok.ensures.ok types m represents)

pub returns-then-not-change-clause-did : goal.returns-then-not-change-clause-did
returns-then-not-change-clause-did c = λ types m x represents holds.
    turn_did types (ticked types c.args.ms) c.in-Watch.watch c.tick.new.self c.in-Watch.out c.tick.new.out x c.in-Ok.change
    (subst (λ (d : conns.Connection). ConnectionRepresents types d x) c.in-Watch.is holds) (c.in-Ok.ensures.ok types m represents)

pub returns-else-not-change-clause-ticks : goal.returns-else-not-change-clause-ticks
returns-else-not-change-clause-ticks c = λ types m x represents holds.
    subst (λ o. ConnectionRepresents types (conn.Ended o) (killed_or_ticked types c.args.ms false x)) (sym c.replace.ensures.value)
    (goes_no_more types (ticked types c.args.ms) c.in-Watch.watch c.tick.new.self c.in-Watch.out c.tick.new.out x c.in-Ok.change (not-false c.in-Ok.change.has_ended c.if-not-change.false)
    (subst (λ (d : conns.Connection). ConnectionRepresents types d x) c.in-Watch.is holds) (c.in-Ok.ensures.ok types m represents))

pub returns-else-not-change-clause-did : goal.returns-else-not-change-clause-did
returns-else-not-change-clause-did c = λ types m x represents holds.
    turn_did types (ticked types c.args.ms) c.in-Watch.watch c.tick.new.self c.in-Watch.out c.tick.new.out x c.in-Ok.change
    (subst (λ (d : conns.Connection). ConnectionRepresents types d x) c.in-Watch.is holds) (c.in-Ok.ensures.ok types m represents)

pub returns-in-Head-clause-ticks : goal.returns-in-Head-clause-ticks
returns-in-Head-clause-ticks c = λ types m x represents holds. (idle_turn types (ticked types c.args.ms) c.args.connection.now x (ap is_watching_in c.in-Head.is) holds).1

pub returns-in-Head-clause-did : goal.returns-in-Head-clause-did
returns-in-Head-clause-did c = λ types m x represents holds.
    c.none.ensures ∙ (idle_turn types (ticked types c.args.ms) c.args.connection.now x (ap is_watching_in c.in-Head.is) holds).0

pub returns-in-Body-clause-ticks : goal.returns-in-Body-clause-ticks
returns-in-Body-clause-ticks c = λ types m x represents holds. (idle_turn types (ticked types c.args.ms) c.args.connection.now x (ap is_watching_in c.in-Body.is) holds).1

pub returns-in-Body-clause-did : goal.returns-in-Body-clause-did
returns-in-Body-clause-did c = λ types m x represents holds.
    c.none-in-Body.ensures ∙ (idle_turn types (ticked types c.args.ms) c.args.connection.now x (ap is_watching_in c.in-Body.is) holds).0

pub returns-in-Ended-clause-ticks : goal.returns-in-Ended-clause-ticks
returns-in-Ended-clause-ticks c = λ types m x represents holds. (idle_turn types (ticked types c.args.ms) c.args.connection.now x (ap is_watching_in c.in-Ended.is) holds).1

pub returns-in-Ended-clause-did : goal.returns-in-Ended-clause-did
returns-in-Ended-clause-did c = λ types m x represents holds.
    c.none-in-Ended.ensures ∙ (idle_turn types (ticked types c.args.ms) c.args.connection.now x (ap is_watching_in c.in-Ended.is) holds).0

pub returns-in-Closed-clause-ticks : goal.returns-in-Closed-clause-ticks
returns-in-Closed-clause-ticks c = λ types m x represents holds. (idle_turn types (ticked types c.args.ms) c.args.connection.now x (ap is_watching_in c.in-Closed.is) holds).1

pub returns-in-Closed-clause-did : goal.returns-in-Closed-clause-did
returns-in-Closed-clause-did c = λ types m x represents holds.
    c.none-in-Closed.ensures ∙ (idle_turn types (ticked types c.args.ms) c.args.connection.now x (ap is_watching_in c.in-Closed.is) holds).0
