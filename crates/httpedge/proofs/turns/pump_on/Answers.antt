use Rattle.std.proofs.Common.{sym, ap, subst, ◌∙◌}
use Rattle.std.proofs.lemmas.Bool.{not-true, not-false}
use Rattle.httpedge.specs.declared.connection.Connection as conns
use Rattle.httpedge.specs.declared.connection.Connection.TheVariants as conn
use Rattle.httpedge.specs.ConnectionViews.{ConnectionRepresents, is_watching_in}
use Rattle.httpedge.specs.Steps.{with_turn}
use Rattle.httpedge.specs.Watches.{pumped}
use Rattle.httpedge.proofs.Making.{idle_turn}
use Rattle.httpedge.proofs.Turning.{goes_on, goes_no_more, turn_did}
use Rattle.httpedge.proofs.turns.pump_on.Goals as goal

pub returns-then-not-change-clause-ok : goal.returns-then-not-change-clause-ok
returns-then-not-change-clause-ok c = λ types m x represents holds.
    let turn = pumped m c.args.max in
    let was = subst (λ (d : conns.Connection). ConnectionRepresents types d x) c.in-Watch.is holds in
    let turns = c.in-Ok.ensures.ok types m represents in (
      turn_did types turn c.in-Watch.watch c.pump.new.self c.in-Watch.out c.pump.new.out x c.in-Ok.change was turns,
      goes_on types turn c.in-Watch.watch c.pump.new.self c.in-Watch.out c.pump.new.out x c.in-Ok.change (not-true c.in-Ok.change.has_ended c.if-not-change.true) was turns,
    )

pub returns-else-not-change-clause-ok : goal.returns-else-not-change-clause-ok
returns-else-not-change-clause-ok c = λ types m x represents holds.
    let turn = pumped m c.args.max in
    let was = subst (λ (d : conns.Connection). ConnectionRepresents types d x) c.in-Watch.is holds in
    let turns = c.in-Ok.ensures.ok types m represents in (
      turn_did types turn c.in-Watch.watch c.pump.new.self c.in-Watch.out c.pump.new.out x c.in-Ok.change was turns,
      subst (λ o. ConnectionRepresents types (conn.Ended o) (with_turn turn x)) (sym c.replace.ensures.value)
          (goes_no_more types turn c.in-Watch.watch c.pump.new.self c.in-Watch.out c.pump.new.out x c.in-Ok.change (not-false c.in-Ok.change.has_ended c.if-not-change.false) was turns),
    )

pub returns-in-Head-clause-ok : goal.returns-in-Head-clause-ok
returns-in-Head-clause-ok c = λ types m x represents holds.
    let idle = idle_turn types (pumped m c.args.max) c.args.connection.now x (ap is_watching_in c.in-Head.is) holds in
    (c.none.ensures ∙ idle.0, idle.1)

pub returns-in-Body-clause-ok : goal.returns-in-Body-clause-ok
returns-in-Body-clause-ok c = λ types m x represents holds.
    let idle = idle_turn types (pumped m c.args.max) c.args.connection.now x (ap is_watching_in c.in-Body.is) holds in
    (c.none-in-Body.ensures ∙ idle.0, idle.1)

pub returns-in-Ended-clause-ok : goal.returns-in-Ended-clause-ok
returns-in-Ended-clause-ok c = λ types m x represents holds.
    let idle = idle_turn types (pumped m c.args.max) c.args.connection.now x (ap is_watching_in c.in-Ended.is) holds in
    (c.none-in-Ended.ensures ∙ idle.0, idle.1)

pub returns-in-Closed-clause-ok : goal.returns-in-Closed-clause-ok
returns-in-Closed-clause-ok c = λ types m x represents holds.
    let idle = idle_turn types (pumped m c.args.max) c.args.connection.now x (ap is_watching_in c.in-Closed.is) holds in
    (c.none-in-Closed.ensures ∙ idle.0, idle.1)
