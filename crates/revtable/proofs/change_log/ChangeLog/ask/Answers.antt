use Rattle.std.proofs.Common.{sym, IfOk, subst}
use Rattle.sqlite.specs.Held.{state}
use Rattle.sqlite.specs.Values.{bound}
use Rattle.revtable.proofs.Outcomes.{asked_keeps, shows}
use Rattle.revtable.specs.Rows.{Keeps, IsAnswer}
use Rattle.revtable.proofs.change_log.ChangeLog.ask.Given.{Over}
use Rattle.revtable.proofs.change_log.ChangeLog.ask.Goals as goal

done : (g : Over) (c : goal.After-query_all g) → Keeps c.args.self.now (state g.S.Store c.query_all.new.self) × IfOk c.query_all.result (λ rows. IsAnswer c.args.sql.now (bound c.args.params.now) c.args.self.now rows.items)
done g c =
    let old = state g.S.Store c.self.inside.base in
    let new = state g.S.Store c.query_all.new.self in
    let clean = c.self.invariant.0 c.query_all.new.self in
    let keeps = subst (λ st. Keeps st old) c.self.view_is c.self.invariant.1 in (
      asked_keeps c.args.sql.now c.requires.plain old new (bound c.args.params.now) c.args.self.now c.query_all.result keeps (c.query_all.ensures.ok clean) (c.query_all.ensures.err clean),
      shows c.args.sql.now c.requires.plain c.requires.unlisted old new (bound c.args.params.now) c.args.self.now c.query_all.result keeps (c.query_all.ensures.ok clean),
    )

pub invariant_of-self : goal.invariant_of-self
invariant_of-self g c = (c.self.invariant.0, subst (λ st. Keeps st (state g.S.Store c.query_all.new.self)) (sym c.self.view_is) (done g c).0)

pub returns-clause-ok : goal.returns-clause-ok
returns-clause-ok g c = (done g c).1
